-- Frames that are taken away.
use Rattle.std.proofs.Common.{◌≡◌, ℕ, ◌+◌, List, [], ◌∷◌, ◌++◌, map, refl, sym, ap, ◌∙◌, subst, arith}
use Rattle.texml_base.specs.Outside.{Shelf}
use Rattle.texml_token.specs.declared.tokens.Token.{Token as TokenCode}
use Rattle.texml_input.specs.Held.{Source, Plain, Marked, Fence, ids_of, fences_of, AreHeld, IsAtFence}
use Rattle.texml_input.specs.Keeping.{Holds}
use Rattle.texml_input.specs.Inside.{written, ClosesFrame}
use Rattle.texml_input.specs.declared.turning.Frame.{Frame}
use Rattle.texml_input.specs.declared.turning.Frame.TheVariants as frame
use Rattle.texml_input.proofs.Sources.{at_fence, ids_put, ids_plain, fences_put, holds_refl, holds_same, holds_closed, holds_trans}

pub fences_plain : (list : List TokenCode) → fences_of (map Plain list) ≡ 0
fences_plain [] = refl
fences_plain (t ∷ list) = fences_plain list

-- at a fence, a frame that is none has nothing
pub dropped : (f : Frame) (a m : List Source) → IsAtFence a → a ≡ written f ++ m → (f ≡ frame.Fence → ⊥) → m ≡ a
dropped (frame.Token t) a m h e n = absurd (subst IsAtFence e h)
dropped (frame.Frozen t) a m h e n = absurd (subst IsAtFence e h)
dropped (frame.List list) a m h e n = at_fence list m (subst IsAtFence e h) ∙ sym e
dropped (frame.Macro list) a m h e n = at_fence list m (subst IsAtFence e h) ∙ sym e
dropped (frame.File g) a m h e n = absurd (subst IsAtFence e h)
dropped frame.Fence a m h e n = absurd (n refl)

pub fences_written : (f : Frame) (m : List Source) → fences_of (written f ++ m) ≡ fences_of (written f) + fences_of m
fences_written (frame.Token t) m = omega arith
fences_written (frame.Frozen t) m = omega arith
fences_written (frame.List list) m = omega (arith, fences_put list m, fences_plain list)
fences_written (frame.Macro list) m = omega (arith, fences_put list m, fences_plain list)
fences_written (frame.File g) m = omega arith
fences_written frame.Fence m = omega arith

nothing_held : (ids xs : List ℕ) → xs ≡ [] → AreHeld ids xs
nothing_held ids xs e = subst (AreHeld ids) (sym e) tt

-- the ids of one frame are held
pub held_frame : (f : Frame) (ids : List ℕ) (m : List Source) → AreHeld ids (ids_of (written f ++ m)) → AreHeld ids (ids_of (written f))
held_frame (frame.Token t) ids m h = tt
held_frame (frame.Frozen t) ids m h = tt
held_frame (frame.List list) ids m h = nothing_held ids (ids_of (map Plain list)) (ids_plain list)
held_frame (frame.Macro list) ids m h = nothing_held ids (ids_of (map Plain list)) (ids_plain list)
held_frame (frame.File g) ids m h = (h.0, refl, tt)
held_frame frame.Fence ids m h = tt

same_shelf : (old new : Shelf) (a m : List Source) → new ≡ old → ids_of a ≡ ids_of m → AreHeld old.ids (ids_of a) → Holds old new a m
same_shelf old new a m e ids h =
    subst (λ s. Holds old s a m) (sym e) (holds_same old old a a m a refl ids (holds_refl old a h))

pub holds_frame : (f : Frame) (old new : Shelf) (m : List Source) → AreHeld old.ids (ids_of (written f ++ m)) → ClosesFrame old new f → Holds old new (written f ++ m) m
holds_frame (frame.Token t) old new m h c = same_shelf old new (Plain t ∷ m) m c refl h
holds_frame (frame.Frozen t) old new m h c = same_shelf old new (Marked t ∷ m) m c refl h
holds_frame (frame.List list) old new m h c = same_shelf old new (map Plain list ++ m) m c (ids_put list m) h
holds_frame (frame.Macro list) old new m h c = same_shelf old new (map Plain list ++ m) m c (ids_put list m) h
holds_frame (frame.File g) old new m h c = holds_closed old new g m h c
holds_frame frame.Fence old new m h c = same_shelf old new (Fence ∷ m) m c refl h

pub total_frame : (f : Frame) (old new : Shelf) → ClosesFrame old new f → new.total ≡ old.total
total_frame (frame.Token t) old new c = ap (λ s. s.total) c
total_frame (frame.Frozen t) old new c = ap (λ s. s.total) c
total_frame (frame.List list) old new c = ap (λ s. s.total) c
total_frame (frame.Macro list) old new c = ap (λ s. s.total) c
total_frame (frame.File g) old new c = c.total
total_frame frame.Fence old new c = ap (λ s. s.total) c

-- one more frame was taken away
pub holds_more : (s t u : Shelf) (a b m : List Source) (f : Frame) → Holds s t a b → b ≡ written f ++ m → ClosesFrame t u f → Holds s u a m
holds_more s t u a b m f h e c =
    let h' = subst (Holds s t a) e h in holds_trans s t u a (written f ++ m) m h' (holds_frame f t u m h'.held c)
