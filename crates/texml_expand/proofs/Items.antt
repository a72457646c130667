-- The items of rests: how many there are, and what those set aside stand for as the table grows.
use Rattle.std.proofs.Common.{◌≡◌, ◌+◌, Bool, true, false, List, [], ◌∷◌, ◌++◌, map, length, refl, ap₂, arith}
use Rattle.std.proofs.lemmas.List.Sums.{sum_by-cons}
use Rattle.std.proofs.lemmas.List.Elements.{All-tail}
use Rattle.texml_base.specs.Outside.{Shelf}
use Rattle.texml_token.specs.Numbers.{Table, Extends}
use Rattle.texml_input.specs.Rest.{Item, Tok, Frozen, items_at, back_as, item_size, size}
use Rattle.texml_input.specs.Held.{Source, Plain, Marked, File, Fence, aside_of, SourceWithin, SourcesWithin}
use Rattle.texml_input.proofs.Sources.{rest_grown}

-- what is set aside stands for the same by a grown table
pub aside_grown : (old new : Table) (shelf : Shelf) → Extends old new → (s : List Source) → SourcesWithin (length old) s → map (items_at new) (aside_of shelf s) ≡ map (items_at old) (aside_of shelf s)
aside_grown old new shelf g [] h = refl
aside_grown old new shelf g (Plain t ∷ s) h = aside_grown old new shelf g s (All-tail (SourceWithin (length old)) (Plain t) s h)
aside_grown old new shelf g (Marked t ∷ s) h = aside_grown old new shelf g s (All-tail (SourceWithin (length old)) (Marked t) s h)
aside_grown old new shelf g (File f ∷ s) h = aside_grown old new shelf g s (All-tail (SourceWithin (length old)) (File f) s h)
aside_grown old new shelf g (Fence ∷ s) h =
    let w = All-tail (SourceWithin (length old)) Fence s h in
    ap₂ (λ a b. a ∷ b) (rest_grown old new shelf g s w) (aside_grown old new shelf g s w)

-- the size of an item and more
pub size-cons : {T : Type 0} → (x : Item T) (items : List (Item T)) → size (x ∷ items) ≡ item_size x + size items
size-cons x items = sum_by-cons item_size x items

pub size_put : {T : Type 0} → (list : List T) (items : List (Item T)) → size (map Tok list ++ items) ≡ length list + size items
size_put [] items = omega arith
size_put (t ∷ list) items = omega (arith, size-cons (Tok t) (map Tok list ++ items), size_put list items)

pub size_back : {T : Type 0} → (t : T) (frozen : Bool) (items : List (Item T)) → size (back_as t frozen ∷ items) ≡ 1 + size items
size_back t true items = size-cons (Frozen t) items
size_back t false items = size-cons (Tok t) items
