-- Pieces that are written one after the other.
use Rattle.std.proofs.Common.{◌≡◌, ◌∙◌, ap, sym, subst, refl, ℕ, ◌≤◌, Bool, true, false, List, [], ◌++◌, take, drop, length, append_assoc, append-nil}
use Rattle.std.proofs.lemmas.List.{take-append-drop}
use Rattle.std.proofs.Math.Seq.{take-append_seam}
use Rattle.texml_base.specs.Outside.{inked}
use Rattle.texml_base.specs.Rising.{Rose}
use Rattle.texml_base.proofs.Taking.{inked-append, inked-nil}
use Rattle.texml_html.specs.Writing.{Lent, Took, BrokeOff, WroteBy, Wrote}

by_both : (x y : Bool) (old new : Lent) (piece : List ℕ) → old.failed ≡ x → new.failed ≡ y → WroteBy x y old piece new → WroteBy old.failed new.failed old piece new
by_both x y old new piece e f by = subst (λ (b : Bool). WroteBy b new.failed old piece new) (sym e) (subst (λ (b : Bool). WroteBy x b old piece new) (sym f) by)

by_seen : (x y : Bool) (old new : Lent) (piece : List ℕ) → old.failed ≡ x → new.failed ≡ y → WroteBy old.failed new.failed old piece new → WroteBy x y old piece new
by_seen x y old new piece e f by = subst (λ (b : Bool). WroteBy x b old piece new) f (subst (λ (b : Bool). WroteBy b new.failed old piece new) e by)

pub wrote_whole : (old new : Lent) (piece : List ℕ) → old.failed ≡ false → new.failed ≡ false → new.loan ≡ old.loan → Took old piece new → Wrote old piece new
wrote_whole old new piece e f loan took = record { loan = loan; by = by_both false false old new piece e f took }

pub wrote_part : (old new : Lent) (piece : List ℕ) → old.failed ≡ false → new.failed ≡ true → new.loan ≡ old.loan → BrokeOff old piece new → Wrote old piece new
wrote_part old new piece e f loan broke = record { loan = loan; by = by_both false true old new piece e f broke }

pub wrote_not : (old : Lent) (piece : List ℕ) → old.failed ≡ true → Wrote old piece old
wrote_not old piece e = record { loan = refl; by = by_both true true old old piece e e (record { ink = refl; faults = refl }) }

pub took_of : (old new : Lent) (piece : List ℕ) → old.failed ≡ false → new.failed ≡ false → Wrote old piece new → Took old piece new
took_of old new piece e f wrote = by_seen false false old new piece e f wrote.by

pub broke_of : (old new : Lent) (piece : List ℕ) → old.failed ≡ false → new.failed ≡ true → Wrote old piece new → BrokeOff old piece new
broke_of old new piece e f wrote = by_seen false true old new piece e f wrote.by

-- a piece is held behind the others
pub held_whole : (old new : Lent) (piece : List ℕ) → old.failed ≡ false → new.failed ≡ false → new.loan ≡ old.loan → new.ink ≡ old.ink → new.faults ≡ old.faults
    → new.held ≡ old.held ++ piece → Wrote old piece new
held_whole old new piece e f loan ink faults held =
    wrote_whole old new piece e f loan (record { taken = []; all = sym held; ink = ink ∙ sym (inked-nil old.ink); faults = faults })

-- the sink takes all that is held and the piece
pub gave_whole : (old new : Lent) (piece given : List ℕ) → old.failed ≡ false → new.failed ≡ false → new.loan ≡ old.loan → old.held ++ piece ≡ given
    → new.ink ≡ inked old.ink given → new.faults ≡ old.faults → new.held ≡ [] → Wrote old piece new
gave_whole old new piece given e f loan all ink faults held =
    wrote_whole old new piece e f loan (record { taken = given; all = all ∙ sym (append-nil given) ∙ ap (λ l. given ++ l) (sym held); ink = ink; faults = faults })

-- it fails
pub gave_part : (old new : Lent) (piece given : List ℕ) (n : ℕ) → old.failed ≡ false → new.failed ≡ true → new.loan ≡ old.loan → old.held ++ piece ≡ given
    → new.ink ≡ inked old.ink (take n given) → old.faults ≤ new.faults → Rose old.faults new.faults → Wrote old piece new
gave_part old new piece given n e f loan all ink later rose =
    wrote_part old new piece e f loan (record { taken = take n given; lost = drop n given; all = all ∙ sym (take-append-drop n given); ink = ink; later = later; rose = rose })

-- no piece
nothing_by : (x : Bool) (w : Lent) → WroteBy x x w [] w
nothing_by false w = record { taken = []; all = append-nil w.held; ink = sym (inked-nil w.ink); faults = refl }
nothing_by true w = record { ink = refl; faults = refl }

pub wrote_nothing : (w : Lent) → Wrote w [] w
wrote_nothing w = record { loan = refl; by = nothing_by w.failed w }

-- of one part and what comes behind it
parts : (held a b taken left more rest : List ℕ) → held ++ a ≡ taken ++ left → left ++ b ≡ more ++ rest → held ++ (a ++ b) ≡ (taken ++ more) ++ rest
parts held a b taken left more rest first then =
    sym (append_assoc held a b) ∙ ap (λ l. l ++ b) first ∙ append_assoc taken left b ∙ ap (λ l. taken ++ l) then ∙ sym (append_assoc taken more rest)

-- one piece after the other
then_by : (x y z : Bool) (old mid new : Lent) (a b : List ℕ) → WroteBy x y old a mid → WroteBy y z mid b new → WroteBy x z old (a ++ b) new
then_by false false false old mid new a b first then = record {
  taken = first.taken ++ then.taken;
  all = parts old.held a b first.taken mid.held then.taken new.held first.all then.all;
  ink = then.ink ∙ ap (λ i. inked i then.taken) first.ink ∙ inked-append old.ink first.taken then.taken;
  faults = then.faults ∙ first.faults;
}
then_by false false true old mid new a b first then = record {
  taken = first.taken ++ then.taken;
  lost = then.lost;
  all = parts old.held a b first.taken mid.held then.taken then.lost first.all then.all;
  ink = then.ink ∙ ap (λ i. inked i then.taken) first.ink ∙ inked-append old.ink first.taken then.taken;
  later = subst (λ (n : ℕ). n ≤ new.faults) first.faults then.later;
  rose = subst (λ (n : ℕ). Rose n new.faults) first.faults then.rose;
}
then_by false true true old mid new a b first then = record {
  taken = first.taken;
  lost = first.lost ++ b;
  all = sym (append_assoc old.held a b) ∙ ap (λ l. l ++ b) first.all ∙ append_assoc first.taken first.lost b;
  ink = then.ink ∙ first.ink;
  later = subst (λ (n : ℕ). old.faults ≤ n) (sym then.faults) first.later;
  rose = subst (λ (n : ℕ). Rose old.faults n) (sym then.faults) first.rose;
}
then_by true true true old mid new a b first then = record { ink = then.ink ∙ first.ink; faults = then.faults ∙ first.faults }
then_by false true false old mid new a b first then = absurd then
then_by true true false old mid new a b first then = absurd then
then_by true false z old mid new a b first then = absurd first

pub wrote_then : (old mid new : Lent) (a b : List ℕ) → Wrote old a mid → Wrote mid b new → Wrote old (a ++ b) new
wrote_then old mid new a b first then = record { loan = then.loan ∙ first.loan; by = then_by old.failed mid.failed new.failed old mid new a b first.by then.by }

-- nothing is written where a write has failed
pub stood_still : (old new : Lent) (piece : List ℕ) → old.failed ≡ true → new.failed ≡ true → new.loan ≡ old.loan → new.ink ≡ old.ink → new.faults ≡ old.faults → Wrote old piece new
stood_still old new piece e f loan ink faults = record { loan = loan; by = by_both true true old new piece e f (record { ink = ink; faults = faults }) }

-- what is held is given first, and then the piece
pub gave_both : (old mid far new : Lent) (piece : List ℕ) → mid ≡ old → Wrote mid [] far → Wrote far piece new → Wrote old piece new
gave_both old mid far new piece e first then = subst (λ (w : Lent). Wrote w piece new) e (wrote_then mid far new [] piece first then)

-- the same piece, written otherwise
pub wrote_same : (old new : Lent) (a b : List ℕ) → a ≡ b → Wrote old a new → Wrote old b new
wrote_same old new a b e wrote = subst (λ (p : List ℕ). Wrote old p new) e wrote

-- a page, before which nothing was held, and then all that is held

pub wrote_page : (old mid new : Lent) (page : List ℕ) → Wrote old page mid → Wrote mid [] new → Wrote old page new
wrote_page old mid new page first then = wrote_same old new (page ++ []) page (append-nil page) (wrote_then old mid new page [] first then)

pub took_page : (old new : Lent) (page : List ℕ) → old.failed ≡ false → new.failed ≡ false → old.held ≡ [] → new.held ≡ [] → Wrote old page new → new.ink ≡ inked old.ink page
took_page old new page e f before after wrote =
    let took = took_of old new page e f wrote in
    took.ink ∙ ap (inked old.ink) (sym (append-nil took.taken) ∙ ap (λ l. took.taken ++ l) (sym after) ∙ sym took.all ∙ ap (λ l. l ++ page) before)

pub broke_page : (old new : Lent) (page : List ℕ) → old.failed ≡ false → new.failed ≡ true → old.held ≡ [] → Wrote old page new → (n : ℕ) × (new.ink ≡ inked old.ink (take n page))
broke_page old new page e f before wrote =
    let broke = broke_of old new page e f wrote in
    (length broke.taken, broke.ink ∙ ap (inked old.ink) (sym (take-append_seam broke.taken broke.lost) ∙ ap (take (length broke.taken)) (sym broke.all ∙ ap (λ l. l ++ page) before)))
