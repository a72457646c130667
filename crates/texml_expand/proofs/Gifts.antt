-- What an expansion gives, by the tokens that it reads.
use Rattle.std.proofs.Common.{◌≡◌, ◌+◌, ◌-◌, ◌≤◌, ℕ, List, Result, Ok, Err, ap, ◌∙◌, arith, inl, inr, eq-or-lt_of_le}
use Rattle.std.specs.Result.{OnOk}
use Rattle.texml_base.specs.Outside.{Shelf}
use Rattle.texml_token.specs.Token.{Token}
use Rattle.texml_watch.specs.declared.record.Record.{Record}
use Rattle.texml_expand.specs.declared.stop.Stop.{Stop}
use Rattle.texml_expand.specs.State.{give}
use Rattle.texml_expand.specs.Calls.{Puts}
use Rattle.texml_expand.specs.Expansion.{puts}
use Rattle.texml_expand.specs.Expand.{level}
use Rattle.texml_expand.specs.Contract.{Outside}
use Rattle.texml_expand.specs.Held.{Held, Shrinks, Begun}
use Rattle.texml_expand.specs.Doing.{Does}
use Rattle.texml_expand.proofs.Lawful.{By, Lawful, lawful_give}
use Rattle.texml_expand.proofs.Running.{shrinks_then}
use Rattle.texml_expand.proofs.Doing.{does_now, does_stop, does_then}

module _ {T : Type 0} (hear part : T → Record → T → Type 0) (q : By (List Token)) (l : Lawful q) where
  pub puts_stops : (e : Stop) (old new : Held) (f g : Outside) (a b : T) → Does hear part (λ n. q (level n)) (Err e) old new f g a b → Does hear part (λ n. puts (q (level n))) (Err e) old new f g a b
  puts_stops e old new f g a b d = does_stop hear part q (λ list c. give (Puts list)) l (λ list. lawful_give (Puts list)) e old new f g a b d

  pub puts_does : (list : List Token) (old new : Held) (f g : Outside) (a b : T) → Does hear part (λ n. q (level n)) (Ok list) old new f g a b → Does hear part (λ n. puts (q (level n))) (Ok (Puts list)) old new f g a b
  puts_does list old new f g a b d =
      does_then hear part q (λ list c. give (Puts list)) l (λ list. lawful_give (Puts list)) list (Ok (Puts list)) old new new f g g a b b d (does_now hear part (Puts list) new g b d.keeps.sound d.stops.kept d.holds.owns)

-- a call that reads, and what follows it
pub ok_then : {A : Type 0} (r : Result A Stop) (j k m : ℕ) (a b c : Shelf) (old mid new : Held) → Shrinks j a old b mid → OnOk r (Shrinks k b mid c new) → m ≤ j + k → OnOk r (Shrinks m a old c new)
ok_then (Ok v) j k m a b c old mid new s t le = shrinks_then j k m a b c old mid new s t le
ok_then (Err e) j k m a b c old mid new s t le = tt

-- an expansion began, and then only read and ended
pub ended_begun : {A : Type 0} (a b : Shelf) (h mid now new : Held) (r : Result A Stop) → mid ≡ record h { begun = h.begun + 1; nesting = h.nesting + 1 } → mid.begun ≤ mid.limit → Shrinks 0 a mid b now → OnOk r (new.nesting ≡ now.nesting - 1)
    → OnOk r (new.begun ≡ now.begun) → new.limit ≡ now.limit → OnOk r (Begun h new)
ended_begun a b h mid now new (Ok v) e fits l nested same limit = record {
  limit = limit ∙ l.limit ∙ ap (λ (m : Held). m.limit) e;
  nesting = let n = l.nesting ∙ ap (λ (m : Held). m.nesting) e in omega (arith, n, nested);
  begun = let b = l.begun in let n = ap (λ (m : Held). m.begun) e in omega (arith, b, n, same);
  within = elim (eq-or-lt_of_le l.begun) [
    | inl first ↦ omega (arith, fits, first, l.limit, same, limit)
    | inr later ↦ (let w : now.begun ≤ now.limit = l.within later in omega (arith, w, same, limit))
  ];
}
ended_begun a b h mid now new (Err x) e fits l nested same limit = tt
