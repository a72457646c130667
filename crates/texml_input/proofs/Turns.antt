-- Turns, where the front is written otherwise.
use Rattle.std.proofs.Common.{◌≡◌, ℕ, ◌≤◌, false, List, ◌∷◌, ◌++◌, map, length, refl, sym, ap, ◌∙◌, subst, Option, Result, Ok, Err}
use Rattle.texml_base.specs.Outside.{Shelf}
use Rattle.texml_token.specs.Token.{Token}
use Rattle.texml_token.specs.Numbers.{Table, Extends, token_at}
use Rattle.texml_token.specs.declared.tokens.Token.{Token as TokenCode}
use Rattle.texml_input.specs.Rest.{Item, Place}
use Rattle.texml_input.specs.Next.{next, bytes_of, Got, behind, NotUtf8, taken}
use Rattle.texml_input.specs.Held.{Source, Plain, SourcesWithin, rest_at, front_size}
use Rattle.texml_input.specs.Turning.{Turns}
use Rattle.texml_input.specs.declared.fault.InputFault.{InputFault}
use Rattle.texml_input.specs.declared.fault.InputFault.TheVariants as fault
use Rattle.texml_input.specs.declared.turning.Turn.{Turn}
use Rattle.texml_input.specs.declared.turning.Turn.TheVariants as turn
use Rattle.texml_input.proofs.Sources.{rest_grown}

module _ (cats : ℕ → ℕ) (end : Option ℕ) (texts : Table) where
  -- another front gives the same
  pub turns_along : (m n after : ℕ) (a a' : List (Item Token)) (p : Place) (r : Result Turn InputFault) (b : List (Item Token)) (q : Place) → m ≡ n → next cats end a p ≡ next cats end a' p
      → Turns cats end texts n after a' p r b q → Turns cats end texts m after a p r b q
  turns_along m n after a a' p (Ok (turn.Token t frozen)) b q e h u = h ∙ u
  turns_along m n after a a' p (Ok turn.Again) b q e h u = h ∙ u
  turns_along m n after a a' p (Ok turn.Loaded) b q e h u = h ∙ u ∙ ap (λ k. behind k false (next cats end b q)) (sym e)
  turns_along m n after a a' p (Ok turn.Ended) b q e h u = h ∙ u
  turns_along m n after a a' p (Ok turn.End) b q e h u = (h ∙ u.0, u.1)
  turns_along m n after a a' p (Err (fault.Invalid c)) b q e h u = h ∙ u
  turns_along m n after a a' p (Err fault.NotUtf8) b q e h u = h ∙ u ∙ ap (NotUtf8 q) (sym e)
  turns_along m n after a a' p (Err fault.Failed) b q e h u = subst (λ g. after ≤ bytes_of g) (sym h) u
  turns_along m n after a a' p (Err fault.NoMemory) b q e h u = subst (λ g. after ≤ bytes_of g) (sym h) u

  -- a list gives its first token
  pub list_turn : (shelf : Shelf) (t : TokenCode) (list : List TokenCode) (more : List Source) (place : Place)
      → next cats end (rest_at texts shelf (map Plain (t ∷ list) ++ more)) place ≡ Got (taken (token_at texts t) false) (rest_at texts shelf (map Plain list ++ more)) place 0
  list_turn shelf t list more place = refl

-- the front is written otherwise, and names were added
pub turns_from : (cats : ℕ → ℕ) (end : Option ℕ) (shelf : Shelf) (old new : Table) → Extends old new → (a b : List Source) → a ≡ b → SourcesWithin (length old) a
    → (after : ℕ) (p : Place) (r : Result Turn InputFault) (rest : List (Item Token)) (q : Place)
    → Turns cats end new (front_size shelf b) after (rest_at new shelf b) p r rest q → Turns cats end new (front_size shelf a) after (rest_at old shelf a) p r rest q
turns_from cats end shelf old new g a b e w after p r rest q u =
    turns_along cats end new (front_size shelf a) (front_size shelf b) after (rest_at old shelf a) (rest_at new shelf b) p r rest q (ap (front_size shelf) e)
    (ap (λ l. next cats end l p) (sym (rest_grown old new shelf g a w) ∙ ap (rest_at new shelf) e)) u
