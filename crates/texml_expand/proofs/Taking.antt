-- What taking a token is, by what the rest gives.
use Rattle.std.proofs.Common.{◌≡◌, ◌&&◌, ℕ, Bool, true, false, List, [], Option, Some, None, IfSome, Result, Ok, Err, refl, sym, ap, ◌∙◌, subst}
use Rattle.std.specs.Option.{option_map}
use Rattle.texml_token.specs.Token.{Token}
use Rattle.texml_token.specs.Numbers.{Table}
use Rattle.texml_token.specs.declared.fault_code.TheConstants.{FILE_ENDED, INVALID_CHAR, NOT_UTF8}
use Rattle.texml_input.specs.Rest.{Item, Place}
use Rattle.texml_input.specs.Next.{Taken, Given, Got, AtEnd, Invalid, NotUtf8, bytes_of, next}
use Rattle.texml_input.specs.Answers.{given_at, IsNext}
use Rattle.texml_input.specs.Codes.{cats_of, end_of}
use Rattle.texml_input.specs.declared.fault.Read.{Read}
use Rattle.texml_input.specs.declared.fault.InputFault.{InputFault}
use Rattle.texml_input.specs.declared.fault.InputFault.TheVariants as fault
use Rattle.texml_expand.specs.Held.{read_at, placed}
use Rattle.texml_expand.specs.declared.stop.Stop.{Stop}
use Rattle.texml_expand.specs.declared.stop.Stop.TheVariants as stop
use Rattle.texml_expand.specs.State.{State, Answer, Done, Ended, Tex, nothing, some_bytes, loads, added, fault_at}
use Rattle.texml_expand.specs.Take.{take, take_given, take_token}
use Rattle.texml_expand.specs.Contract.{Silent, Quiet, IsFaultAt}
use Rattle.texml_expand.proofs.Placing.{given_placed, next_placed}

-- what the rest gives, where it is read from the place of the input
module _ (s : State) (main : List ℕ) (at : Place) (here : s.place ≡ placed main at) where
  abbrev found : Given
  found = next (cats_of s.world) (end_of s.world) s.rest at

  taken : (g : Given) → found ≡ g → take s ≡ take_given (given_placed main g) s
  taken g e =
      ap (λ p. take_given (next (cats_of s.world) (end_of s.world) s.rest p) s) here ∙ ap (λ g. take_given g s) (next_placed main (cats_of s.world) (end_of s.world) s.rest at)
      ∙ ap (λ g. take_given (given_placed main g) s) e

  -- no file has ended on the way that may not end there
  pub take_ok : (rest : List (Item Token)) (place : Place) (o : Option Taken) → IsNext found (Ok o) rest place → IfSome o (λ t. (s.absorbing && t.crossed) ≡ false) → (sizes : List ℕ) × (take s ≡ Done o (record s { rest = rest; place = placed main place }) (loads sizes))
  take_ok rest place (Some t) m whole = (some_bytes m.0, taken _ m.1 ∙ ap (λ b. take_token b t m.0 (record s { rest = rest; place = placed main place })) whole)
  take_ok rest place None m whole = (some_bytes m.0, taken _ m.1 ∙ ap {A = List (Item Token)} (λ r. Done None (record s { rest = r; place = placed main place }) (loads (some_bytes m.0))) (sym m.2))

  -- one has
  pub take_broken : (rest : List (Item Token)) (place : Place) (t : Taken) → IsNext found (Ok (Some t)) rest place → (s.absorbing && t.crossed) ≡ true → (sizes : List ℕ) × (take s ≡ Ended (Tex (fault_at FILE_ENDED [] (placed main place))) (loads sizes))
  take_broken rest place t m broken = (some_bytes m.0, taken _ m.1 ∙ ap (λ b. take_token b t m.0 (record s { rest = rest; place = placed main place })) broken)

  pub take_invalid : (c : ℕ) (rest : List (Item Token)) (place : Place) → IsNext found (Err (fault.Invalid c)) rest place → (sizes : List ℕ) × (take s ≡ Ended (Tex (fault_at INVALID_CHAR [] (placed main place))) (loads sizes))
  take_invalid c rest place m = (some_bytes m.0, taken _ m.1)

  pub take_not_utf8 : (rest : List (Item Token)) (place : Place) → IsNext found (Err fault.NotUtf8) rest place → (sizes : List ℕ) × (take s ≡ Ended (Tex (fault_at NOT_UTF8 [] (placed main place))) (loads sizes))
  take_not_utf8 rest place m = (some_bytes m.0, taken _ m.1)

-- the rest is read with the categories and the end character of the world
pub next_by : (s : State) (at : Place) (cats : ℕ → ℕ) (end : Option ℕ) (r : Result (Option Taken) InputFault) (rest : List (Item Token)) (place : Place) → cats_of s.world ≡ cats → end_of s.world ≡ end
    → IsNext (next cats end s.rest at) r rest place → IsNext (next (cats_of s.world) (end_of s.world) s.rest at) r rest place
next_by s at cats end r rest place c e m =
    subst (λ x. IsNext (next x (end_of s.world) s.rest at) r rest place) (sym c) (subst (λ x. IsNext (next cats x s.rest at) r rest place) (sym e) m)

pub given_ok : (texts : Table) (o : Option Read) → given_at texts (Ok o) ≡ Ok (option_map (read_at texts) o)
given_ok texts None = refl
given_ok texts (Some r) = refl

-- an answer that is a fault, and a stop with that fault
pub silent_fault : {A : Type 0} (a : Answer A) (code : ℕ) (about : List ℕ) (place : Place) (st : Stop) (s : State) → a ≡ Ended (Tex (fault_at code about place)) nothing
    → IsFaultAt code about place st → Silent a (Err st) s
silent_fault a code about place (stop.Tex f) s e h = e ∙ ap (λ x. Ended (Tex x) nothing) (sym h)
silent_fault a code about place (stop.Limit n) s e h = absurd h
silent_fault a code about place stop.ReadFailed s e h = absurd h
silent_fault a code about place stop.TellFailed s e h = absurd h
silent_fault a code about place stop.NoMemory s e h = tt

pub quiet_fault : {A : Type 0} (a : Answer A) (code : ℕ) (about : List ℕ) (place : Place) (st : Stop) (s : State) → (sizes : List ℕ) × (a ≡ Ended (Tex (fault_at code about place)) (loads sizes))
    → IsFaultAt code about place st → Quiet a (Err st) s
quiet_fault a code about place (stop.Tex f) s e h = (e.0, e.1 ∙ ap (λ x. Ended (Tex x) (loads e.0)) (sym h))
quiet_fault a code about place (stop.Limit n) s e h = absurd h
quiet_fault a code about place stop.ReadFailed s e h = absurd h
quiet_fault a code about place stop.TellFailed s e h = absurd h
quiet_fault a code about place stop.NoMemory s e h = tt

-- the bytes that a token takes are those that the rest loads for it
token_added : (b : Bool) (t : Taken) (bytes : ℕ) (s : State) → added (take_token b t bytes s) ≡ loads (some_bytes bytes)
token_added true t bytes s = refl
token_added false t bytes s = refl

pub given_added : (g : Given) (s : State) → added (take_given g s) ≡ loads (some_bytes (bytes_of g))
given_added (Got t rest place bytes) s = token_added (s.absorbing && t.crossed) t bytes (record s { rest = rest; place = place })
given_added (AtEnd place bytes) s = refl
given_added (Invalid c place bytes) s = refl
given_added (NotUtf8 place bytes) s = refl

pub placed_bytes : (main : List ℕ) (g : Given) → bytes_of (given_placed main g) ≡ bytes_of g
placed_bytes main (Got t rest place bytes) = refl
placed_bytes main (AtEnd place bytes) = refl
placed_bytes main (Invalid c place bytes) = refl
placed_bytes main (NotUtf8 place bytes) = refl
