-- A run has one outcome.
use Rattle.std.proofs.Common.{◌≡◌, ℕ, List, [], Result, Ok, Err, refl, sym, ap, ◌∙◌, subst}
use Rattle.std.specs.declared.option.Option.{Option}
use Rattle.texml_watch.specs.Trace.{trace}
use Rattle.texml_input.specs.Rest.{Page}
use Rattle.texml_expand.specs.State.{State, Answer, Done, Ended, Unfinished, IsDecided, added}
use Rattle.texml_expand.specs.Contract.{DecidesOn}
use Rattle.texml_top.specs.Request.{Request, asked}
use Rattle.texml_top.specs.declared.request.Command.{Command}
use Rattle.texml_top.specs.declared.request.Command.TheVariants.{Convert, Expand}
use Rattle.texml_top.specs.Digest.{digests}
use Rattle.texml_top.specs.Document.{document}
use Rattle.texml_top.specs.Outcome.{Outcome, refused, page_outcome, main_text, first_state, status_of, IsOutcomeBy, IsOutcomeFrom, IsOutcomeOf, IsOutcomeAsked, OneOutcome, WithOutcome, OfOutcome, FromState}
use Rattle.texml_tree.specs.declared.ops.Op.{Op}
use Rattle.texml_top.specs.declared.status.Status.{Status}
use Rattle.texml_top.specs.declared.status.Status.TheVariants as status
use Rattle.texml_expand.proofs.Readings.{decides_at, decides_one}
use Rattle.texml_top.proofs.Digesting.{lawful_digests}

-- the outcome that an answer of digestion makes
pub outcome_by : Command → Answer (List Op) → Outcome
outcome_by Convert (Done ops s gains) = page_outcome (document ops) gains.records
outcome_by Convert (Ended e gains) = record { status = status_of e; bytes = []; records = gains.records }
outcome_by Convert (Unfinished gains) = refused status.NoMemory
outcome_by Expand (Done ops s gains) = record { status = status.Done; bytes = trace gains.records; records = gains.records }
outcome_by Expand (Ended e gains) = record { status = status_of e; bytes = trace gains.records; records = gains.records }
outcome_by Expand (Unfinished gains) = refused status.NoMemory

pub is_by : (command : Command) (a : Answer (List Op)) → IsDecided a → IsOutcomeBy command a (outcome_by command a)
unfolding outcome_by
is_by Convert (Done ops s gains) d = refl
is_by Convert (Ended e gains) d = refl
is_by Convert (Unfinished gains) d = d
is_by Expand (Done ops s gains) d = refl
is_by Expand (Ended e gains) d = refl
is_by Expand (Unfinished gains) d = d

one_by : (command : Command) (a : Answer (List Op)) (all : Outcome) → IsOutcomeBy command a all → all ≡ outcome_by command a
unfolding outcome_by
one_by Convert (Done ops s gains) all e = e
one_by Convert (Ended end gains) all e = e
one_by Convert (Unfinished gains) all e = absurd e
one_by Expand (Done ops s gains) all e = e
one_by Expand (Ended end gains) all e = e
one_by Expand (Unfinished gains) all e = absurd e

-- expand writes the trace of all records
pub expand_bytes : (a : Answer (List Op)) → IsDecided a → (outcome_by Expand a).bytes ≡ trace (added a).records
unfolding outcome_by
expand_bytes (Done ops s gains) d = refl
expand_bytes (Ended e gains) d = refl
expand_bytes (Unfinished gains) d = absurd d

pub expand_records : (a : Answer (List Op)) → IsDecided a → (outcome_by Expand a).records ≡ (added a).records
unfolding outcome_by
expand_records (Done ops s gains) d = refl
expand_records (Ended e gains) d = refl
expand_records (Unfinished gains) d = absurd d

-- an outcome by an answer that some depth gives
pub is_from : (command : Command) (s : State) (a x : Answer (List Op)) (all : Outcome) → DecidesOn (digests s) a → a ≡ x → IsOutcomeBy command x all → IsOutcomeFrom command s all
is_from command s a x all g e h = record { answer = a; given = g; is = subst (λ y. IsOutcomeBy command y all) (sym e) h }

-- the one answer of digestion
pub answer_from : (s : State) → Answer (List Op)
answer_from s = let h = lawful_digests.settles s in digests s h.at

pub decides_from : (s : State) → DecidesOn (digests s) (answer_from s)
unfolding answer_from
decides_from s = decides_at (digests s) (lawful_digests.settles s)

pub outcome_from : Command → (s : State) → Outcome
outcome_from command s = outcome_by command (answer_from s)

pub is_outcome_from : (command : Command) (s : State) → IsOutcomeFrom command s (outcome_from command s)
unfolding outcome_from
is_outcome_from command s = is_from command s (answer_from s) (answer_from s) _ (decides_from s) refl (is_by command (answer_from s) (decides_from s).decided)

one_from : (command : Command) (s : State) (all : Outcome) → IsOutcomeFrom command s all → all ≡ outcome_from command s
unfolding outcome_from
one_from command s all h = one_by command h.answer all h.is ∙ ap (outcome_by command) (decides_one (digests s) (lawful_digests.mono s) h.answer (answer_from s) h.given (decides_from s))

one_of : (request : Request) (contents : List ℕ → Option (List ℕ)) (found : Result Page Status) → (all : Outcome) × IsOutcomeOf request contents found all × ((other : Outcome) → IsOutcomeOf request contents found other → other ≡ all)
one_of request contents (Ok text) =
    let s = first_state contents request.file request.limit text in
    (outcome_from request.command s, is_outcome_from request.command s, one_from request.command s)
one_of request contents (Err s) = (refused s, refl, λ other e. e)

one_asked : (r : Result Request ℕ) (contents : List ℕ → Option (List ℕ)) → (all : Outcome) × IsOutcomeAsked r contents all × ((other : Outcome) → IsOutcomeAsked r contents other → other ≡ all)
one_asked (Ok request) contents = one_of request contents (main_text contents request.file)
one_asked (Err which) contents = (refused (status.Usage which), refl, λ other e. e)

pub one_outcome : (words : List (List ℕ)) (contents : List ℕ → Option (List ℕ)) → OneOutcome words contents
one_outcome words contents = let one = one_asked (asked words) contents in record { all = one.0; is = one.1; one = one.2 }

-- what holds of every outcome holds of this one
pub with_all : (Is Has : Outcome → Type 0) (all : Outcome) → Is all → ((other : Outcome) → Has other) → WithOutcome Is Has
with_all Is Has all is h = record { all = all; is = is; has = h all }

pub of_any : (words : List (List ℕ)) (contents : List ℕ → Option (List ℕ)) (Has : Outcome → Type 0) → ((all : Outcome) → Has all) → OfOutcome words contents Has
of_any words contents Has h = let one = one_outcome words contents in with_all _ Has one.all one.is h

pub from_any : (command : Command) (s : State) → (Has : Outcome → Type 0) → ((all : Outcome) → Has all) → FromState command s Has
from_any command s Has h = with_all _ Has (outcome_from command s) (is_outcome_from command s) h

pub with_weaker : {Is : Outcome → Type 0} {P : Outcome → Type 0} (Q : Outcome → Type 0) → ((all : Outcome) → P all → Q all) → WithOutcome Is P → WithOutcome Is Q
with_weaker Q go w = record { all = w.all; is = w.is; has = go w.all w.has }

-- the outcome of words that are no command line, of a text that can't be read, and of one that can
pub of_words : (words : List (List ℕ)) (contents : List ℕ → Option (List ℕ)) (which : ℕ) (Has : Outcome → Type 0) → asked words ≡ Err which → Has (refused (status.Usage which)) → OfOutcome words contents Has
of_words words contents which Has e h = record { all = refused (status.Usage which); is = subst (λ r. IsOutcomeAsked r contents (refused (status.Usage which))) (sym e) refl; has = h }

pub of_fault : (words : List (List ℕ)) (contents : List ℕ → Option (List ℕ)) (request : Request) (s : Status) (Has : Outcome → Type 0) → asked words ≡ Ok request
    → main_text contents request.file ≡ Err s → Has (refused s) → OfOutcome words contents Has
of_fault words contents request s Has e f h = record {
  all = refused s;
  is = subst (λ r. IsOutcomeAsked r contents (refused s)) (sym e) (subst (λ t. IsOutcomeOf request contents t (refused s)) (sym f) refl);
  has = h;
}

pub of_state : (words : List (List ℕ)) (contents : List ℕ → Option (List ℕ)) (request : Request) (text : Page) (s : State) (Has : Outcome → Type 0) → asked words ≡ Ok request
    → main_text contents request.file ≡ Ok text → s ≡ first_state contents request.file request.limit text → FromState request.command s Has → OfOutcome words contents Has
of_state words contents request text s Has e f same h = record {
  all = h.all;
  is = subst (λ r. IsOutcomeAsked r contents h.all) (sym e) (subst (λ t. IsOutcomeOf request contents t h.all) (sym f) (subst (λ u. IsOutcomeFrom request.command u h.all) same h.is));
  has = h.has;
}
