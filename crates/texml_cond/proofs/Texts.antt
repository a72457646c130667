-- What is decided over texts is what is decided over numbers.
use Rattle.std.proofs.Common.{◌≡◌, ◌==◌, ◌+◌, ◌∙◌, ap, ap₂, sym, refl, ℕ, Bool, cond, if◌then◌else◌, fold, List, [], ◌∷◌, ◌++◌, map}
use Rattle.std.proofs.lemmas.List.{map-append}
use Rattle.std.proofs.lemmas.List.Folds.{fold-map}
use Rattle.texml_token.specs.Numbers.{Table}
use Rattle.texml_scope.specs.declared.values.MeaningOf.TheVariants as meanings
use Rattle.texml_scope.specs.Numbers.{meaning_at}
use Rattle.texml_cond.specs.declared.skipping.Part.{Part}
use Rattle.texml_cond.specs.declared.skipping.Part.TheVariants.{Begins, Stops, Passes}
use Rattle.texml_cond.specs.declared.skipping.SkipStep.TheVariants.{More, Reached, TooDeep}
use Rattle.texml_cond.specs.declared.skipping.TheConstants.{DEEPEST}
use Rattle.texml_cond.specs.Skipping.{MeaningCode, part_of, is_begin, is_end, begun, ended, decided_by, or_later, skip_behind, skip}

module _ (texts : Table) where
  pub part_says : (m : MeaningCode) → part_of (meaning_at texts m) ≡ part_of m
  part_says (meanings.Builtin place) = refl
  part_says meanings.Undefined = refl
  part_says (meanings.Macro m) = refl
  part_says (meanings.Char c k) = refl
  part_says (meanings.Quantity k) = refl
  part_says (meanings.Number n) = refl
  part_says (meanings.Constructor at) = refl

  parts_say : (λ (m : MeaningCode). part_of (meaning_at texts m)) ≡ part_of
  parts_say = λ i m. part_says m i

  begun_says : (ms : List MeaningCode) → begun (map (meaning_at texts) ms) ≡ begun ms
  begun_says ms = fold-map _ (meaning_at texts) 0 ms ∙ ap (λ (f : MeaningCode → Part). fold (λ a m. a + cond (is_begin (f m)) 1 0) 0 ms) parts_say

  ended_says : (ms : List MeaningCode) → ended (map (meaning_at texts) ms) ≡ ended ms
  ended_says ms = fold-map _ (meaning_at texts) 0 ms ∙ ap (λ (f : MeaningCode → Part). fold (λ a m. a + cond (is_end (f m)) 1 0) 0 ms) parts_say

  decided_says : (seen : List MeaningCode) (p : Part) → decided_by (map (meaning_at texts) seen) p ≡ decided_by seen p
  decided_says seen Begins = λ i. if begun_says seen i + 1 == ended_says seen i + DEEPEST then TooDeep else More
  decided_says seen (Stops w) = λ i. if begun_says seen i == ended_says seen i then Reached w else More
  decided_says seen Passes = refl

  behind_says : (seen ms : List MeaningCode) → skip_behind (map (meaning_at texts) seen) (map (meaning_at texts) ms) ≡ skip_behind seen ms
  behind_says seen [] = refl
  behind_says seen (m ∷ ms) =
      ap₂ or_later
      (ap (decided_by (map (meaning_at texts) seen)) (part_says m) ∙ decided_says seen (part_of m))
      (ap (λ s. skip_behind s (map (meaning_at texts) ms)) (sym (map-append (meaning_at texts) seen (m ∷ []))) ∙ behind_says (seen ++ m ∷ []) ms)

  pub skip_says : (ms : List MeaningCode) → skip (map (meaning_at texts) ms) ≡ skip ms
  skip_says ms = behind_says [] ms
