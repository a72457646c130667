-- What a token can be expanded by, and what it counts as, over texts.
use Rattle.std.proofs.Common.{◌≡◌, ℕ, Bool, true, false, ◌==◌, if◌then◌else◌, Option, Some, None, refl, ap, ◌∙◌}
use Rattle.std.specs.Option.{option_map}
use Rattle.texml_token.specs.Numbers.{Table, token_at}
use Rattle.texml_token.specs.declared.tokens.Token.{Token as TokenCode}
use Rattle.texml_scope.specs.declared.values.MeaningOf.TheVariants.{Undefined, Macro, Builtin}
use Rattle.texml_scope.specs.declared.builtins.TheConstants.{EXPANDAFTER, NOEXPAND, CSNAME, STRING, NUMBER, ROMANNUMERAL, THE, JOBNAME, INPUT, ENDINPUT, ELSE, OR, FI}
use Rattle.texml_cond.specs.declared.limits.Word.TheVariants as words
use Rattle.texml_scope.specs.Texts.{Meaning}
use Rattle.texml_scope.specs.Numbers.{MeaningCode, meaning_at}
use Rattle.texml_expand.specs.declared.engine.expanding.Expandable.{Expandable as ExpandableCode}
use Rattle.texml_expand.specs.declared.engine.expanding.Expandable.TheVariants as expandables
use Rattle.texml_expand.specs.Branches.{Test, test_at}
use Rattle.texml_expand.specs.Calls.{Expandable, Conditional, expandable_at, expandable}
use Rattle.texml_input.specs.Next.{Taken}
use Rattle.texml_expand.specs.State.{State, nothing, Done, give}
use Rattle.texml_expand.specs.Front.{Expands, front_of, front_by}
use Rattle.texml_expand.specs.Quantities.{relaxed, frozen_as}
use Rattle.texml_expand.specs.Fronts.{expandable_at as expandable_by, builtin_in, expandable_in, relaxed_in, frozen_in, is_undefined}

module _ (texts : Table) where
  abbrev pub meant : Option MeaningCode → Option Meaning
  meant m = option_map (meaning_at texts) m

  -- what can be expanded
  if_at : (b : Bool) (e : ExpandableCode) (o : Option ExpandableCode) (x : Option Expandable) → x ≡ option_map (expandable_by texts) o → (if b then Some (expandable_by texts e) else x) ≡ option_map (expandable_by texts) (if b then Some e else o)
  if_at true e o x h = refl
  if_at false e o x h = h

  tests_at : (o : Option Test) → option_map Conditional o ≡ option_map (expandable_by texts) (option_map expandables.Conditional o)
  tests_at None = refl
  tests_at (Some test) = refl

  builtin_at : (place : ℕ) → expandable_at place ≡ option_map (expandable_by texts) (builtin_in place)
  builtin_at place =
      if_at (place == EXPANDAFTER) expandables.ExpandAfter (if place == NOEXPAND then Some expandables.NoExpand else if place == CSNAME then Some expandables.CsName else if place == STRING then Some expandables.String else if place == NUMBER then Some expandables.Number else if place == ROMANNUMERAL then Some expandables.RomanNumeral else if place == THE then Some expandables.The else if place == JOBNAME then Some expandables.JobName else if place == INPUT then Some expandables.Input else if place == ENDINPUT then Some expandables.EndInput else if place == ELSE then Some (expandables.PartEnd words.Else) else if place == OR then Some (expandables.PartEnd words.Or) else if place == FI then Some (expandables.PartEnd words.Fi) else option_map expandables.Conditional (test_at place)) _
      (if_at (place == NOEXPAND) expandables.NoExpand (if place == CSNAME then Some expandables.CsName else if place == STRING then Some expandables.String else if place == NUMBER then Some expandables.Number else if place == ROMANNUMERAL then Some expandables.RomanNumeral else if place == THE then Some expandables.The else if place == JOBNAME then Some expandables.JobName else if place == INPUT then Some expandables.Input else if place == ENDINPUT then Some expandables.EndInput else if place == ELSE then Some (expandables.PartEnd words.Else) else if place == OR then Some (expandables.PartEnd words.Or) else if place == FI then Some (expandables.PartEnd words.Fi) else option_map expandables.Conditional (test_at place)) _
      (if_at (place == CSNAME) expandables.CsName (if place == STRING then Some expandables.String else if place == NUMBER then Some expandables.Number else if place == ROMANNUMERAL then Some expandables.RomanNumeral else if place == THE then Some expandables.The else if place == JOBNAME then Some expandables.JobName else if place == INPUT then Some expandables.Input else if place == ENDINPUT then Some expandables.EndInput else if place == ELSE then Some (expandables.PartEnd words.Else) else if place == OR then Some (expandables.PartEnd words.Or) else if place == FI then Some (expandables.PartEnd words.Fi) else option_map expandables.Conditional (test_at place)) _
      (if_at (place == STRING) expandables.String (if place == NUMBER then Some expandables.Number else if place == ROMANNUMERAL then Some expandables.RomanNumeral else if place == THE then Some expandables.The else if place == JOBNAME then Some expandables.JobName else if place == INPUT then Some expandables.Input else if place == ENDINPUT then Some expandables.EndInput else if place == ELSE then Some (expandables.PartEnd words.Else) else if place == OR then Some (expandables.PartEnd words.Or) else if place == FI then Some (expandables.PartEnd words.Fi) else option_map expandables.Conditional (test_at place)) _
      (if_at (place == NUMBER) expandables.Number (if place == ROMANNUMERAL then Some expandables.RomanNumeral else if place == THE then Some expandables.The else if place == JOBNAME then Some expandables.JobName else if place == INPUT then Some expandables.Input else if place == ENDINPUT then Some expandables.EndInput else if place == ELSE then Some (expandables.PartEnd words.Else) else if place == OR then Some (expandables.PartEnd words.Or) else if place == FI then Some (expandables.PartEnd words.Fi) else option_map expandables.Conditional (test_at place)) _
      (if_at (place == ROMANNUMERAL) expandables.RomanNumeral (if place == THE then Some expandables.The else if place == JOBNAME then Some expandables.JobName else if place == INPUT then Some expandables.Input else if place == ENDINPUT then Some expandables.EndInput else if place == ELSE then Some (expandables.PartEnd words.Else) else if place == OR then Some (expandables.PartEnd words.Or) else if place == FI then Some (expandables.PartEnd words.Fi) else option_map expandables.Conditional (test_at place)) _
      (if_at (place == THE) expandables.The (if place == JOBNAME then Some expandables.JobName else if place == INPUT then Some expandables.Input else if place == ENDINPUT then Some expandables.EndInput else if place == ELSE then Some (expandables.PartEnd words.Else) else if place == OR then Some (expandables.PartEnd words.Or) else if place == FI then Some (expandables.PartEnd words.Fi) else option_map expandables.Conditional (test_at place)) _
      (if_at (place == JOBNAME) expandables.JobName (if place == INPUT then Some expandables.Input else if place == ENDINPUT then Some expandables.EndInput else if place == ELSE then Some (expandables.PartEnd words.Else) else if place == OR then Some (expandables.PartEnd words.Or) else if place == FI then Some (expandables.PartEnd words.Fi) else option_map expandables.Conditional (test_at place)) _
      (if_at (place == INPUT) expandables.Input (if place == ENDINPUT then Some expandables.EndInput else if place == ELSE then Some (expandables.PartEnd words.Else) else if place == OR then Some (expandables.PartEnd words.Or) else if place == FI then Some (expandables.PartEnd words.Fi) else option_map expandables.Conditional (test_at place)) _
      (if_at (place == ENDINPUT) expandables.EndInput (if place == ELSE then Some (expandables.PartEnd words.Else) else if place == OR then Some (expandables.PartEnd words.Or) else if place == FI then Some (expandables.PartEnd words.Fi) else option_map expandables.Conditional (test_at place)) _
      (if_at (place == ELSE) (expandables.PartEnd words.Else) (if place == OR then Some (expandables.PartEnd words.Or) else if place == FI then Some (expandables.PartEnd words.Fi) else option_map expandables.Conditional (test_at place)) _
      (if_at (place == OR) (expandables.PartEnd words.Or) (if place == FI then Some (expandables.PartEnd words.Fi) else option_map expandables.Conditional (test_at place)) _
      (if_at (place == FI) (expandables.PartEnd words.Fi) (option_map expandables.Conditional (test_at place)) _
      (tests_at (test_at place))))))))))))))

  pub by_meaning : (m : Option MeaningCode) → expandable (meant m) ≡ option_map (expandable_by texts) (expandable_in m)
  by_meaning None = refl
  by_meaning (Some (Macro x)) = refl
  by_meaning (Some (Builtin place)) = builtin_at place
  by_meaning (Some m) = refl

  pub expands_by : (m : Option MeaningCode) (o : Option ExpandableCode) → expandable_in m ≡ o → expandable (meant m) ≡ option_map (expandable_by texts) o
  expands_by m o e = by_meaning m ∙ ap (option_map (expandable_by texts)) e

  -- what a token counts as that is kept from being expanded
  relaxed_at : (t : TokenCode) (e : Option ExpandableCode) → relaxed (token_at texts t) (option_map (expandable_by texts) e) ≡ token_at texts (relaxed_in t e)
  relaxed_at t None = refl
  relaxed_at t (Some e) = refl

  pub frozen_at : (t : TokenCode) (m : Option MeaningCode) → frozen_as (token_at texts t) (meant m) ≡ token_at texts (frozen_in t m)
  frozen_at t None = refl
  frozen_at t (Some Undefined) = refl
  frozen_at t (Some (Builtin place)) = ap (relaxed (token_at texts t)) (builtin_at place) ∙ relaxed_at t (builtin_in place)
  frozen_at t (Some m) = ap (relaxed (token_at texts t)) (by_meaning (Some m)) ∙ relaxed_at t (expandable_in (Some m))

  -- a token that can be expanded stands as one in front
  pub judged_expands : (t : Taken) (m : Option MeaningCode) (e : ExpandableCode) (s : State) → is_undefined m ≡ false → expandable_in m ≡ Some e → front_by t (meant m) s ≡ Done (Expands t.token (expandable_by texts e)) s nothing
  judged_expands t None e s u x = cc
  judged_expands t (Some Undefined) e s u x = cc
  judged_expands t (Some m) e s u x = ap (λ o. give (front_of t o) s) (expands_by (Some m) (Some e) x)
