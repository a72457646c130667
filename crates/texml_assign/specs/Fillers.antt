-- What may stand before a value (The TeXbook, chapter 24): spaces, \relax and an equals sign. Tokens are expanded as they are looked at.
use Rattle.std.specs.Prelude.{◌==◌, ◌||◌, Bool, false, if◌then◌else◌, Option, None, Some}
use Rattle.texml_scope.specs.Texts.{Meaning}
use Rattle.texml_scope.specs.declared.builtins.TheConstants.{RELAX}
use Rattle.texml_scope.specs.declared.values.MeaningOf.TheVariants.{Builtin}
use Rattle.texml_expand.specs.State.{Reading, ◌>>=◌, give, change}
use Rattle.texml_expand.specs.Expand.{ByDepth, level, back, means}
use Rattle.texml_expand.specs.Arguments.{means_space}
use Rattle.texml_expand.specs.Quantities.{Looked, expanded}
use Rattle.texml_assign.specs.declared.fillers.Filler.{Filler}
use Rattle.texml_assign.specs.declared.fillers.Filler.TheVariants.{Spaces, SpacesAndRelax}
use Rattle.texml_assign.specs.Loop.{Next, On, Over, LoopOver, loops}
use Rattle.texml_assign.specs.Operands.{is_equals}

abbrev pub is_relax : Meaning → Bool
is_relax (Builtin place) = place == RELAX
is_relax m = false

abbrev pub fills : Filler → Meaning → Bool
fills Spaces m = means_space m
fills SpacesAndRelax m = means_space m || is_relax m

abbrev pub filler_turn : Filler → Unit {0} → Looked → ByDepth (Next (Unit {0}) (Option Looked))
filler_turn f seen x n s = give (if fills f (means s.world x.counts) then On tt else Over (Some x)) s

abbrev pub filler_loop : Filler → LoopOver Looked (Unit {0}) (Option Looked)
filler_loop f = record { source = λ n. expanded (level n); turn = filler_turn f; end = λ seen. give None }

-- the first token behind those that fill, or the end
abbrev pub first_behind : Filler → ByDepth (Option Looked)
first_behind f = loops (filler_loop f) tt

-- a token that is no equals sign goes back
abbrev pub past_equals : Option Looked → Reading (Unit {0})
past_equals None = give tt
past_equals (Some x) = if is_equals x.counts then give tt else change (back x.token false)

-- spaces and an equals sign, which may be missing
abbrev pub optional_equals : ByDepth (Unit {0})
optional_equals n = do
  o ← first_behind Spaces n
  past_equals o

-- a token that was looked at, if there is one, goes back, and may be expanded from then on
abbrev pub put_looked : Option Looked → Reading (Unit {0})
put_looked None = give tt
put_looked (Some x) = change (back x.token false)

-- spaces go, and the token behind them comes next
abbrev pub ignore_spaces : ByDepth (Unit {0})
ignore_spaces n = do
  o ← first_behind Spaces n
  put_looked o
