-- The tokens of a group in braces, as they stand or expanded (The TeXbook, chapter 20).
use Rattle.std.specs.Prelude.{Bool, true, false, List, []}
use Rattle.texml_token.specs.Token.{Token}
use Rattle.texml_expand.specs.declared.gathering.Gathering.TheVariants.{Group}
use Rattle.texml_expand.specs.Least.{by_least}
pub use Rattle.texml_expand.specs.Braces.{closes, absorbed}
use Rattle.texml_expand.specs.State.{State, Reading, ◌>>=◌, ◌>>◌, give, change}
use Rattle.texml_expand.specs.Calls.{Calls}
use Rattle.texml_expand.specs.Expand.{level, ByDepth}

-- whether a group is absorbed with expanding
abbrev pub absorbs : Bool → State → State
absorbs b s = record s { absorbing = b }

-- where the tokens of a group are expanded, no file may end, in an expansion neither
abbrev pub absorb_expanded : Calls → Reading (List Token)
absorb_expanded calls = do
  change (absorbs true)
  list ← calls.gather Group []
  change (absorbs false)
  give list

-- the tokens up to the brace that closes the group; where they are expanded, what \the gives of a list of tokens is taken as it is
abbrev pub absorb : Bool → ByDepth (List Token)
absorb false n = by_least absorbed
absorb true n = absorb_expanded (level n)
