use Rattle.std.proofs.Common.{◌≡◌, map, take}
use Rattle.texml_token.specs.declared.tokens.Token.TheVariants.{Named}
use Rattle.texml_assign.proofs.new_if.tokens_of.Given as goal

abbrev pub invariant-loop-name : goal.invariant-loop-name
invariant-loop-name l = l.list ≡ map Named (take l.name-index l.names)
