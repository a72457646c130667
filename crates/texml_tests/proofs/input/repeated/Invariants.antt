use Rattle.texml_token.specs.Numbers.{TokensWithin}
use Rattle.texml_tests.proofs.input.repeated.Given as goal

abbrev pub invariant-loop : goal.invariant-loop
invariant-loop l = TokensWithin 0 l.list
