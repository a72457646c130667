use Rattle.std.proofs.Common.{◌≡◌, ℕ, take}
use Rattle.texml_token.specs.Numbers.{Table, tokens_at, TokensWithin}
use Rattle.texml_expand.specs.Printed.{printed_tokens}
use Rattle.texml_expand.proofs.printed.tokens_of.Given as goal

abbrev pub invariant-loop-code : goal.invariant-loop-code
invariant-loop-code l = record {
  is : (texts : Table) → tokens_at texts l.list ≡ printed_tokens (take l.code-index l.text);
  within : (count : ℕ) → TokensWithin count l.list;
}
