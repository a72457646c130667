use Rattle.std.proofs.Common.{◌≡◌, ℕ, take}
use Rattle.texml_token.specs.Numbers.{Table, tokens_at, TokensWithin}
use Rattle.texml_expand.specs.Printed.{printed_tokens}
use Rattle.texml_expand.proofs.printed.printed_text.Given as goal

abbrev pub invariant-loop-c : goal.invariant-loop-c
invariant-loop-c l = record {
  is : (texts : Table) → tokens_at texts l.list ≡ printed_tokens (take l.c-index l.text);
  within : (count : ℕ) → TokensWithin count l.list;
}
