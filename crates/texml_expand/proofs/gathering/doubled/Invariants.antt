use Rattle.std.proofs.Common.{◌≡◌, ℕ, take}
use Rattle.texml_token.specs.Numbers.{Table, tokens_at, TokensWithin}
use Rattle.texml_expand.specs.Gathering.{doubled}
use Rattle.texml_expand.proofs.gathering.doubled.Given as goal

abbrev pub invariant-loop-token : goal.invariant-loop-token
invariant-loop-token l = record {
  is : (texts : Table) → tokens_at texts l.twice ≡ doubled (tokens_at texts (take l.token-index l.list));
  within : (count : ℕ) → TokensWithin count l.list → TokensWithin count l.twice;
}
