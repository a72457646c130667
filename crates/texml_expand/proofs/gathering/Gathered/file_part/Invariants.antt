use Rattle.std.proofs.Common.{◌≡◌, ℕ, take}
use Rattle.texml_token.specs.Numbers.{Table, tokens_at, TokensWithin}
use Rattle.texml_expand.specs.Gathering.{file_part}
use Rattle.texml_expand.proofs.gathering.Gathered.file_part.Given as goal

abbrev pub invariant-loop-token : goal.invariant-loop-token
invariant-loop-token l = record {
  is : (texts : Table) → tokens_at texts l.name ≡ file_part (tokens_at texts (take l.token-index l.token-items));
  within : (count : ℕ) → TokensWithin count l.token-items → TokensWithin count l.name;
}
