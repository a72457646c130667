use Rattle.std.proofs.Common.{◌≡◌, ℕ, take}
use Rattle.std.specs.List.{All}
use Rattle.std.specs.Char.{IsScalar}
use Rattle.texml_token.specs.Numbers.{Table, tokens_at, TokensWithin}
use Rattle.texml_expand.specs.Names.{text_of}
use Rattle.texml_expand.proofs.gathering.text_of.Given as goal

abbrev pub invariant-loop-token : goal.invariant-loop-token
invariant-loop-token l = record {
  is : (texts : Table) → l.line ≡ text_of (tokens_at texts (take l.token-index l.list));
  scalars : (count : ℕ) → TokensWithin count l.list → All IsScalar l.line;
}
