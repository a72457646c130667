use Rattle.std.proofs.Common.{◌≡◌, map, take, length}
use Rattle.texml_token.specs.Numbers.{tokens_at, TokensWithin}
use Rattle.texml_expand.specs.Held.{world_in}
use Rattle.texml_assign.specs.Letters.{token_in}
use Rattle.texml_assign.proofs.letters.tokens_in.Given as goal

abbrev pub invariant-loop-token : goal.invariant-loop-token
invariant-loop-token l = record {
  are : tokens_at l.engine.names l.changed ≡ map (token_in l.case (world_in l.engine)) (tokens_at l.engine.names (take l.token-index l.list));
  within : TokensWithin (length l.engine.names) l.changed;
}
