use Rattle.std.proofs.Common.{◌≡◌, length}
use Rattle.std.specs.List.{list_any}
use Rattle.texml_token.specs.Numbers.{tokens_at, TokensWithin}
use Rattle.texml_match.specs.Arguments.{is_par}
use Rattle.texml_match.proofs.argument.has_par.Given as goal

abbrev pub decreases-loop-token : goal.decreases-loop-token
decreases-loop-token l = length l.rest

abbrev pub invariant-loop-token : goal.invariant-loop-token
invariant-loop-token l = record {
  same : list_any is_par (tokens_at l.names l.rest) ≡ list_any is_par (tokens_at l.names l.list);
  within : TokensWithin (length l.names) l.rest;
}
