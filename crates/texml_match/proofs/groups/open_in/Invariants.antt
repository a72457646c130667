use Rattle.std.proofs.Common.{◌≡◌, ◌≤◌, ◌+◌, length}
use Rattle.texml_token.specs.Numbers.{Table, tokens_at}
use Rattle.texml_match.specs.Groups.{open_behind}
use Rattle.texml_match.proofs.groups.open_in.Given as goal

abbrev pub decreases-loop-token : goal.decreases-loop-token
decreases-loop-token l = length l.rest

abbrev pub invariant-loop-token : goal.invariant-loop-token
invariant-loop-token l = record {
  same : (texts : Table) → open_behind l.depth (tokens_at texts l.rest) ≡ open_behind 0 (tokens_at texts l.list);
  few : l.depth + length l.rest ≤ length l.list;
}
