use Rattle.std.proofs.Common.{◌≡◌, ◌≤◌, take, drop}
use Rattle.texml_expand.specs.Expansion.{last_part}
use Rattle.texml_expand.proofs.job.last_part.Given as goal

abbrev pub invariant-loop-place : goal.invariant-loop-place
invariant-loop-place l = record {
  low : l.start ≤ l.place;
  is : drop l.start (take l.place l.text) ≡ last_part (take l.place l.text);
}
