use Rattle.std.proofs.Common.{◌≡◌, ◌++◌, replicate}
use Rattle.texml_expand.proofs.printed.put_thousands.Given as goal

abbrev pub invariant-loop : goal.invariant-loop
invariant-loop l = l.text ≡ l.initial.text ++ replicate l.counter 109
