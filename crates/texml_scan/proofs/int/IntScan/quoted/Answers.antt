use Rattle.std.proofs.Common.{◌≡◌, pos, true, arith}
use Rattle.texml_scan.specs.Number.{is_within}
use Rattle.texml_scan.proofs.int.IntScan.quoted.Goals as goal

pub returns-else-code-clause-stepped : goal.returns-else-code-clause-stepped
returns-else-code-clause-stepped c look more =
    let within : is_within (pos c.in-Some.code) ≡ true = grind (arith, c.if-code.false) in
    rw (c.in-Some.is, within)
