use Rattle.std.proofs.Common.{◌≡◌, ◌≤◌, ◌+◌, ◌*◌, arith, length, drop, true, false}
use Rattle.std.proofs.lemmas.Grind.{common_steps}
use Rattle.texml_mouth.specs.Looked.{begins_hex}
use Rattle.texml_mouth.proofs.Looking.{long_group, short_group, scalar_below}
use Rattle.texml_mouth.proofs.group.Goals as goal

pub returns-then-begins_hex : goal.returns-then-begins_hex
returns-then-begins_hex g c =
    let hex : begins_hex (drop 1 c.args.behind.now) ≡ true = grind (arith, common_steps) in
    let within : 3 ≤ length c.args.behind.now = grind (arith, common_steps) in
    (omega arith, within, scalar_below (16 * c.hex_value.result + c.hex_value-then-begins_hex.result) (omega arith), rw (c.hex_value.ensures.value, c.hex_value-then-begins_hex.ensures.value) (long_group _ _ c.args.behind.now within (omega arith) (omega arith) hex))

pub returns : goal.returns
returns g c =
    let hex : begins_hex (drop 1 c.args.behind.now) ≡ false = grind (arith, common_steps) in
    (omega arith, omega arith, scalar_below c.turned.result (omega arith), rw c.turned.ensures.value (short_group _ _ c.args.behind.now (omega arith) (omega arith) (omega arith) hex (omega arith)))
