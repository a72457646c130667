use Rattle.std.proofs.Common.{◌-◌, length, ap, ◌∙◌}
use Rattle.texml_expand.specs.Machine.{scanned_as}
use Rattle.texml_expand.specs.Held.{state_of}
use Rattle.texml_expand.proofs.Scanning.{decides_back}
use Rattle.texml_expand.proofs.engine.Engine.decided_on.Goals as goal

pub returns-in_ok-put_seen-in-Decided-clause-decides : goal.returns-in_ok-put_seen-in-Decided-clause-decides
returns-in_ok-put_seen-in-Decided-clause-decides c =
    λ shelf. decides_back c.args.self.now.names c.args.seen.now c.saturating_sub-from.result c.in-Decided.back c.in-Decided.value (scanned_as c.args.scanned) (state_of shelf c.args.self.now) (state_of shelf c.put_seen.new.self)
    (ap scanned_as c.in-Decided.is) (c.saturating_sub-from.ensures ∙ ap (λ k. length c.args.seen.now - k) c.from.ensures) (c.in_ok-put_seen-in-Decided.ensures.does shelf)
