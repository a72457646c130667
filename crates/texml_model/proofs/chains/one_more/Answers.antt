use Rattle.std.proofs.Common.{rules, arith, ◌≡◌, ◌∷◌, ap}
use Rattle.texml_model.specs.Levels.{holding_with, places_of}
use Rattle.texml_model.proofs.Walk.{met}
use Rattle.texml_model.proofs.chains.one_more.Goals as goal

pub returns-in-Some : goal.returns-in-Some
returns-in-Some c =
    let w : c.extend_from_slice.new.self.items ≡ record { 0 = c.loop-elem.elem } ∷ c.in-Some.rest.items = search rules in
    met (holding_with c.args.lines.now c.args.holds.now) c.args.parent c.loop-elem.elem c.args.found.now _ c.in-Some.rest _ c.if-leads.ensures (omega arith) c.requires c.index-found-elem.is c.in-Some.is (ap places_of w) c.loop-elem.invariant
