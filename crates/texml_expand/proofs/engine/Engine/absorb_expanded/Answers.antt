use Rattle.std.proofs.Common.{subst, sym, Ok, true, false, length, None, [], ◌≡◌, ◌+◌}
use Rattle.texml_token.specs.Numbers.{tokens_at}
use Rattle.texml_expand.specs.Contract.{outside}
use Rattle.texml_expand.specs.contracts.engine.Engine.{the_view}
use Rattle.texml_expand.specs.Held.{Sound, Owns}
use Rattle.texml_expand.specs.Doing.{Does}
use Rattle.texml_expand.specs.Expand.{level}
use Rattle.texml_expand.specs.Hearing.{hears, hears_part}
use Rattle.texml_expand.specs.declared.gathering.Gathering.TheVariants.{Group}
use Rattle.texml_expand.proofs.Stopping.{passed_on}
use Rattle.texml_expand.proofs.Absorbing.{expanded_stops, expanded_does, set_shrinks}
use Rattle.texml_expand.proofs.engine.Engine.absorb_expanded.Goals as goal

pub returns-in_err-list-clause-does : goal.returns-in_err-list-clause-does
returns-in_err-list-clause-does g c =
    let T = g.T.Teller in
    let F = g.F.Files in
    let hear = hears T.wanting T.heard in
    let part = hears_part T.wanting T.part in
    let h = the_view c.self.inside in
    let before = outside (F.shelf c.args.files.now) (F.faults c.args.files.now) (T.faults c.args.tell.now) (T.loan c.args.tell.now) in
    let sound = subst Sound (sym c.self.view_is) c.requires.sound in
    let running = subst (λ n. n.stop ≡ None) (sym c.self.view_is) c.requires.running in
    let owns = subst (Owns (F.shelf c.args.files.now)) (sym c.self.view_is) c.requires.owns in
    let d = expanded_stops hear part _ h _ before _ _ _ sound running owns c.in_err-list.ensures.does in
    rw (← c.self.view_is) (rw (passed_on c.from_residual.result c.in_err-list.field-0.0 c.from_residual.ensures) d)

pub returns-clause-does : goal.returns-clause-does
returns-clause-does g c =
    let T = g.T.Teller in
    let F = g.F.Files in
    let hear = hears T.wanting T.heard in
    let part = hears_part T.wanting T.part in
    let h = the_view c.self.inside in
    let mid = the_view c.self-2.inside in
    let before = outside (F.shelf c.args.files.now) (F.faults c.args.files.now) (T.faults c.args.tell.now) (T.loan c.args.tell.now) in
    let after = outside (F.shelf c.gather.new.files) (F.faults c.gather.new.files) (T.faults c.gather.new.tell) (T.loan c.gather.new.tell) in
    let sound = subst Sound (sym c.self.view_is) c.requires.sound in
    let running = subst (λ n. n.stop ≡ None) (sym c.self.view_is) c.requires.running in
    let owns = subst (Owns (F.shelf c.args.files.now)) (sym c.self.view_is) c.requires.owns in
    let d = subst (λ n. Does hear part (λ m. (level m).gather Group []) (Ok (tokens_at n.names c.in_ok-list.list)) (record h { absorbing = true }) n before after c.args.tell.now c.gather.new.tell) (sym c.self-2.view_is) c.in_ok-list.ensures.does in
    rw (← c.self.view_is) (expanded_does hear part (tokens_at mid.names c.in_ok-list.list) h mid before after _ _ sound running owns d)

pub returns-clause-lower : goal.returns-clause-lower
returns-clause-lower g c =
    let F = g.F.Files in
    let h = the_view c.self.inside in
    let mid = the_view c.self-2.inside in
    let low = c.in_ok-list.ensures.lower in
    rw (← c.self.view_is) (set_shrinks (length c.in_ok-list.list + 1) true false (F.shelf c.args.files.now) (F.shelf c.gather.new.files) h mid (rw c.self-2.view_is low))
