use Rattle.std.proofs.Common.{Ok, Err}
use Rattle.texml_token.specs.Numbers.{tokens_at}
use Rattle.texml_expand.specs.Absorb.{absorb}
use Rattle.texml_expand.specs.Held.{Kept, ok_at}
use Rattle.texml_expand.specs.Hearing.{hears, hears_part}
use Rattle.texml_assign.specs.Define.{body_said}
use Rattle.texml_expand.proofs.Stopping.{passed_on}
use Rattle.texml_assign.proofs.Doing.{does_call, does_then, does_stop, kept_of, keeps_of, does_judge, no_more}
use Rattle.texml_assign.proofs.Commands.{lawful_absorb, lawful_body_said, plain_body_said}
use Rattle.texml_assign.proofs.define.next_body.Goals as goal

pub returns-in_err-list-clause-does : goal.returns-in_err-list-clause-does
returns-in_err-list-clause-does g c =
    let ex = c.args.expanding in let slots = c.args.slots in let f = c.in_err-list.ensures in let mid = c.absorb.new.self in let run = c.requires.running in
    let s = does_call (hears g.T.Teller.wanting g.T.Teller.heard) (hears_part g.T.Teller.wanting g.T.Teller.part) (absorb ex) (tokens_at mid.names) (Err c.in_err-list.field-0.0) c.args.engine.now mid _ _ _ _ (f.follows run) (f.spends run) (f.stops run) (f.limit run) tt f.progress f.holds tt in
    let h = does_stop _ _ (absorb ex) (λ list n. body_said slots list) (lawful_absorb ex) (lawful_body_said slots) _ _ _ _ _ _ _ c.requires.sound s in
    rw (passed_on c.from_residual.result c.in_err-list.field-0.0 c.from_residual.ensures) h

pub returns-clause-does : goal.returns-clause-does
returns-clause-does g c =
    let ex = c.args.expanding in let slots = c.args.slots in let f = c.in_ok-list.ensures in let mid = c.absorb.new.self in let new = c.body_said.new.engine in let run = c.requires.running in
    let s = does_call (hears g.T.Teller.wanting g.T.Teller.heard) (hears_part g.T.Teller.wanting g.T.Teller.part) (absorb ex) (tokens_at mid.names) (Ok c.in_ok-list.list) c.args.engine.now mid _ _ _ _ (f.follows run) (f.spends run) (f.stops run) tt (f.keeps run) f.progress f.holds (no_more (f.lower run)) in
    let list = tokens_at mid.names c.in_ok-list.list in let n = c.body_said.ensures in let r = c.body_said.result in
    does_then _ _ (absorb ex) (λ list n. body_said slots list) (lawful_absorb ex) (lawful_body_said slots) list _ c.args.engine.now mid new _ _ _ _ _ _ s
    (does_judge _ _ (body_said slots list) (plain_body_said slots list) (ok_at (tokens_at new.names) r) mid new _ _ s.holds.owns n.needs (kept_of (tokens_at new.names) r new.stop n.kept) (keeps_of (tokens_at new.names) r (Kept mid new) n.keeps) n.is)
