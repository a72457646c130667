use Rattle.texml_expand.specs.Contract.{outside}
use Rattle.texml_token.specs.Numbers.{token_at}
use Rattle.std.proofs.Common.{Some, sym, ap, subst, ◌∙◌}
use Rattle.texml_expand.specs.Held.{state_of}
use Rattle.texml_expand.specs.Calls.{expandable}
use Rattle.texml_expand.specs.Expand.{level, expand_as, expand_token}
use Rattle.texml_expand.specs.Hearing.{hears, hears_part, Follows}
use Rattle.texml_expand.specs.Spending.{SpentBy}
use Rattle.texml_expand.proofs.Public.{lawful_expand_token}
use Rattle.texml_expand.proofs.Judging.{expands_by}
use Rattle.texml_expand.proofs.Doing.{does_out}
use Rattle.texml_expand.proofs.engine.Engine.expand_once.Goals as goal

pub returns-in-Err-clause-follows : goal.returns-in-Err-clause-follows
returns-in-Err-clause-follows g c = λ running.
    let T = g.T.Teller in
    let F = g.F.Files in
    let t = token_at c.args.self.now.names c.args.token in
    let e = c.no_memory.ensures in
    (does_out (hears T.wanting T.heard) (hears_part T.wanting T.part) (λ c. expand_token c t) (lawful_expand_token t) c.no_memory.result c.args.self.now c.no_memory.new.self (outside (F.shelf c.args.files.now) (F.faults c.args.files.now) (T.faults c.args.tell.now) (T.loan c.args.tell.now)) c.args.tell.now e.is e.kept c.requires.owns).follows

pub returns-clause-follows : goal.returns-clause-follows
returns-clause-follows g c = λ running told.
    let T = g.T.Teller in
    let F = g.F.Files in
    let mine = c.args.self.now in
    let s = state_of (F.shelf c.args.files.now) mine in
    let t = token_at mine.names c.args.token in
    let is = ap expandable (sym c.in-Ok.ensures.means) ∙ expands_by mine.names c.in-Ok.meaning (Some c.in-Some.found) (sym c.expandable_by.ensures ∙ c.in-Some.is) in
    subst (λ o. Follows (hears T.wanting T.heard) (hears_part T.wanting T.part) (λ n. expand_as (level n) t o s) c.expand.result (state_of (F.shelf c.expand.new.files) c.expand.new.self) c.args.tell.now c.expand.new.tell) (sym is) (c.expand.ensures.does.follows told)

pub returns-in-Err-clause-spends : goal.returns-in-Err-clause-spends
returns-in-Err-clause-spends g c = λ running.
    let T = g.T.Teller in
    let F = g.F.Files in
    let t = token_at c.args.self.now.names c.args.token in
    let e = c.no_memory.ensures in
    (does_out (hears T.wanting T.heard) (hears_part T.wanting T.part) (λ c. expand_token c t) (lawful_expand_token t) c.no_memory.result c.args.self.now c.no_memory.new.self (outside (F.shelf c.args.files.now) (F.faults c.args.files.now) (T.faults c.args.tell.now) (T.loan c.args.tell.now)) c.args.tell.now e.is e.kept c.requires.owns).spends

pub returns-clause-spends : goal.returns-clause-spends
returns-clause-spends g c = λ running told little.
    let T = g.T.Teller in
    let F = g.F.Files in
    let mine = c.args.self.now in
    let s = state_of (F.shelf c.args.files.now) mine in
    let t = token_at mine.names c.args.token in
    let is = ap expandable (sym c.in-Ok.ensures.means) ∙ expands_by mine.names c.in-Ok.meaning (Some c.in-Some.found) (sym c.expandable_by.ensures ∙ c.in-Some.is) in
    subst (λ o. SpentBy (λ n. expand_as (level n) t o s) c.expand.result (F.shelf c.args.files.now) (F.shelf c.expand.new.files) mine.input.sources c.expand.new.self.input.sources) (sym is) (c.expand.ensures.does.spends told little)
