use Rattle.std.proofs.Common.{sym, subst, ◌∙◌}
use Rattle.texml_watch.specs.declared.record.Record.{Record}
use Rattle.texml_expand.specs.Hearing.{hears, hears_part}
use Rattle.texml_expand.proofs.Meeting.{meets_told, cut_told, part_told, part_untold, hears_not, hears_one, hears_some}
use Rattle.texml_expand.proofs.engine.Engine.tell_of.Goals as goal

pub returns-then-not-wants-clause-told : goal.returns-then-not-wants-clause-told
returns-then-not-wants-clause-told g c =
    λ shelf. meets_told (hears g.T.Teller.wanting g.T.Teller.heard) (hears_part g.T.Teller.wanting g.T.Teller.part) _ _ _ _
    (hears_not g.T.Teller.wanting g.T.Teller.heard _ c.args.tell.now (sym c.wants.ensures ∙ c.if-not-wants.true))

pub returns-in-Err-clause-told : goal.returns-in-Err-clause-told
returns-in-Err-clause-told g c =
    rw c.no_memory.ensures.is (λ shelf. part_untold (hears g.T.Teller.wanting g.T.Teller.heard) (hears_part g.T.Teller.wanting g.T.Teller.part) _ c.args.tell.now)

pub returns-in-Ok-tell-clause-told : goal.returns-in-Ok-tell-clause-told
returns-in-Ok-tell-clause-told g c =
    let P : Record → Type 0 = λ news. g.T.Teller.heard c.args.tell.now news c.tell.new.self in
    λ shelf. meets_told (hears g.T.Teller.wanting g.T.Teller.heard) (hears_part g.T.Teller.wanting g.T.Teller.part) _ _ _ _
    (hears_one g.T.Teller.wanting g.T.Teller.heard _ c.args.tell.now c.tell.new.self (sym c.wants.ensures ∙ c.if-not-wants.false) (subst P c.in-Ok.ensures c.in-Ok-tell.ensures.told))

pub returns-in-Err-Failed-clause-told : goal.returns-in-Err-Failed-clause-told
returns-in-Err-Failed-clause-told g c =
    let P : Record → Type 0 = λ news. g.T.Teller.part c.args.tell.now news c.tell.new.self in
    λ shelf. cut_told (hears g.T.Teller.wanting g.T.Teller.heard) (hears_part g.T.Teller.wanting g.T.Teller.part) _ _ _ _
    (hears_some g.T.Teller.wanting g.T.Teller.part _ c.args.tell.now c.tell.new.self (sym c.wants.ensures ∙ c.if-not-wants.false) (subst P c.in-Ok.ensures c.in-Err-Failed.ensures.told))

pub returns-clause-told : goal.returns-clause-told
returns-clause-told g c =
    let P : Record → Type 0 = λ news. g.T.Teller.part c.args.tell.now news c.tell.new.self in
    rw c.no_memory-in-Err-NoMemory.ensures.is
    (λ shelf. part_told (hears g.T.Teller.wanting g.T.Teller.heard) (hears_part g.T.Teller.wanting g.T.Teller.part) _ _ _ _
    (hears_some g.T.Teller.wanting g.T.Teller.part _ c.args.tell.now c.tell.new.self (sym c.wants.ensures ∙ c.if-not-wants.false) (subst P c.in-Ok.ensures c.in-Err-NoMemory.ensures.told)))
