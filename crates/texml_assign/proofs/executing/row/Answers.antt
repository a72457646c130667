use Rattle.std.proofs.Common.{Ok, Err, refl, rules}
use Rattle.texml_scope.specs.declared.values.KindOf.TheVariants.{Begin}
use Rattle.texml_expand.specs.State.{give}
use Rattle.texml_expand.specs.Contract.{outside}
use Rattle.texml_expand.specs.Hearing.{hears, hears_part}
use Rattle.texml_assign.specs.Doing.{Does}
use Rattle.texml_assign.specs.Sets.{begin_kind, end_kind}
use Rattle.texml_assign.specs.Execute.{row}
use Rattle.texml_assign.proofs.Readings.{plain_give}
use Rattle.texml_assign.proofs.Doing.{does_now, does_local}
use Rattle.texml_assign.proofs.Commands.{plain_begin, plain_end}
use Rattle.texml_assign.proofs.executing.row.Goals as goal

pub returns-in-Relax : goal.returns-in-Relax
returns-in-Relax g c = record { does = rw c.in-Relax.is (does_now _ _ (give tt) (plain_give tt) tt c.args.engine.now _ _ c.requires.sound c.requires.owns c.requires.running (λ shelf. refl)) }

pub returns-in_err-begin_group-in-BeginGroup : goal.returns-in_err-begin_group-in-BeginGroup
returns-in_err-begin_group-in-BeginGroup g c =
    let b = c.in_err-begin_group-in-BeginGroup.ensures in let e = c.in_err-begin_group-in-BeginGroup.field-0.0 in let h = c.args.engine.now in let new = c.begin_group.new.engine in
    let x = outside (g.F.Files.shelf c.args.files.now) (g.F.Files.faults c.args.files.now) (g.T.Teller.faults c.args.tell.now) (g.T.Teller.loan c.args.tell.now) in
    let d : Does (hears g.T.Teller.wanting g.T.Teller.heard) (hears_part g.T.Teller.wanting g.T.Teller.part) (row c.args.prefixes c.args.command) (Err e) h new x x c.args.tell.now c.args.tell.now =
    rw c.in-BeginGroup.is (does_local _ _ (begin_kind Begin) (plain_begin Begin) (Err e) h new _ _ c.requires.owns b.begins b.kept tt b.advances b.files tt) in
    search (rules, d)

pub returns-in_ok-begin_group-in-BeginGroup : goal.returns-in_ok-begin_group-in-BeginGroup
returns-in_ok-begin_group-in-BeginGroup g c = record {
  does =
      let b = c.in_ok-begin_group-in-BeginGroup.ensures in
      rw c.in-BeginGroup.is (does_local _ _ (begin_kind Begin) (plain_begin Begin) (Ok tt) c.args.engine.now c.begin_group.new.engine _ _ c.requires.owns b.begins b.kept b.keeps b.advances b.files b.puts);
}

pub returns-in_err-end_group-in-EndGroup : goal.returns-in_err-end_group-in-EndGroup
returns-in_err-end_group-in-EndGroup g c =
    let b = c.in_err-end_group-in-EndGroup.ensures in let e = c.in_err-end_group-in-EndGroup.field-0.0 in let h = c.args.engine.now in let new = c.end_group.new.engine in
    let x = outside (g.F.Files.shelf c.args.files.now) (g.F.Files.faults c.args.files.now) (g.T.Teller.faults c.args.tell.now) (g.T.Teller.loan c.args.tell.now) in
    let d : Does (hears g.T.Teller.wanting g.T.Teller.heard) (hears_part g.T.Teller.wanting g.T.Teller.part) (row c.args.prefixes c.args.command) (Err e) h new x x c.args.tell.now c.args.tell.now =
    rw c.in-EndGroup.is (does_local _ _ (end_kind Begin) (plain_end Begin) (Err e) h new _ _ c.requires.owns b.ends b.kept tt b.advances b.files tt) in
    search (rules, d)

pub returns-in_ok-end_group-in-EndGroup : goal.returns-in_ok-end_group-in-EndGroup
returns-in_ok-end_group-in-EndGroup g c = record {
  does =
      let b = c.in_ok-end_group-in-EndGroup.ensures in
      rw c.in-EndGroup.is (does_local _ _ (end_kind Begin) (plain_end Begin) (Ok tt) c.args.engine.now c.end_group.new.engine _ _ c.requires.owns b.ends b.kept b.keeps b.advances b.files b.puts);
}

pub returns-in_ok-let_to-in-Let : goal.returns-in_ok-let_to-in-Let
returns-in_ok-let_to-in-Let g c = record { does = rw c.in-Let.is c.in_ok-let_to-in-Let.ensures.does }

pub returns-in_ok-change_case-in-ChangeCase : goal.returns-in_ok-change_case-in-ChangeCase
returns-in_ok-change_case-in-ChangeCase g c = record { does = rw c.in-ChangeCase.is c.in_ok-change_case-in-ChangeCase.ensures.does }

pub returns-in_ok-assignment-in-Assign : goal.returns-in_ok-assignment-in-Assign
returns-in_ok-assignment-in-Assign g c = record { does = rw c.in-Assign.is c.in_ok-assignment-in-Assign.ensures.does }

pub returns-in_ok-short_name-in-Short : goal.returns-in_ok-short_name-in-Short
returns-in_ok-short_name-in-Short g c = record { does = rw c.in-Short.is c.in_ok-short_name-in-Short.ensures.does }

pub returns-in_ok-arithmetic-in-Arithmetic : goal.returns-in_ok-arithmetic-in-Arithmetic
returns-in_ok-arithmetic-in-Arithmetic g c = record { does = rw c.in-Arithmetic.is c.in_ok-arithmetic-in-Arithmetic.ensures.does }
