use Rattle.std.proofs.Common.{rules, [], ◌∷◌, List, true, Some, Ok, Err, subst}
use Rattle.texml_token.specs.declared.tokens.Token.{Token as TokenCode}
use Rattle.texml_token.specs.Numbers.{tokens_at}
use Rattle.texml_match.specs.Arguments.{argument}
use Rattle.texml_expand.specs.State.{give}
use Rattle.texml_expand.specs.Arguments.{read_by, sign, open_bracket, close_bracket, behind_bracket}
use Rattle.texml_expand.specs.Contract.{files_at}
use Rattle.texml_expand.specs.Doing.{Gets}
use Rattle.texml_expand.proofs.Getting.{gets_then, gets_stop, gets_now, gets_out}
use Rattle.texml_expand.proofs.Stopping.{passed_on}
use Rattle.texml_expand.proofs.engine.Engine.optional.Goals as goal

pub returns-in_err-argument-clause-gets : goal.returns-in_err-argument-clause-gets
returns-in_err-argument-clause-gets g c =
    let F = g.F.Files in
    let a = files_at (F.shelf c.sign.new.files) (F.faults c.sign.new.files) in
    let b = files_at (F.shelf c.argument.new.files) (F.faults c.argument.new.files) in
    let mid = c.sign.new.self in
    let e = c.in_err-argument.field-0.0 in
    let P : List TokenCode → Type 0 = λ d. Gets (read_by (argument c.args.long (tokens_at mid.names d))) (Err e) mid c.argument.new.self a b in
    let h = gets_then (sign open_bracket) (behind_bracket c.args.long) true (Err e) c.args.self.now mid c.argument.new.self _ _ _ (rw c.if-not-branch.false at c.in_ok-sign.ensures.gets)
    (gets_stop (read_by (argument c.args.long (close_bracket ∷ []))) (λ a. give (Some a)) e mid c.argument.new.self _ _ (subst P c.in-Ok.ensures c.in_err-argument.ensures.gets)) in
    search (rules, h)

pub returns-clause-gets : goal.returns-clause-gets
returns-clause-gets g c =
    let F = g.F.Files in
    let a = files_at (F.shelf c.sign.new.files) (F.faults c.sign.new.files) in
    let b = files_at (F.shelf c.argument.new.files) (F.faults c.argument.new.files) in
    let mid = c.sign.new.self in
    let new = c.argument.new.self in
    let list = tokens_at new.names c.in_ok-argument.argument in
    let P : List TokenCode → Type 0 = λ d. Gets (read_by (argument c.args.long (tokens_at mid.names d))) (Ok list) mid new a b in
    let e = c.in_ok-argument.ensures.gets in
    gets_then (sign open_bracket) (behind_bracket c.args.long) true (Ok (Some list)) c.args.self.now mid new _ _ _ (rw c.if-not-branch.false at c.in_ok-sign.ensures.gets)
    (gets_then (read_by (argument c.args.long (close_bracket ∷ []))) (λ a. give (Some a)) list (Ok (Some list)) mid new new _ _ _ (subst P c.in-Ok.ensures e) (gets_now (Some list) new _ e.keeps.sound e.stops.kept e.holds.owns))

pub returns-in_err-sign-clause-gets : goal.returns-in_err-sign-clause-gets
returns-in_err-sign-clause-gets g c =
    let h = gets_stop (sign open_bracket) (behind_bracket c.args.long) c.in_err-sign.field-0.0 c.args.self.now c.sign.new.self _ _ c.in_err-sign.ensures.gets in
    rw (passed_on c.from_residual.result c.in_err-sign.field-0.0 c.from_residual.ensures) h

pub returns-in-Err-clause-gets : goal.returns-in-Err-clause-gets
returns-in-Err-clause-gets g c =
    let mid = c.sign.new.self in
    let d = rw c.if-not-branch.false at c.in_ok-sign.ensures.gets in
    gets_then (sign open_bracket) (behind_bracket c.args.long) true (Err c.no_memory.result) c.args.self.now mid c.no_memory.new.self _ _ _ d
    (gets_out (behind_bracket c.args.long true) c.no_memory.result mid c.no_memory.new.self _ c.no_memory.ensures.is c.no_memory.ensures.kept d.holds.owns)
