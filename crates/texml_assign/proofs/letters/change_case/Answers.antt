use Rattle.texml_token.specs.Numbers.{tokens_at}
use Rattle.texml_expand.specs.State.{change}
use Rattle.texml_assign.specs.Letters.{next_group, put_in_case}
use Rattle.texml_expand.proofs.Stopping.{passed_on}
use Rattle.texml_assign.proofs.Doing.{does_stop_sure, does_put}
use Rattle.texml_assign.proofs.LetterCases.{lawful_next_group, sure_case}
use Rattle.texml_assign.proofs.letters.change_case.Goals as goal

pub returns-in_err-list : goal.returns-in_err-list
returns-in_err-list g c =
    let case = c.args.case in
    let h = does_stop_sure _ _ next_group (λ list n. change (put_in_case case list)) lawful_next_group (sure_case case) _ _ _ _ _ _ _ c.requires.sound c.in_err-list.ensures.does in record { does = rw (passed_on c.from_residual.result c.in_err-list.field-0.0 c.from_residual.ensures) h }

pub returns : goal.returns
returns g c = record {
  does =
      let case = c.args.case in let mid = c.next_group.new.engine in let new = c.put_in_case.new.engine in let list = tokens_at mid.names c.in_ok-list.list in let r = c.put_in_case.ensures in
      does_put _ _ _ next_group (λ list. change (put_in_case case list)) lawful_next_group (λ list s. tt) (λ list s. tt) list c.put_in_case.result _ mid new _ _ _ _ c.in_ok-list.ensures.does c.in_ok-list.ensures.takes r.changes r.kept r.keeps r.advances r.files r.puts;
}
