use Rattle.std.proofs.Common.{Option}
use Rattle.std.specs.Option.{option_map}
use Rattle.texml_expand.specs.Fronts.{looked_at}
use Rattle.texml_expand.specs.Quantities.{Looked}
use Rattle.texml_assign.specs.declared.fillers.Filler.TheVariants.{Spaces}
use Rattle.texml_assign.specs.Fillers.{first_behind, put_looked}
use Rattle.texml_expand.proofs.Stopping.{passed_on}
use Rattle.texml_assign.proofs.Doing.{does_stop_sure, does_put}
use Rattle.texml_assign.proofs.Quantities.{lawful_first, sure_put, put_decided, put_unlimited}
use Rattle.texml_assign.proofs.fillers.ignore_spaces.Goals as goal

pub returns-in_err-first : goal.returns-in_err-first
returns-in_err-first g c =
    let h = does_stop_sure _ _ (first_behind Spaces) (λ o n. put_looked o) (lawful_first Spaces) sure_put _ _ _ _ _ _ _ c.requires.sound c.in_err-first.ensures.does in record { does = rw (passed_on c.from_residual.result c.in_err-first.field-0.0 c.from_residual.ensures) h }

pub returns : goal.returns
returns g c = record {
  does =
      let mid = c.first_behind.new.engine in let new = c.put_looked.new.engine in let o : Option Looked = option_map (looked_at mid.names) c.in_ok-first.first in let r = c.put_looked.ensures in
      does_put _ _ _ (first_behind Spaces) put_looked (lawful_first Spaces) put_decided put_unlimited o c.put_looked.result _ mid new _ _ _ _ c.in_ok-first.ensures.does c.in_ok-first.ensures.takes r.is r.kept r.keeps r.advances r.files r.puts;
}
