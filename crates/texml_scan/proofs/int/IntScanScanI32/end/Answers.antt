use Rattle.std.specs.Prelude.{[]}
use Rattle.texml_scan.specs.IntRest.{number_rest}
use Rattle.texml_scan.specs.declared.looks.Look.TheVariants.{End}
use Rattle.texml_scan.proofs.Said.{end_says}
use Rattle.texml_scan.proofs.int.IntScanScanI32.end.Goals as goal

pub returns-clause-said : goal.returns-clause-said
returns-clause-said c = end_says c.step.result c.ended.result (number_rest c.step.new.self) End (c.step.ensures.stepped []) c.step.ensures.one c.ended.ensures.said
