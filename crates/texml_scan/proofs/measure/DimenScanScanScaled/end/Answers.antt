use Rattle.std.specs.Prelude.{[]}
use Rattle.std.proofs.Common.{ap, ◌∙◌}
use Rattle.texml_scan.specs.Measure.{with_width}
use Rattle.texml_scan.specs.MeasureRest.{measuring_rest}
use Rattle.texml_scan.specs.declared.looks.Look.TheVariants.{End}
use Rattle.texml_scan.proofs.Said.{end_says}
use Rattle.texml_scan.proofs.measure.DimenScanScanScaled.end.Goals as goal

pub returns-clause-said : goal.returns-clause-said
returns-clause-said c = end_says c.width.result c.ended.result (λ later. with_width (measuring_rest c.feed.new.self later)) End
    (ap with_width (c.feed.ensures.stepped []) ∙ c.width.ensures.stepped (measuring_rest c.feed.new.self) End []) (c.width.ensures.one c.feed.ensures.one) c.ended.ensures.said
