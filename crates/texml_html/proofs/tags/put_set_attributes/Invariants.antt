use Rattle.std.proofs.Common.{take}
use Rattle.std.specs.List.{flat_map}
use Rattle.texml_tree.specs.Plain.{head_of}
use Rattle.texml_html.specs.Html.{set_attribute}
use Rattle.texml_html.specs.Walk.{rules_in}
use Rattle.texml_html.specs.Writing.{Wrote, lent_by}
use Rattle.texml_html.proofs.tags.put_set_attributes.Given as goal

abbrev pub invariant-loop-attr : goal.invariant-loop-attr
invariant-loop-attr g l = Wrote (lent_by g.S.Sink.ink g.S.Sink.faults l.fn.out) (flat_map (set_attribute (rules_in l.page) (head_of l.head)) (take l.attr-index l.attrs)) (lent_by g.S.Sink.ink g.S.Sink.faults l.out)
