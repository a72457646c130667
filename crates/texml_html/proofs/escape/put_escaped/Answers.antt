use Rattle.std.proofs.Common.{ap}
use Rattle.std.proofs.lemmas.List.{take_rest}
use Rattle.texml_html.specs.Writing.{lent_by}
use Rattle.texml_html.proofs.Pieces.{wrote_same}
use Rattle.texml_html.proofs.Wording.{escaping_plain, escaping_escape, escaping_end}
use Rattle.texml_html.proofs.escape.put_escaped.Goals.{in-None, in-Some}
use Rattle.texml_html.proofs.escape.put_escaped.Goals as goal

pub loop-at-preserved : goal.loop-at-preserved
loop-at-preserved g c = elim c.match-escape.branch [
  | in-None w ↦ escaping_plain c.args.inside c.args.bytes.now _ _ _ c.loop-at.from c.match-escape.from c.loop-at.at 0 c.loop-at-test.true w.in-None.ensures (ap (lent_by g.S.Sink.ink g.S.Sink.faults) w.out-is) w.from-is c.loop-at.invariant
  | in-Some w ↦ escaping_escape c.args.inside c.args.bytes.now w.in-Some.name.now _ _ _ _ c.loop-at.from c.match-escape.from c.loop-at.at 0 c.loop-at-test.true w.in-Some.ensures w.put_escape.ensures (ap (lent_by g.S.Sink.ink g.S.Sink.faults) w.out-is) w.from-is c.loop-at.invariant
]

pub returns : goal.returns
returns g c = escaping_end c.args.inside c.args.bytes.now _ _ _ c.loop-at.from c.loop-at.at c.loop-at-test.false c.loop-at.invariant (wrote_same _ _ _ _ (take_rest c.args.bytes.now c.loop-at.from) c.put.ensures)
