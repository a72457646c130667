use Rattle.texml_html.specs.Writing.{lent_by}
use Rattle.texml_html.proofs.Wording.{Escaping}
use Rattle.texml_html.proofs.escape.put_escaped.Given as goal

abbrev pub invariant-loop-at : goal.invariant-loop-at
invariant-loop-at g l = Escaping l.inside l.bytes (lent_by g.S.Sink.ink g.S.Sink.faults l.fn.out) (lent_by g.S.Sink.ink g.S.Sink.faults l.out) l.from l.at
