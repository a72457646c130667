use Rattle.std.proofs.Common.{rules}
use Rattle.texml_model.specs.Rules.{rules_of}
use Rattle.texml_xref.specs.Linked.{linked_of}
use Rattle.texml_html.specs.Html.{html}
use Rattle.texml_html.specs.Writing.{lent_by}
use Rattle.texml_html.proofs.Pieces.{wrote_page, took_page, broke_page}
use Rattle.texml_html.proofs.writing.write.Goals as goal

pub returns-then-writer-clause-written : goal.returns-then-writer-clause-written
returns-then-writer-clause-written g c =
    let page = html (rules_of c.args.content.now) (linked_of c.args.linked.now) in
    let old = lent_by g.S.Sink.ink g.S.Sink.faults c.new-writer.result in let new = lent_by g.S.Sink.ink g.S.Sink.faults c.flush.new.self in
    let broke = broke_page old new page c.new-writer.ensures.failed c.if-writer.true c.new-writer.ensures.held (wrote_page old _ new page c.put_page.ensures c.flush.ensures.written) in
    search (rules, broke)

pub returns-else-writer-clause-written : goal.returns-else-writer-clause-written
returns-else-writer-clause-written g c =
    let page = html (rules_of c.args.content.now) (linked_of c.args.linked.now) in
    let old = lent_by g.S.Sink.ink g.S.Sink.faults c.new-writer.result in let new = lent_by g.S.Sink.ink g.S.Sink.faults c.flush.new.self in
    let took = took_page old new page c.new-writer.ensures.failed c.if-writer.false c.new-writer.ensures.held c.flush.ensures.held (wrote_page old _ new page c.put_page.ensures c.flush.ensures.written) in
    search (rules, took)
