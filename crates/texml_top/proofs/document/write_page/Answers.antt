use Rattle.texml_tree.specs.Plain.{tree_of}
use Rattle.texml_model.specs.Rules.{rules_of}
use Rattle.texml_xref.specs.Linked.{linked_of}
use Rattle.texml_html.specs.Html.{html}
use Rattle.texml_top.proofs.Tables.{document_is, document_fails, linked_known}
use Rattle.texml_top.proofs.document.write_page.Goals as goal

pub write-requires-clause-known : goal.write-requires-clause-known
write-requires-clause-known g c = linked_known c.args.content.now (tree_of c.in-Ok.tree) (linked_of c.in-Ok-resolve.linked) c.requires c.in-Ok.ensures.valid c.in-Ok-resolve.ensures

pub returns-in-Ok-write-clause-ends : goal.returns-in-Ok-write-clause-ends
returns-in-Ok-write-clause-ends g c =
    (html (rules_of c.args.content.now) (linked_of c.in-Ok-resolve.linked), document_is c.args.content.now c.args.ops (tree_of c.in-Ok.tree) (linked_of c.in-Ok-resolve.linked) c.requires c.in-Ok.ensures.value c.in-Ok-resolve.ensures, c.in-Ok-write.ensures.written)

pub returns-clause-ends : goal.returns-clause-ends
returns-clause-ends g c =
    (html (rules_of c.args.content.now) (linked_of c.in-Ok-resolve.linked), document_is c.args.content.now c.args.ops (tree_of c.in-Ok.tree) (linked_of c.in-Ok-resolve.linked) c.requires c.in-Ok.ensures.value c.in-Ok-resolve.ensures, c.in-Err-write.ensures.written)

pub returns-in-Err-clause-ends : goal.returns-in-Err-clause-ends
returns-in-Err-clause-ends g c = rw c.from.ensures (document_fails c.args.ops c.in-Err.fault (g.S.Sink.ink c.args.out.now) c.in-Err.ensures.value)
