use Rattle.texml_xref.specs.Linked.{linked_of}
use Rattle.texml_xref.proofs.Leading.{link_owner}
use Rattle.texml_xref.proofs.linked.Linked.owner.Goals as goal

pub returns-in-Some-clause-within : goal.returns-in-Some-clause-within
returns-in-Some-clause-within c = link_owner (linked_of c.args.self.now) c.args.at c.in-Some.link c.link.result c.link.ensures c.in-Some.is
