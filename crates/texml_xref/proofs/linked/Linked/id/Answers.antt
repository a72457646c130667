use Rattle.std.proofs.Common.{arith, ◌≡◌, ◌∙◌, ap, length}
use Rattle.texml_xref.specs.Refs.{ids_in}
use Rattle.texml_xref.specs.Linked.{linked_of}
use Rattle.texml_xref.proofs.Owning.{length-ids_upto, id_at}
use Rattle.texml_xref.proofs.linked.Linked.id.Goals as goal

pub index-requires : goal.index-requires
index-requires c = let k : length c.args.self.now.ids.items ≡ ids_in (linked_of c.args.self.now) = ap length c.args.self.now.ids_are ∙ length-ids_upto (ids_in (linked_of c.args.self.now)) in omega (arith, k, c.requires)

pub returns : goal.returns
returns c = c.as_slice.ensures ∙ id_at (ids_in (linked_of c.args.self.now)) c.args.at c.args.self.now.ids.items c.index.result.now c.args.self.now.ids_are c.requires c.index.ensures
