use Rattle.std.specs.Option.{option_map}
use Rattle.std.proofs.lemmas.List.{length-map}
use Rattle.texml_xref.proofs.Owning.{length-ids_upto}
use Rattle.std.proofs.Common.{arith, ◌≡◌, ◌∙◌, ap, sym, length}
use Rattle.texml_tree.specs.Plain.{plain, tree_of}
use Rattle.texml_xref.specs.Refs.{heads, identified, link_in, placed}
use Rattle.texml_xref.specs.Links.{link_of, place_of}
use Rattle.texml_xref.proofs.Leading.{links_found, found_of}
use Rattle.texml_xref.proofs.linking.resolve.Goals as goal

pub invariant_of-result : goal.invariant_of-result
invariant_of-result c =
    let has = found_of (place_of c.named.result) (place_of c.named-2.result) c.nothing-found.result c.visit.new.found (plain c.root.result.now) (tree_of c.args.tree) c.nothing-found.ensures c.root.ensures c.in_ok-visit.ensures in
    record {
      ids_are = has.owners_are.ids_are;
      links_are = links_found (place_of c.named.result) (place_of c.named-2.result) c.visit.new.found (heads (tree_of c.args.tree)) c.in_ok-links.links.items c.as_slice.result.now has c.as_slice.ensures.value c.in_ok-links.ensures;
      few_ids = (let k : length c.visit.new.found.ids.items ≡ length (identified (heads (tree_of c.args.tree))) = ap length has.owners_are.ids_are ∙ length-ids_upto (length (identified (heads (tree_of c.args.tree)))) in omega (arith, k, c.visit.new.found.ids.small));
      few_links = (let k : length c.in_ok-links.links.items ≡ length (placed (place_of c.named.result) (heads (tree_of c.args.tree))) = sym (length-map c.in_ok-links.links.items (option_map link_of)) ∙ ap length (links_found (place_of c.named.result) (place_of c.named-2.result) c.visit.new.found (heads (tree_of c.args.tree)) c.in_ok-links.links.items c.as_slice.result.now has c.as_slice.ensures.value c.in_ok-links.ensures) ∙ length-map (placed (place_of c.named.result) (heads (tree_of c.args.tree))) (link_in (heads (tree_of c.args.tree))) in omega (arith, k, c.in_ok-links.links.small));
    }

pub returns : goal.returns
returns c =
    let has = found_of (place_of c.named.result) (place_of c.named-2.result) c.nothing-found.result c.visit.new.found (plain c.root.result.now) (tree_of c.args.tree) c.nothing-found.ensures c.root.ensures c.in_ok-visit.ensures in
    (λ i. record {
      tree = tree_of c.args.tree;
      reference = c.named.ensures i;
      sections = (has.sections_are ∙ ap (λ p. length (placed p (heads (tree_of c.args.tree)))) c.named-2.ensures) i;
    })
