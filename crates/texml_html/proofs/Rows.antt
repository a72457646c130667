-- The definitions computed on small trees.
use Rattle.std.proofs.Common.{◌≡◌, ℕ, true, false, List, [], ◌∷◌, None, Some, refl}
use Rattle.std.specs.Prelude.{codes}
use Rattle.std.specs.Fmt.{digits}
use Rattle.texml_tree.specs.Tree.{Head, Mark, Tree, text, element, trees}
use Rattle.texml_model.specs.Rules.{rules_of}
use Rattle.texml_xref.specs.Refs.{LinkedTree}
use Rattle.texml_html.specs.Small.{small}
use Rattle.texml_html.specs.Html.{html}

abbrev plain_head : ℕ → Head
plain_head e = record { elem = e; identified = false; target = None; sets = []; marks = [] }

abbrev p : List Tree → Tree
p kids = element (plain_head 2) (trees kids)

abbrev linked : List Tree → LinkedTree
linked kids = record { tree = element (record { elem = 0; identified = true; target = None; sets = []; marks = [] }) (trees kids); reference = Some 5; sections = 0 }

abbrev section : List Mark → Tree
section marks = element (record { elem = 3; identified = true; target = None; sets = []; marks = marks }) (trees (p (text (codes "A<B") ∷ []) ∷ text (codes "c") ∷ []))

abbrev reference : List ℕ → Tree
reference label = element (record { elem = 5; identified = false; target = Some label; sets = []; marks = [] }) (trees [])

pub two_paragraphs : html (rules_of small) (linked (p (text (codes "Hello world") ∷ []) ∷ p (text (codes "Two") ∷ []) ∷ []))
    ≡ codes "<!DOCTYPE html>\n<html><head><meta charset=\"utf-8\"><title>untitled</title></head><body><main id=\"x0\"><p class=\"wide\">Hello world</p><p class=\"wide\">Two</p></main></body></html>\n"
unfolding rules_of digits
two_paragraphs = refl

-- the last set of an attribute counts, attributes stand in the order of the line, and `number` isn't written
pub attributes_and_escapes : html (rules_of small) (linked (element (plain_head 1) (trees (text (codes "a & b") ∷ [])) ∷ element (record {
  elem = 2;
  identified = false;
  target = None;
  sets = record { number = 2; value = codes "s" } ∷ record { number = 1; value = codes "old" } ∷ record { number = 0; value = codes "7" } ∷ record { number = 1; value = codes "\"<&>" } ∷ [];
  marks = [];
}) (trees (text (codes "\"<&>") ∷ [])) ∷ []))
    ≡ codes "<!DOCTYPE html>\n<html><head><meta charset=\"utf-8\"><title>a &amp; b</title></head><body><main id=\"x0\"><h1>a &amp; b</h1><p class=\"wide\" href=\"&quot;&lt;&amp;>\" src=\"s\">\"&lt;&amp;&gt;</p></main></body></html>\n"
unfolding rules_of digits
attributes_and_escapes = refl

pub references_and_contents : html (rules_of small) (linked (element (plain_head 4) (trees []) ∷ reference (codes "a") ∷ section (record { label = codes "a"; number = codes "1" } ∷ []) ∷ reference (codes "z") ∷ []))
    ≡ codes "<!DOCTYPE html>\n<html><head><meta charset=\"utf-8\"><title>untitled</title></head><body><main id=\"x0\"><ul class=\"toc\"><li><a href=\"#x1\">A&lt;B</a></li></ul><a href=\"#x1\">1</a><section id=\"x1\"><p class=\"wide\">A&lt;B</p>c</section><span class=\"undefined\">??</span></main></body></html>\n"
unfolding rules_of digits
references_and_contents = refl
