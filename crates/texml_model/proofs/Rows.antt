-- The definitions computed on a small table.
use Rattle.std.proofs.Common.{◌≡◌, List, [], ◌∷◌, true, false, Some, None, refl, codes}
use Rattle.texml_tree.specs.declared.table.Elements.{Elements}
use Rattle.texml_model.specs.Chain.{chain_between}
use Rattle.texml_model.specs.Rules.{attr_number, attrs_of, held, holding_in, rules_of, IsContentModel}
use Rattle.texml_tree.specs.declared.table.ElementLine.{ElementLine}

-- rows and cells open by themselves, and so do `p` and `q`
abbrev small : Elements
small = record {
  lines =
      record { name = codes "document"; tag = codes "main"; class = None; flags = record { text = false; block = false; opens = false; closes = false; id = true; toc = false; void = false }; holds = codes "tabular" ∷ codes "tr" ∷ codes "p" ∷ codes "q" ∷ []; attrs = [] }
      ∷ record { name = codes "tabular"; tag = codes "table"; class = None; flags = record { text = false; block = false; opens = false; closes = false; id = false; toc = false; void = false }; holds = codes "tr" ∷ []; attrs = [] }
      ∷ record { name = codes "tr"; tag = codes "tr"; class = None; flags = record { text = false; block = false; opens = true; closes = true; id = false; toc = false; void = false }; holds = codes "td" ∷ []; attrs = [] }
      ∷ record { name = codes "td"; tag = codes "td"; class = Some (codes "wide"); flags = record { text = true; block = true; opens = true; closes = true; id = false; toc = false; void = false }; holds = []; attrs = codes "span" ∷ codes "number" ∷ [] }
      ∷ record { name = codes "p"; tag = codes "p"; class = None; flags = record { text = true; block = true; opens = true; closes = true; id = false; toc = false; void = false }; holds = []; attrs = codes "number" ∷ [] }
      ∷ record { name = codes "q"; tag = codes "p"; class = None; flags = record { text = true; block = true; opens = true; closes = true; id = false; toc = false; void = false }; holds = []; attrs = [] }
      ∷ [];
  attributes = codes "span" ∷ codes "number" ∷ [];
}

pub small_is_model : IsContentModel small
small_is_model = record { names = refl; root = refl; held = refl; attributes = refl; attrs = refl; void = refl }

pub named_by_its_line : (rules_of small).named (codes "td") ≡ Some 3
unfolding rules_of
named_by_its_line = refl

pub no_such_name : (rules_of small).named (codes "li") ≡ None
unfolding rules_of
no_such_name = refl

pub attributes_in_the_order_of_the_line : attrs_of small 3 ≡ 0 ∷ 1 ∷ []
attributes_in_the_order_of_the_line = refl

pub held_by_name : held small 0 4 ≡ true
held_by_name = refl

pub held_directly : chain_between (holding_in small) 1 (Some 2) ≡ Some []
unfolding chain_between
held_directly = refl

pub two_open_by_themselves : chain_between (holding_in small) 1 None ≡ Some (2 ∷ 3 ∷ [])
unfolding chain_between
two_open_by_themselves = refl

-- the row and its cell come first in the table, but the paragraph is shorter; and `p` comes before `q`
pub shortest_before_first : chain_between (holding_in small) 0 None ≡ Some (4 ∷ [])
unfolding chain_between
shortest_before_first = refl

pub nothing_leads_there : chain_between (holding_in small) 4 (Some 3) ≡ None
unfolding chain_between
nothing_leads_there = refl
