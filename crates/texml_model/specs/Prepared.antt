-- What a content model keeps for its look-ups. The rules themselves are specs/Rules.antt.
use Rattle.std.specs.Prelude.{◌≡◌, ℕ, Bool, List, map, length, Option, Some, None}
use Rattle.std.specs.List.{position_or_len}
use Rattle.std.specs.declared.vec.Vec.{Vec}
use Rattle.std.specs.declared.alloc.Global.{Global}
use Rattle.texml_token.specs.Token.{text_eq}
use Rattle.texml_tree.specs.declared.table.Elem.{Elem}
use Rattle.texml_tree.specs.declared.table.ElementLine.{ElementLine}
use Rattle.texml_tree.specs.declared.table.Elements.{Elements}
use Rattle.texml_model.specs.Chain.{chain_between}
use Rattle.texml_model.specs.Rules.{IsContentModel, lists, holding_in}
use Rattle.texml_model.specs.Levels.{rows_of, chain_lists, upto}

-- for each line of the table, whether the parent's line lists its name
abbrev pub held_row : List ElementLine → ElementLine → List Bool
held_row lines parent = map (λ child. lists parent.holds child.name) lines

abbrev pub held_rows : List ElementLine → List (List Bool)
held_rows lines = map (held_row lines) lines

-- the numbers of a line's attributes
abbrev pub attr_row : List (List ℕ) → ElementLine → List ℕ
attr_row attributes line = map (λ name. position_or_len (λ t. text_eq t name) attributes) line.attrs

abbrev pub attr_rows : List (List ℕ) → List ElementLine → List (List ℕ)
attr_rows attributes lines = map (attr_row attributes) lines

-- the chains to a child, from each parent of the table
abbrev pub chains_in : Elements → Option ℕ → List (Option (List ℕ))
chains_in elements child = upto (λ p. chain_between (holding_in elements) p child) (length elements.lines)

abbrev pub all_chains_in : Elements → List (List (Option (List ℕ)))
all_chains_in elements = upto (λ e. chains_in elements (Some e)) (length elements.lines)

pub record IsPrepared (elements : Elements) (bits : List (Vec Bool Global)) (numbers : List (Vec ℕ Global)) (text_chains : List (Option (Vec Elem Global))) (chains : List (Vec (Option (Vec Elem Global)) Global)) : Type 0 where
  pub model : IsContentModel elements
  pub holds : rows_of bits ≡ held_rows elements.lines
  pub attrs : rows_of numbers ≡ attr_rows elements.attributes elements.lines
  pub to_text : chain_lists text_chains ≡ chains_in elements None
  pub to_elements : map (λ found. chain_lists found.items) chains ≡ all_chains_in elements
