-- A small table, on which proofs/Rows.antt computes the definitions and which the tests make.
use Rattle.std.specs.Prelude.{ℕ, List, [], ◌∷◌, true, false, None, codes}
use Rattle.texml_tree.specs.declared.table.ElementLine.{ElementLine}
use Rattle.texml_tree.specs.declared.table.Elements.{Elements}
use Rattle.texml_tree.specs.declared.table.Flags.{Flags}

-- no text, nothing by itself
abbrev pub plain : Flags
plain = record { text = false; block = false; opens = false; closes = false; id = false; toc = false; void = false }

-- texts, and opens and closes by itself
abbrev pub cell : Flags
cell = record plain { text = true; block = true; opens = true; closes = true }

-- opens and closes by itself
abbrev pub row : Flags
row = record plain { opens = true; closes = true }

-- gets an id, and closes by itself
abbrev pub part : Flags
part = record plain { closes = true; id = true }

abbrev pub line : List ℕ → Flags → List (List ℕ) → List (List ℕ) → ElementLine
line name flags holds attrs = record { name = name; tag = name; class = None; flags = flags; holds = holds; attrs = attrs }

abbrev pub small : Elements
small = record {
  lines =
      line (codes "document") plain (codes "p" ∷ codes "q" ∷ codes "list" ∷ codes "quote" ∷ codes "tabular" ∷ []) []
      ∷ line (codes "p") cell (codes "ref" ∷ codes "break" ∷ []) []
      ∷ line (codes "q") cell (codes "ref" ∷ codes "break" ∷ []) []
      ∷ line (codes "list") plain (codes "item" ∷ []) []
      ∷ line (codes "item") part (codes "p" ∷ codes "list" ∷ []) (codes "number" ∷ [])
      ∷ line (codes "quote") plain (codes "quote" ∷ codes "p" ∷ []) []
      ∷ line (codes "tabular") plain (codes "tr" ∷ []) []
      ∷ line (codes "tr") row (codes "td" ∷ []) []
      ∷ line (codes "td") cell (codes "ref" ∷ codes "break" ∷ []) (codes "span" ∷ [])
      ∷ line (codes "ref") plain [] []
      ∷ line (codes "break") (record plain { void = true }) [] []
      ∷ [];
  attributes = codes "number" ∷ codes "span" ∷ [];
}
