-- The table of the measured documents: sections with titles, paragraphs and references.
use Rattle.std.specs.Prelude.{ℕ, true, false, List, [], ◌∷◌, None, codes}
use Rattle.texml_tree.specs.declared.table.ElementLine.{ElementLine}
use Rattle.texml_tree.specs.declared.table.Elements.{Elements}
use Rattle.texml_tree.specs.declared.table.Flags.{Flags}

-- no text, nothing by itself
abbrev pub plain : Flags
plain = record { text = false; block = false; opens = false; closes = false; id = false; toc = false; void = false }

-- texts
abbrev pub words : Flags
words = record plain { text = true; block = true }

-- texts, and opens and closes by itself
abbrev pub paragraph : Flags
paragraph = record words { opens = true; closes = true }

-- gets an id
abbrev pub part : Flags
part = record plain { id = true }

abbrev pub line : List ℕ → Flags → List (List ℕ) → ElementLine
line name flags holds = record { name = name; tag = name; class = None; flags = flags; holds = holds; attrs = [] }

abbrev pub table : Elements
table = record {
  lines =
      line (codes "document") plain (codes "section" ∷ codes "p" ∷ [])
      ∷ line (codes "section") part (codes "title" ∷ codes "p" ∷ [])
      ∷ line (codes "title") words []
      ∷ line (codes "p") paragraph (codes "ref" ∷ [])
      ∷ line (codes "ref") plain []
      ∷ [];
  attributes = [];
}
