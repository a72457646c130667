-- A small table, which the tests make: the root, a title, paragraphs, sections that the contents name, contents and references.
use Rattle.std.specs.Prelude.{ℕ, true, false, List, [], ◌∷◌, Option, Some, None, codes}
use Rattle.texml_tree.specs.declared.table.ElementLine.{ElementLine}
use Rattle.texml_tree.specs.declared.table.Elements.{Elements}
use Rattle.texml_tree.specs.declared.table.Flags.{Flags}

abbrev pub small_line : List ℕ → List ℕ → Option (List ℕ) → Flags → List (List ℕ) → List (List ℕ) → ElementLine
small_line name tag class flags holds attrs = record { name = name; tag = tag; class = class; flags = flags; holds = holds; attrs = attrs }

abbrev pub parts : List (List ℕ)
parts = codes "title" ∷ codes "p" ∷ codes "section" ∷ codes "toc" ∷ codes "ref" ∷ []

abbrev pub plain_flags : Flags
plain_flags = record { text = true; block = false; opens = false; closes = false; id = false; toc = false; void = false }

abbrev pub section_flags : Flags
section_flags = record { text = true; block = false; opens = false; closes = false; id = true; toc = true; void = false }

abbrev pub small : Elements
small = record {
  lines =
      small_line (codes "document") (codes "main") None plain_flags parts []
      ∷ small_line (codes "title") (codes "h1") None plain_flags [] []
      ∷ small_line (codes "p") (codes "p") (Some (codes "wide")) plain_flags [] (codes "number" ∷ codes "href" ∷ codes "src" ∷ [])
      ∷ small_line (codes "section") (codes "section") None section_flags parts []
      ∷ small_line (codes "toc") (codes "ul") None plain_flags [] []
      ∷ small_line (codes "ref") (codes "a") None plain_flags [] []
      ∷ [];
  attributes = codes "number" ∷ codes "href" ∷ codes "src" ∷ [];
}
