-- The table of elements, by its rows. An element is its place among the lines, an attribute its place among the attributes.
use Rattle.std.specs.Prelude.{◌≡◌, ℕ, true, List, [], ◌++◌, map, fold, Option, Some, codes}
use Rattle.std.specs.Option.{option_map}
use denote.Ref.{Bor}
use Rattle.texml_tree.specs.declared.table.Flags.{Flags}
use Rattle.texml_tree.specs.declared.table.ElementLine.{ElementLine}
use Rattle.texml_tree.specs.declared.table.Elements.{Elements}
use Rattle.texml_model.specs.Rules.{Rules, rules_of}
use Rattle.texml_top.specs.declared.table.Flag.{Flag}
use Rattle.texml_top.specs.declared.table.Flag.TheVariants.{Text, Block, Opens, Closes, Id, Toc, Void}
use Rattle.texml_top.specs.declared.table.Set.{Set}
use Rattle.texml_top.specs.declared.table.Set.TheVariants.{Nothing, Inline, Blocks}
use Rattle.texml_top.specs.declared.table.TheConstants.{INLINE, BLOCKS, ROWS, ATTRIBUTES, NO_FLAGS, PARAGRAPH, BREAK, CODE}

abbrev pub with_flag : Flags → Flag → Flags
with_flag flags Text = record flags { text = true }
with_flag flags Block = record flags { block = true }
with_flag flags Opens = record flags { opens = true }
with_flag flags Closes = record flags { closes = true }
with_flag flags Id = record flags { id = true }
with_flag flags Toc = record flags { toc = true }
with_flag flags Void = record flags { void = true }

abbrev pub flags_in : List Flag → Flags
flags_in = fold with_flag NO_FLAGS

abbrev pub names_in : Set → List (List ℕ)
names_in Nothing = []
names_in Inline = map (λ t. t.now) INLINE
names_in Blocks = map (λ t. t.now) BLOCKS

-- a name, a tag and a class, flags, what an element holds by name and by a set, attributes
unfoldable pub line_by : List ℕ → List ℕ → Option (List ℕ) → List Flag → List (List ℕ) → Set → List (List ℕ) → ElementLine
line_by name tag class flags names set attrs = record { name = name; tag = tag; class = class; flags = flags_in flags; holds = names ++ names_in set; attrs = attrs }

-- the code's rows lend their parts
abbrev pub Row : Type 0
Row = Bor (List ℕ) × Bor (List ℕ) × Option (Bor (List ℕ)) × Bor (List Flag) × Bor (List (Bor (List ℕ))) × Set × Bor (List (Bor (List ℕ)))

abbrev pub line_of : Row → ElementLine
line_of r = line_by r.0.now r.1.now (option_map (λ c. c.now) r.2) r.3.now (map (λ t. t.now) r.4.now) r.5 (map (λ t. t.now) r.6.now)

unfoldable pub elements : Elements
elements = record {
  lines = map (λ r. line_by r.0.now r.1.now (option_map (λ c. c.now) r.2) r.3.now (map (λ t. t.now) r.4.now) r.5 (map (λ t. t.now) r.6.now)) ROWS;
  attributes = map (λ t. t.now) ATTRIBUTES;
}

-- what the table says
abbrev pub rules : Rules
rules = rules_of elements

-- the elements that digestion opens and closes, by their names
pub record AreNamed : Type 0 where
  pub paragraph : rules.named (codes "p") ≡ Some PARAGRAPH.0
  pub break : rules.named (codes "break") ≡ Some BREAK.0
  pub code : rules.named (codes "code") ≡ Some CODE.0
