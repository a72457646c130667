-- What the code keeps of ids and links. The rules themselves are specs/Refs.antt.
use Rattle.std.specs.Prelude.{ℕ, List, map, Option}
use Rattle.std.specs.Option.{option_map}
use Rattle.std.specs.List.{range_with_len}
use Rattle.std.specs.Map.{lookup}
use Rattle.texml_token.specs.Token.{text_eq}
use Rattle.texml_tree.specs.declared.table.Elem.{Elem}
use Rattle.texml_xref.specs.declared.owners.Link.{Link as LinkCode}
use Rattle.texml_xref.specs.declared.owners.Owners.{Owners}
use Rattle.texml_xref.specs.Refs.{Link, id_of}

abbrev pub link_of : LinkCode → Link
link_of l = record { owner = l.owner; number = l.number.now }

abbrev pub links_of : List (Option LinkCode) → List (Option Link)
links_of = map (option_map link_of)

abbrev pub place_of : Option Elem → Option ℕ
place_of = option_map (λ e. e.0)

-- the ids of so many elements
abbrev pub ids_upto : ℕ → List (List ℕ)
ids_upto n = map id_of (range_with_len 0 n)

-- the owner that is kept for a label
abbrev pub kept_owner : Owners → List ℕ → Option Link
kept_owner owners label = option_map link_of (lookup (text_eq label) owners.links.entries)
