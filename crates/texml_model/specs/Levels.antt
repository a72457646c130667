-- What the private functions say that find the chains, one level after the other. The rule itself is specs/Chain.antt.
use Rattle.std.specs.Prelude.{ℕ, zero, suc, ◌+◌, Bool, true, false, List, [], ◌∷◌, map, length, get_or, Option, None, Some, unwrap_or}
use Rattle.std.specs.Option.{option_map, option_map_or, option_or}
use Rattle.std.specs.List.{slice_get, range_with_len}
use Rattle.std.specs.declared.vec.Vec.{Vec}
use Rattle.std.specs.declared.alloc.Global.{Global}
use Rattle.texml_tree.specs.declared.table.Elem.{Elem}
use Rattle.texml_tree.specs.declared.table.ElementLine.{ElementLine}
use Rattle.texml_model.specs.Chain.{Holding, by_one}

-- f at each of the first n places
abbrev pub upto : {A : Type 0} → (ℕ → A) → ℕ → List A
upto f n = map f (range_with_len 0 n)

abbrev pub rows_of : {A : Type 0} → List (Vec A Global) → List (List A)
rows_of rows = map (λ row. row.items) rows

abbrev pub places_of : List Elem → List ℕ
places_of elems = map (λ e. e.0) elems

abbrev pub chain_list : Option (Vec Elem Global) → Option (List ℕ)
chain_list = option_map (λ chain. places_of chain.items)

abbrev pub chain_lists : List (Option (Vec Elem Global)) → List (Option (List ℕ))
chain_lists = map chain_list

-- what a list of chains says of each parent
abbrev pub at : List (Option (List ℕ)) → ℕ → Option (List ℕ)
at found p = get_or found p None

abbrev pub flag_at : (ElementLine → Bool) → List ElementLine → ℕ → Bool
flag_at f lines e = option_map_or f (slice_get lines e) false

abbrev pub bit_at : List (Vec Bool Global) → ℕ → ℕ → Bool
bit_at rows p e = option_map_or (λ row. unwrap_or (slice_get row.items e) false) (slice_get rows p) false

-- the flags of lines, and what each holds
abbrev pub holding_with : List ElementLine → List (Vec Bool Global) → Holding
holding_with lines rows = record {
  size = length lines;
  opens = flag_at (λ line. line.flags.opens) lines;
  takes_text = flag_at (λ line. line.flags.text) lines;
  holds = bit_at rows;
}

-- chains of at most one element more
abbrev pub wider : Holding → (ℕ → Option (List ℕ)) → ℕ → Option (List ℕ)
wider h f p = option_or (f p) (by_one h f p)

abbrev pub missing : List (Option (List ℕ)) → ℕ
missing [] = 0
missing (None ∷ found) = suc (missing found)
missing (Some c ∷ found) = missing found
