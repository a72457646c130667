-- The definitions on small lists of operations.
use Rattle.std.proofs.Common.{◌≡◌, refl, ℕ, Bool, true, false, List, [], ◌∷◌, None, Some, Ok, Err}
use Rattle.std.specs.Prelude.{codes}
use Rattle.texml_tree.specs.declared.table.Elem.{Elem}
use Rattle.texml_tree.specs.declared.ops.Op.TheVariants.{Open, Close, Text, Attr, Label, Ref}
use Rattle.texml_tree.specs.declared.model_fault.TheConstants.{NO_PLACE, NOTHING_TO_CLOSE, UNCLOSED, BAD_ATTRIBUTE}
use Rattle.texml_tree.specs.Tree.{Tree, text, element, trees}
use Rattle.texml_model.specs.Chain.{chain_between}
use Rattle.texml_model.specs.Rules.{rules_of}
use Rattle.texml_build.specs.Brackets.{fault_of}
use Rattle.texml_build.specs.Matched.{built}
use Rattle.texml_build.specs.Small.{small}

abbrev at : ℕ → Elem
at e = record { 0 = e }

-- an element with neither attributes nor labels
abbrev bare : ℕ → Bool → List Tree → Tree
bare e identified kids = element (record { elem = e; identified = identified; target = None; sets = []; marks = [] }) (trees kids)

a_cell_opens_by_a_chain : built (rules_of small) (Open (at 6) [] ∷ Text (codes " x ") ∷ Close (at 6) ∷ [])
    ≡ Ok (bare 0 true (bare 6 false (bare 7 false (bare 8 false (text (codes "x") ∷ []) ∷ []) ∷ []) ∷ []))
unfolding rules_of chain_between
a_cell_opens_by_a_chain = refl

no_place : built (rules_of small) (Open (at 4) [] ∷ []) ≡ Err (fault_of NO_PLACE (codes "item") (codes "document"))
unfolding rules_of chain_between
no_place = refl

nothing_to_close : built (rules_of small) (Close (at 1) ∷ []) ≡ Err (fault_of NOTHING_TO_CLOSE (codes "p") (codes "document"))
unfolding rules_of chain_between
nothing_to_close = refl

left_open : built (rules_of small) (Open (at 3) [] ∷ []) ≡ Err (fault_of UNCLOSED (codes "list") [])
unfolding rules_of chain_between
left_open = refl

no_holder : built (rules_of small) (Attr 1 (codes "x") ∷ []) ≡ Err (fault_of BAD_ATTRIBUTE (codes "span") (codes "document"))
unfolding rules_of chain_between
no_holder = refl

label_on_the_root : built (rules_of small) (Text (codes "x") ∷ Label (codes "a") (codes "1") ∷ [])
    ≡ Ok (element (record { elem = 0; identified = true; target = None; sets = []; marks = record { label = codes "a"; number = codes "1" } ∷ [] }) (trees (bare 1 false (text (codes "x") ∷ []) ∷ [])))
unfolding rules_of chain_between
label_on_the_root = refl

a_reference : built (rules_of small) (Ref (codes "a") ∷ [])
    ≡ Ok (bare 0 true (bare 1 false (element (record { elem = 9; identified = false; target = Some (codes "a"); sets = []; marks = [] }) (trees []) ∷ []) ∷ []))
unfolding rules_of chain_between
a_reference = refl
