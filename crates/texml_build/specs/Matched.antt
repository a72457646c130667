-- The tree of a list of brackets: starts are matched with ends, from the right. What is still to come at a place is a list
-- of levels: what the innermost open element still gets, then what the one around it gets, and so on.
use Rattle.std.specs.Prelude.{ℕ, zero, suc, Bool, true, List, [], ◌∷◌, ◌++◌, Option, None, Result, Ok, Err}
use Rattle.texml_tree.specs.declared.ops.Op.{Op}
use Rattle.texml_tree.specs.declared.model_fault.ModelFault.{ModelFault}
use Rattle.texml_tree.specs.Tree.{Set, Mark, Tree, text, element, trees}
use Rattle.texml_model.specs.Rules.{Rules}
use Rattle.texml_build.specs.Trim.{trimmed, texts}
use Rattle.texml_build.specs.Brackets.{Bracket, starts, ends, word, sets, marks, Outcome, root_of, brackets}

-- an element as it starts: its place in the table, whether it gets an id, and the label that it refers to
pub record Beginning : Type 0 where
  pub elem : ℕ
  pub identified : Bool
  pub target : Option (List ℕ)

abbrev pub beginning : Rules → ℕ → Option (List ℕ) → Beginning
beginning r e target = record { elem = e; identified = r.id e; target = target }

-- the root always gets an id
abbrev pub root_beginning : Rules → Beginning
root_beginning r = record { elem = root_of r; identified = true; target = None }

-- attributes, labels and children
pub record Level : Type 0 where
  pub sets : List Set
  pub marks : List Mark
  pub kids : List Tree

abbrev pub Levels : Type 0
Levels = List Level

abbrev pub empty_level : Level
empty_level = record { sets = []; marks = []; kids = [] }

-- the innermost level and those around it; where none is left, nothing is to come
abbrev pub first : Levels → Level
first [] = empty_level
first (l ∷ ls) = l

abbrev pub others : Levels → Levels
others [] = []
others (l ∷ ls) = ls

-- a text before other children: neighbouring texts are one, and an empty text adds nothing
abbrev pub joined : List ℕ → List Tree → List Tree
joined t [] = texts t
joined t (text u ∷ rest) = text (t ++ u) ∷ rest
joined t (element h kids ∷ rest) = texts t ++ element h kids ∷ rest

-- the element with all that it gets
abbrev pub whole : Rules → Beginning → Level → Tree
whole r b l = element (record { elem = b.elem; identified = b.identified; target = b.target; sets = l.sets; marks = l.marks }) (trees (trimmed (r.block b.elem) l.kids))

-- what comes before the others of its level
abbrev pub child_before : Tree → Level → Level
child_before t l = record { sets = l.sets; marks = l.marks; kids = t ∷ l.kids }

abbrev pub text_before : List ℕ → Level → Level
text_before t l = record { sets = l.sets; marks = l.marks; kids = joined t l.kids }

abbrev pub set_before : Set → Level → Level
set_before s l = record { sets = s ∷ l.sets; marks = l.marks; kids = l.kids }

abbrev pub mark_before : Mark → Level → Level
mark_before m l = record { sets = l.sets; marks = m ∷ l.marks; kids = l.kids }

-- the level that is so many levels outwards changes
abbrev pub at_level : ℕ → (Level → Level) → Levels → Levels
at_level zero f ls = f (first ls) ∷ others ls
at_level (suc h) f ls = first ls ∷ at_level h f (others ls)

abbrev pub before : Rules → Bracket → Levels → Levels
before r (starts e target) ls = at_level 0 (child_before (whole r (beginning r e target) (first ls))) (others ls)
before r ends ls = empty_level ∷ ls
before r (word t) ls = at_level 0 (text_before t) ls
before r (sets h s) ls = at_level h (set_before s) ls
before r (marks h m) ls = at_level h (mark_before m) ls

abbrev pub all_before : Rules → List Bracket → Levels → Levels
all_before r [] ls = ls
all_before r (b ∷ bs) ls = before r b (all_before r bs ls)

abbrev pub tree_of_brackets : Rules → List Bracket → Tree
tree_of_brackets r bs = whole r (root_beginning r) (first (all_before r bs []))

abbrev pub built_by : Rules → Outcome → Result Tree ModelFault
built_by r (Err f) = Err f
built_by r (Ok o) = Ok (tree_of_brackets r o.0)

-- the tree of a list of operations, or the first thing that is wrong with them
abbrev pub built : Rules → List Op → Result Tree ModelFault
built r ops = built_by r (brackets r ops)
