-- What only the builder's private functions are about: what it holds, and how that follows what is done.
use Rattle.std.specs.Prelude.{◌≡◌, ℕ, zero, suc, List, [], ◌∷◌, ◌++◌, map, reverse, Result, Ok, Err}
use Rattle.std.specs.Option.{option_map}
use Rattle.texml_tree.specs.declared.model_fault.ModelFault.{ModelFault}
use Rattle.texml_tree.specs.Tree.{Set, Mark, Tree}
use Rattle.texml_tree.specs.Plain.{set_of, mark_of, plain}
use Rattle.texml_model.specs.Rules.{Rules}
use Rattle.texml_build.specs.declared.fault.BuildFault.{BuildFault}
use Rattle.texml_build.specs.declared.fault.BuildFault.TheVariants.{Model, NoMemory}
use Rattle.texml_build.specs.declared.builder.Builder.{Builder}
use Rattle.texml_build.specs.declared.builder.Open.{Open}
use Rattle.texml_build.specs.declared.builder.Extra.{Extra}
use Rattle.texml_build.specs.declared.builder.Extra.TheVariants.{Attribute, Label}
use Rattle.texml_build.specs.Trim.{texts}
use Rattle.texml_build.specs.Brackets.{Bracket, Doing}
use Rattle.texml_build.specs.Matched.{Beginning, Level, Levels, empty_level, first, others, at_level, text_before, child_before, whole, root_beginning, all_before}

-- an open element, with what it has so far
pub record Part : Type 0 where
  pub start : Beginning
  pub has : Level

-- the text that is growing, the innermost open element, and those around it
pub record Held : Type 0 where
  pub text : List ℕ
  pub inner : Part
  pub outer : List Part

abbrev pub beginning_of : Open → Beginning
beginning_of o = record { elem = o.elem.0; identified = o.identified; target = option_map (λ t. t.now) o.target }

abbrev pub level_of : Open → Level
level_of o = record { sets = map set_of o.attrs.items; marks = map mark_of o.labels.items; kids = map plain o.kids.items }

abbrev pub part_of : Open → Part
part_of o = record { start = beginning_of o; has = level_of o }

abbrev pub held_of : Builder → Held
held_of b = record { text = b.text.items; inner = part_of b.inner; outer = map part_of (reverse b.outer.items) }

abbrev pub elem_of_part : Part → ℕ
elem_of_part p = p.start.elem

abbrev pub path_of : Held → List ℕ
path_of h = elem_of_part h.inner ∷ map elem_of_part h.outer

abbrev pub empty : Beginning → Part
empty b = record { start = b; has = empty_level }

abbrev pub fresh : Rules → Held
fresh r = record { text = []; inner = empty (root_beginning r); outer = [] }

-- what comes behind the others of its level
abbrev pub kids_after : List Tree → Level → Level
kids_after more l = record { sets = l.sets; marks = l.marks; kids = l.kids ++ more }

abbrev pub set_after : Set → Level → Level
set_after s l = record { sets = l.sets ++ s ∷ []; marks = l.marks; kids = l.kids }

abbrev pub mark_after : Mark → Level → Level
mark_after m l = record { sets = l.sets; marks = l.marks ++ m ∷ []; kids = l.kids }

abbrev pub extra_after : Extra → Level → Level
extra_after (Attribute a) = set_after (set_of a)
extra_after (Label t) = mark_after (mark_of t)

abbrev pub with_has : (Level → Level) → Part → Part
with_has f p = record { start = p.start; has = f p.has }

abbrev pub flushed : Held → Held
flushed h = record { text = []; inner = with_has (kids_after (texts h.text)) h.inner; outer = h.outer }

abbrev pub begun : Beginning → Held → Held
begun b h = record { text = []; inner = empty b; outer = with_has (kids_after (texts h.text)) h.inner ∷ h.outer }

-- the innermost element becomes a child of the one around it
abbrev pub ended_in : Rules → Part → List Part → Held
ended_in r p [] = record { text = []; inner = p; outer = [] }
ended_in r p (q ∷ qs) = record { text = []; inner = with_has (kids_after (whole r p.start p.has ∷ [])) q; outer = qs }

abbrev pub ended : Rules → Held → Held
ended r h = ended_in r (with_has (kids_after (texts h.text)) h.inner) h.outer

abbrev pub said : List ℕ → Held → Held
said t h = record { text = h.text ++ t; inner = h.inner; outer = h.outer }

-- the same at the n-th of a list
abbrev pub at_nth : ℕ → (Part → Part) → List Part → List Part
at_nth n f [] = []
at_nth zero f (p ∷ ps) = f p ∷ ps
at_nth (suc n) f (p ∷ ps) = p ∷ at_nth n f ps

-- the element that is so many levels outwards changes
abbrev pub changed : ℕ → (Level → Level) → Held → Held
changed zero f h = record { text = h.text; inner = with_has f h.inner; outer = h.outer }
changed (suc n) f h = record { text = h.text; inner = h.inner; outer = at_nth n (with_has f) h.outer }

-- what is there of an element, and then what is to come
abbrev pub rest_of : Level → Level → Level
rest_of a b = record { sets = a.sets ++ b.sets; marks = a.marks ++ b.marks; kids = a.kids ++ b.kids }

-- the tree that comes of open elements by what is still to come
abbrev pub closed : Rules → Part → List Part → Levels → Tree
closed r p [] ls = whole r p.start (rest_of p.has (first ls))
closed r p (q ∷ qs) ls = closed r q qs (at_level 0 (child_before (whole r p.start (rest_of p.has (first ls)))) (others ls))

abbrev pub total : Rules → Held → Levels → Tree
total r h ls = closed r h.inner h.outer (at_level 0 (text_before h.text) ls)

-- what is held follows what is done: the path is the one behind it, and whatever is still to come, the tree is the one of
-- the brackets with it
pub record Follows (r : Rules) (doing : Doing) (old new : Held) : Type 0 where
  pub out : List Bracket
  pub gives : doing (path_of old) ≡ Ok (out, path_of new)
  pub stands : (ls : Levels) → total r new ls ≡ total r old (all_before r out ls)

abbrev pub Does : Rules → Doing → Held → Held → Result (Unit {0}) BuildFault → Type 0
Does r doing old new (Ok u) = Follows r doing old new
Does r doing old new (Err (Model f)) = doing (path_of old) ≡ Err f
Does r doing old new (Err NoMemory) = Unit {0}

-- this fault, or want of memory to write it down
abbrev pub Refuses : ModelFault → BuildFault → Type 0
Refuses f (Model g) = g ≡ f
Refuses f NoMemory = Unit {0}
