-- What operations do to the path of open elements, the innermost first: a flat list of starts, ends, texts, attributes and
-- labels, or a fault.
use Rattle.std.specs.Prelude.{ℕ, zero, suc, ◌==◌, nat_lt, Bool, true, false, List, [], ◌∷◌, ◌++◌, length, drop, Option, None, Some, unwrap_or, Result, Ok, Err, if◌then◌else◌, codes}
use Rattle.texml_tree.specs.declared.ops.Op.{Op}
use Rattle.texml_tree.specs.declared.ops.Op.TheVariants.{Open, Close, CloseIf, Text, Space, Attr, Label, Ref}
use Rattle.texml_tree.specs.declared.model_fault.ModelFault.{ModelFault}
use Rattle.texml_tree.specs.declared.model_fault.TheConstants.{NO_PLACE, NO_TEXT, NOTHING_TO_CLOSE, UNCLOSED, BAD_ATTRIBUTE, TREE_DEPTH}
use Rattle.texml_tree.specs.Tree.{Set, Mark}
use Rattle.texml_model.specs.Rules.{Rules}

pub data Bracket : Type 0 where
  starts : ℕ → Option (List ℕ) → Bracket  -- an element, and the label that it refers to, if it is a reference
  ends : Bracket
  word : List ℕ → Bracket
  sets : ℕ → Set → Bracket  -- an attribute of the element that is so many levels outwards
  marks : ℕ → Mark → Bracket  -- a label of the element that is so many levels outwards

-- brackets and the path behind them, or a fault
abbrev pub Outcome : Type 0
Outcome = Result (List Bracket × List ℕ) ModelFault

-- what is done at a path
abbrev pub Doing : Type 0
Doing = List ℕ → Outcome

abbrev pub behind : List Bracket → Outcome → Outcome
behind out (Err f) = Err f
behind out (Ok o) = Ok (out ++ o.0, o.1)

abbrev pub next : Outcome → Doing → Outcome
next (Err f) b = Err f
next (Ok o) b = behind o.0 (b o.1)

-- one thing, then another
abbrev pub both : Doing → Doing → Doing
both a b path = next (a path) b

abbrev pub nothing : Doing
nothing path = Ok ([], path)

-- the same for each of a list
abbrev pub each : {A : Type 0} → (A → Doing) → List A → Doing
each f [] = nothing
each f (x ∷ xs) = both (f x) (each f xs)

abbrev pub innermost : List ℕ → ℕ
innermost [] = 0
innermost (p ∷ ps) = p

abbrev pub fault_of : ℕ → List ℕ → List ℕ → ModelFault
fault_of code child parent = record { code = code; child = child; parent = parent }

abbrev pub end_one : Doing
end_one path = Ok (ends ∷ [], drop 1 path)

-- n elements end
abbrev pub end_many : ℕ → Doing
end_many zero = nothing
end_many (suc n) = both end_one (end_many n)

-- an element starts, where the path doesn't get longer than 200
abbrev pub start : Rules → Option (List ℕ) → ℕ → Doing
start r target e path = if nat_lt (length path) 200 then Ok (starts e target ∷ [], e ∷ path) else Err (fault_of TREE_DEPTH (r.name e) (r.name (innermost path)))

abbrev pub start_all : Rules → List ℕ → Doing
start_all r = each (start r None)

abbrev pub say : List ℕ → Doing
say t path = Ok (word t ∷ [], path)

-- The place of a child, which is an element or else a text: the least number of innermost elements, all flagged `close`,
-- under which one holds it, perhaps through a chain of elements that open by themselves, and that chain.

abbrev pub deeper : Option (ℕ × List ℕ) → Option (ℕ × List ℕ)
deeper None = None
deeper (Some f) = Some (suc f.0, f.1)

abbrev pub fit_or : Option (List ℕ) → Bool → Option (ℕ × List ℕ) → Option (ℕ × List ℕ)
fit_or (Some chain) closes under = Some (0, chain)
fit_or None true under = deeper under
fit_or None false under = None

abbrev pub fit : Rules → List ℕ → Option ℕ → Option (ℕ × List ℕ)
fit r [] child = None
fit r (p ∷ ps) child = fit_or (r.chain p child) (r.closes p) (fit r ps child)

abbrev pub no_place : Rules → Option ℕ → ℕ → ModelFault
no_place r None at = fault_of NO_TEXT [] (r.name at)
no_place r (Some e) at = fault_of NO_PLACE (r.name e) (r.name at)

-- makes the place: elements end and those of the chain start
abbrev pub place_by : Rules → Option (ℕ × List ℕ) → Option ℕ → Doing
place_by r None child path = Err (no_place r child (innermost path))
place_by r (Some f) child path = both (end_many f.0) (start_all r f.1) path

abbrev pub place : Rules → Option ℕ → Doing
place r child path = place_by r (fit r path child) child path

-- an element starts at its place
abbrev pub enter : Rules → Option (List ℕ) → ℕ → Doing
enter r target e = both (place r (Some e)) (start r target e)

abbrev pub one_more : Option ℕ → Option ℕ
one_more None = None
one_more (Some n) = Some (suc n)

-- how many elements stand inside the innermost one of this name, where all these are flagged `close`; the root is passed over
abbrev pub depth_under : Rules → ℕ → ℕ → List ℕ → Option ℕ
depth_under r e p [] = None
depth_under r e p (q ∷ qs) = if p == e then Some 0 else if r.closes p then one_more (depth_under r e q qs) else None

abbrev pub depth_of : Rules → ℕ → List ℕ → Option ℕ
depth_of r e [] = None
depth_of r e (p ∷ ps) = depth_under r e p ps

-- that one ends, and those inside it; where there is none, something else is done
abbrev pub close_by : Option ℕ → Doing → Doing
close_by None other = other
close_by (Some n) other = end_many (suc n)

abbrev pub none_to_close : Rules → ℕ → Doing
none_to_close r e path = Err (fault_of NOTHING_TO_CLOSE (r.name e) (r.name (innermost path)))

abbrev pub close : Rules → ℕ → Doing
close r e path = close_by (depth_of r e path) (none_to_close r e) path

abbrev pub close_if : Rules → ℕ → Doing
close_if r e path = close_by (depth_of r e path) nothing path

abbrev pub space : Rules → Doing
space r path = if r.takes_text (innermost path) then say (32 ∷ []) path else nothing path

-- how many elements stand inside the innermost one that may have the attribute
abbrev pub holder_or : Bool → Option ℕ → Option ℕ
holder_or true outwards = Some 0
holder_or false outwards = one_more outwards

abbrev pub holder : Rules → ℕ → List ℕ → Option ℕ
holder r a [] = None
holder r a (p ∷ ps) = holder_or (r.may_attr p a) (holder r a ps)

abbrev pub attr_by : Rules → Option ℕ → ℕ → List ℕ → Doing
attr_by r None a v path = Err (fault_of BAD_ATTRIBUTE (r.attr_name a) (r.name (innermost path)))
attr_by r (Some h) a v path = Ok (sets h (record { number = a; value = v }) ∷ [], path)

abbrev pub attr : Rules → ℕ → List ℕ → Doing
attr r a v path = attr_by r (holder r a path) a v path

-- an attribute of the innermost element itself
abbrev pub own_attr : Rules → ℕ × List ℕ → Doing
own_attr r s path = attr_by r (holder_or (r.may_attr (innermost path) s.0) None) s.0 s.1 path

-- how many elements stand inside the innermost one that gets an id; the root gets one
abbrev pub owner_under : Rules → ℕ → List ℕ → ℕ
owner_under r p [] = 0
owner_under r p (q ∷ qs) = if r.id p then 0 else suc (owner_under r q qs)

abbrev pub owner_of : Rules → List ℕ → ℕ
owner_of r [] = 0
owner_of r (p ∷ ps) = owner_under r p ps

abbrev pub label : Rules → List ℕ → List ℕ → Doing
label r l n path = Ok (marks (owner_of r path) (record { label = l; number = n }) ∷ [], path)

-- a reference is an element `ref`, which a table may lack
abbrev pub refer_by : Rules → Option ℕ → List ℕ → Doing
refer_by r None l path = Err (fault_of NO_PLACE (codes "ref") (r.name (innermost path)))
refer_by r (Some e) l path = both (enter r (Some l) e) end_one path

abbrev pub refer : Rules → List ℕ → Doing
refer r = refer_by r (r.named (codes "ref"))

abbrev pub step : Rules → Op → Doing
step r (Open e given) = both (enter r None e.0) (each (own_attr r) given)
step r (Close e) = close r e.0
step r (CloseIf e) = close_if r e.0
step r (Text t) = both (place r None) (say t)
step r Space = space r
step r (Attr a v) = attr r a v
step r (Label l n) = label r l n
step r (Ref l) = refer r l

abbrev pub steps : Rules → List Op → Doing
steps r = each (step r)

-- at the end all but the root end, each of them flagged `close`
abbrev pub end_under : Rules → ℕ → List ℕ → Outcome
end_under r p [] = Ok ([], p ∷ [])
end_under r p (q ∷ qs) = if r.closes p then behind (ends ∷ []) (end_under r q qs) else Err (fault_of UNCLOSED (r.name p) [])

abbrev pub end_all : Rules → Doing
end_all r [] = Ok ([], [])
end_all r (p ∷ ps) = end_under r p ps

-- the root is the element `document`, which each table has
abbrev pub root_of : Rules → ℕ
root_of r = unwrap_or (r.named (codes "document")) 0

abbrev pub brackets : Rules → List Op → Outcome
brackets r ops = both (steps r ops) (end_all r) (root_of r ∷ [])
