-- What is held follows each bracket, and what is done one after the other.
use Rattle.std.proofs.Common.{arith, ◌≡◌, ◌∙◌, ap, sym, refl, ℕ, zero, suc, ◌+◌, ◌-◌, ◌<◌, ◌≤◌, true, false, List, [], ◌∷◌, ◌++◌, map, length, drop, get_or, Option, Some, None, Result, Ok, Err, nat_lt, subst}
use Rattle.std.specs.Prelude.{codes}
use Rattle.std.proofs.lemmas.Bool.Decides.{nat_tests}
use Rattle.std.proofs.lemmas.List.{append_assoc, append-nil, length-map, drop_more, drop_all}
use Rattle.texml_tree.specs.declared.table.Elem.{Elem}
use Rattle.texml_tree.specs.declared.ops.Op.{Op}
use Rattle.texml_tree.specs.declared.model_fault.ModelFault.{ModelFault}
use Rattle.texml_tree.specs.declared.model_fault.TheConstants.{NO_PLACE, NOTHING_TO_CLOSE, UNCLOSED, BAD_ATTRIBUTE, TREE_DEPTH}
use Rattle.texml_tree.specs.Tree.{Set, Mark, Tree, text, element}
use Rattle.texml_model.specs.Levels.{places_of}
use Rattle.texml_model.specs.Rules.{Rules}
use Rattle.texml_build.specs.declared.fault.BuildFault.{BuildFault}
use Rattle.texml_build.specs.declared.fault.BuildFault.TheVariants.{Model, NoMemory}
use Rattle.texml_build.specs.Answer.{Builds}
use Rattle.texml_build.specs.Trim.{texts}
use Rattle.texml_build.specs.Brackets.{Bracket, starts, ends, word, sets, marks, Doing, behind, next, both, nothing, each, innermost, fault_of, end_one, end_many, start, start_all, say, fit, place, place_by, no_place, enter, close, close_if, close_by, none_to_close, depth_of, space, attr, attr_by, own_attr, holder, holder_or, owner_of, label, refer, refer_by, step, steps, end_all}
use Rattle.texml_build.specs.Matched.{Beginning, beginning, root_beginning, Level, Levels, empty_level, first, others, joined, whole, child_before, text_before, set_before, mark_before, at_level, before, all_before, tree_of_brackets, built, built_by}
use Rattle.texml_build.specs.Held.{Part, Held, fresh, elem_of_part, path_of, kids_after, set_after, mark_after, with_has, at_nth, changed, rest_of, begun, ended_in, ended, said, closed, total, Follows, Does, Refuses}

-- texts

joined-nil : (l : List Tree) → joined [] l ≡ l
joined-nil [] = refl
joined-nil (text u ∷ rest) = refl
joined-nil (element h kids ∷ rest) = refl

joined-cons : (s : List ℕ) (c : ℕ) (t : List ℕ) (l : List Tree) → joined (s ++ c ∷ t) l ≡ joined s (joined (c ∷ t) l)
joined-cons [] c t [] = refl
joined-cons [] c t (text u ∷ rest) = refl
joined-cons [] c t (element h kids ∷ rest) = refl
joined-cons (b ∷ s) c t [] = refl
joined-cons (b ∷ s) c t (text u ∷ rest) = ap (λ x. text x ∷ rest) (append_assoc (b ∷ s) (c ∷ t) u)
joined-cons (b ∷ s) c t (element h kids ∷ rest) = refl

joined-append : (s t : List ℕ) (l : List Tree) → joined (s ++ t) l ≡ joined s (joined t l)
joined-append s [] l = ap (λ x. joined x l) (append-nil s) ∙ ap (joined s) (sym (joined-nil l))
joined-append s (c ∷ t) l = joined-cons s c t l

-- levels

no_text_before : (l : Level) → text_before [] l ≡ l
no_text_before l = ap (λ x. record { sets = l.sets; marks = l.marks; kids = x }) (joined-nil l.kids)

-- what comes behind what is there comes before what is to come
record Moves (f g : Level → Level) : Type 0 where
  same : (a b : Level) → rest_of (f a) b ≡ rest_of a (g b)
  child : (t : Tree) (l : Level) → g (child_before t l) ≡ child_before t (g l)
  text : (t : List ℕ) (l : Level) → g (text_before t l) ≡ text_before t (g l)

set_moves : (s : Set) → Moves (set_after s) (set_before s)
set_moves s = record {
  same = λ a b. ap (λ x. record { sets = x; marks = a.marks ++ b.marks; kids = a.kids ++ b.kids }) (append_assoc a.sets (s ∷ []) b.sets);
  child = λ t l. refl;
  text = λ t l. refl;
}

mark_moves : (m : Mark) → Moves (mark_after m) (mark_before m)
mark_moves m = record {
  same = λ a b. ap (λ x. record { sets = a.sets ++ b.sets; marks = x; kids = a.kids ++ b.kids }) (append_assoc a.marks (m ∷ []) b.marks);
  child = λ t l. refl;
  text = λ t l. refl;
}

kids_before : List Tree → Level → Level
kids_before more l = record { sets = l.sets; marks = l.marks; kids = more ++ l.kids }

kids_same : (more : List Tree) (a b : Level) → rest_of (kids_after more a) b ≡ rest_of a (kids_before more b)
unfolding kids_before
kids_same more a b = ap (λ x. record { sets = a.sets ++ b.sets; marks = a.marks ++ b.marks; kids = x }) (append_assoc a.kids more b.kids)

closed_level : (r : Rules) (f g : Level → Level) → ((a b : Level) → rest_of (f a) b ≡ rest_of a (g b))
    → (p : Part) (ps : List Part) (l : Level) (ls : Levels) → closed r (with_has f p) ps (l ∷ ls) ≡ closed r p ps (g l ∷ ls)
closed_level r f g same p [] l ls = ap (whole r p.start) (same p.has l)
closed_level r f g same p (q ∷ qs) l ls = ap (λ x. closed r q qs (at_level 0 (child_before (whole r p.start x)) ls)) (same p.has l)

-- brackets

begun_stands : (r : Rules) (b : Beginning) (h : Held) (ls : Levels)
    → total r (begun b h) ls ≡ total r h (at_level 0 (child_before (whole r b (first ls))) (others ls))
unfolding kids_before
begun_stands r b h ls =
    ap (λ x. closed r (with_has (kids_after (texts h.text)) h.inner) h.outer (at_level 0 (child_before (whole r b x)) (others ls))) (no_text_before (first ls))
    ∙ closed_level r (kids_after (texts h.text)) (kids_before (texts h.text)) (kids_same (texts h.text)) h.inner h.outer (child_before (whole r b (first ls)) (first (others ls))) (others (others ls))

ended_level : (r : Rules) (p : Part) (q : Part) (qs : List Part) (ls : Levels)
    → total r (ended_in r p (q ∷ qs)) ls ≡ closed r q qs (at_level 0 (child_before (whole r p.start p.has)) ls)
unfolding kids_before
ended_level r p q qs ls =
    closed_level r (kids_after (whole r p.start p.has ∷ [])) (kids_before (whole r p.start p.has ∷ [])) (kids_same (whole r p.start p.has ∷ [])) q qs (text_before [] (first ls)) (others ls)
    ∙ ap (λ (l : Level). closed r q qs (child_before (whole r p.start p.has) l ∷ others ls)) (no_text_before (first ls))

-- where nothing is to come, the growing text is the last child
last_text : (t : List ℕ) (l : Level) → kids_after (texts t) l ≡ rest_of l (text_before t empty_level)
last_text t l = λ i. record { sets = sym (append-nil l.sets) i; marks = sym (append-nil l.marks) i; kids = l.kids ++ texts t }

ended_stands : (r : Rules) (t : List ℕ) (p q : Part) (qs : List Part) (ls : Levels)
    → total r (ended r (record { text = t; inner = p; outer = q ∷ qs })) ls ≡ total r (record { text = t; inner = p; outer = q ∷ qs }) (before r ends ls)
ended_stands r t p q qs ls = ended_level r (with_has (kids_after (texts t)) p) q qs ls
    ∙ ap (λ (l : Level). closed r q qs (at_level 0 (child_before (whole r p.start l)) ls)) (last_text t p.has)

said_stands : (r : Rules) (t : List ℕ) (h : Held) (ls : Levels) → total r (said t h) ls ≡ total r h (before r (word t) ls)
said_stands r t h ls = ap (λ x. closed r h.inner h.outer (record { sets = (first ls).sets; marks = (first ls).marks; kids = x } ∷ others ls)) (joined-append h.text t (first ls).kids)

changed_nth : (r : Rules) (f g : Level → Level) → Moves f g → (k : ℕ) (p : Part) (ps : List Part) (l : Level) (ls : Levels) → k < length ps
    → closed r p (at_nth k (with_has f) ps) (l ∷ ls) ≡ closed r p ps (l ∷ at_level k g ls)
changed_nth r f g m k p [] l ls h = absurd (omega arith)
changed_nth r f g m zero p (q ∷ qs) l ls h =
    closed_level r f g m.same q qs (child_before (whole r p.start (rest_of p.has l)) (first ls)) (others ls)
    ∙ ap (λ (x : Level). closed r q qs (x ∷ others ls)) (m.child (whole r p.start (rest_of p.has l)) (first ls))
changed_nth r f g m (suc k) p (q ∷ qs) l ls h =
    changed_nth r f g m k q qs (child_before (whole r p.start (rest_of p.has l)) (first ls)) (others ls) (omega arith)

changed_stands : (r : Rules) (f g : Level → Level) → Moves f g → (n : ℕ) (h : Held) (ls : Levels) → n ≤ length h.outer → total r (changed n f h) ls ≡ total r h (at_level n g ls)
changed_stands r f g m zero h ls k =
    closed_level r f g m.same h.inner h.outer (text_before h.text (first ls)) (others ls)
    ∙ ap (λ (x : Level). closed r h.inner h.outer (x ∷ others ls)) (m.text h.text (first ls))
changed_stands r f g m (suc n) h ls k = changed_nth r f g m n h.inner h.outer (text_before h.text (first ls)) (others ls) (omega arith)

same_elems : (k : ℕ) (f : Level → Level) (ps : List Part) → map elem_of_part (at_nth k (with_has f) ps) ≡ map elem_of_part ps
same_elems k f [] = refl
same_elems zero f (p ∷ ps) = refl
same_elems (suc k) f (p ∷ ps) = ap (λ l. p.start.elem ∷ l) (same_elems k f ps)

same_path : (n : ℕ) (f : Level → Level) (h : Held) → path_of h ≡ path_of (changed n f h)
same_path zero f h = refl
same_path (suc n) f h = ap (λ l. h.inner.start.elem ∷ l) (sym (same_elems n f h.outer))

-- what each single call does

attr_put_at : (r : Rules) (n a : ℕ) (v : List ℕ) (h new : Held) → n ≤ length h.outer → new ≡ changed n (set_after (record { number = a; value = v })) h → Follows r (attr_by r (Some n) a v) h new
attr_put_at r n a v h new k q = subst (λ x. Follows r (attr_by r (Some n) a v) h x) (sym q) (record {
  out = sets n (record { number = a; value = v }) ∷ [];
  gives = ap (λ l. Ok (sets n (record { number = a; value = v }) ∷ [], l)) (same_path n (set_after (record { number = a; value = v })) h);
  stands = λ ls. changed_stands r (set_after (record { number = a; value = v })) (set_before (record { number = a; value = v })) (set_moves (record { number = a; value = v })) n h ls k;
})

pub attr_put : (r : Rules) (o : Option ℕ) (n a : ℕ) (v : List ℕ) (h new : Held) → o ≡ Some n → n ≤ length h.outer → new ≡ changed n (set_after (record { number = a; value = v })) h → Follows r (attr_by r o a v) h new
attr_put r o n a v h new e k q = subst (λ x. Follows r (attr_by r x a v) h new) (sym e) (attr_put_at r n a v h new k q)

pub label_put : (r : Rules) (n : ℕ) (l number : List ℕ) (h new : Held) → n ≡ owner_of r (path_of h) → n ≤ length h.outer → new ≡ changed n (mark_after (record { label = l; number = number })) h → Follows r (label r l number) h new
label_put r n l number h new o k q = subst (λ x. Follows r (label r l number) h x) (sym q) (record {
  out = marks n (record { label = l; number = number }) ∷ [];
  gives = ap (λ (m : ℕ). Ok (marks m (record { label = l; number = number }) ∷ [], path_of h)) (sym o)
      ∙ ap (λ p. Ok (marks n (record { label = l; number = number }) ∷ [], p)) (same_path n (mark_after (record { label = l; number = number })) h);
  stands = λ ls. changed_stands r (mark_after (record { label = l; number = number })) (mark_before (record { label = l; number = number })) (mark_moves (record { label = l; number = number })) n h ls k;
})

pub begun_follows : (r : Rules) (target : Option (List ℕ)) (e : ℕ) (h new : Held) → length h.outer < 199 → new ≡ begun (beginning r e target) h → Follows r (start r target e) h new
begun_follows r target e h new s q =
    let n : nat_lt (length (path_of h)) 200 ≡ true = simp length-map (grind (arith, nat_tests)) in
    subst (λ x. Follows r (start r target e) h x) (sym q) (record { out = starts e target ∷ []; gives = rw n refl; stands = begun_stands r (beginning r e target) h })

ended_follows_in : (r : Rules) (t : List ℕ) (p : Part) (ps : List Part) → 0 < length ps → Follows r end_one (record { text = t; inner = p; outer = ps }) (ended r (record { text = t; inner = p; outer = ps }))
ended_follows_in r t p [] s = absurd (omega arith)
ended_follows_in r t p (q ∷ qs) s = record { out = ends ∷ []; gives = refl; stands = ended_stands r t p q qs }

pub ended_follows : (r : Rules) (h new : Held) → 0 < length h.outer → new ≡ ended r h → Follows r end_one h new
ended_follows r h new s q = subst (λ x. Follows r end_one h x) (sym q) (ended_follows_in r h.text h.inner h.outer s)

pub said_follows : (r : Rules) (t : List ℕ) (h new : Held) → new ≡ said t h → Follows r (say t) h new
said_follows r t h new q = subst (λ x. Follows r (say t) h x) (sym q) (record { out = word t ∷ []; gives = refl; stands = said_stands r t h })

-- one thing after the other

before-append : (r : Rules) (a b : List Bracket) (ls : Levels) → all_before r (a ++ b) ls ≡ all_before r a (all_before r b ls)
before-append r [] b ls = refl
before-append r (x ∷ a) b ls = ap (before r x) (before-append r a b ls)

pub follows_nothing : (r : Rules) (h : Held) → Follows r nothing h h
follows_nothing r h = record { out = []; gives = refl; stands = λ ls. refl }

pub follows_both : (r : Rules) (a b : Doing) (s t u : Held) → Follows r a s t → Follows r b t u → Follows r (both a b) s u
follows_both r a b s t u f g = record {
  out = f.out ++ g.out;
  gives = ap (λ o. next o b) f.gives ∙ ap (behind f.out) g.gives;
  stands = λ ls. g.stands ls ∙ f.stands (all_before r g.out ls) ∙ ap (total r s) (sym (before-append r f.out g.out ls));
}

pub does_next : (r : Rules) (a b : Doing) (s t u : Held) (result : Result (Unit {0}) BuildFault) → Follows r a s t → Does r b t u result → Does r (both a b) s u result
does_next r a b s t u (Ok x) f d = follows_both r a b s t u f d
does_next r a b s t u (Err (Model e)) f d = ap (λ o. next o b) f.gives ∙ ap (behind f.out) d
does_next r a b s t u (Err NoMemory) f d = tt

-- what fails first fails
pub does_fail : (r : Rules) (a b : Doing) (s t u : Held) (e : BuildFault) → Does r a s t (Err e) → Does r (both a b) s u (Err e)
does_fail r a b s t u (Model e) d = ap (λ o. next o b) d
does_fail r a b s t u NoMemory d = tt

-- what is left of a loop leads to the whole
abbrev pub Leads : Rules → Doing → Held → Doing → Held → Type 0
Leads r rest s whole start = (new : Held) (result : Result (Unit {0}) BuildFault) → Does r rest s new result → Does r whole start new result

pub leads_all : (r : Rules) (whole : Doing) (s : Held) → Leads r whole s whole s
leads_all r whole s new result d = d

leads_next : (r : Rules) (a b : Doing) (s t : Held) (whole : Doing) (start : Held) → Leads r (both a b) s whole start → Follows r a s t → Leads r b t whole start
leads_next r a b s t whole start k f new result d = k new result (does_next r a b s t new result f d)

leads_fail : (r : Rules) (a b : Doing) (s t : Held) (whole : Doing) (start u : Held) (e : BuildFault) → Leads r (both a b) s whole start → Does r a s t (Err e) → Does r whole start u (Err e)
leads_fail r a b s t whole start u e k d = k u (Err e) (does_fail r a b s t u e d)

leads_end : (r : Rules) (s : Held) (whole : Doing) (start : Held) → Leads r nothing s whole start → Follows r whole start s
leads_end r s whole start k = k s (Ok tt) (follows_nothing r s)

pub each_next : {A : Type 0} (r : Rules) (f : A → Doing) (xs : List A) (i : ℕ) (d : A) (s t : Held) (whole : Doing) (start : Held) → i < length xs
    → Leads r (each f (drop i xs)) s whole start → Follows r (f (get_or xs i d)) s t → Leads r (each f (drop (i + 1) xs)) t whole start
each_next r f xs i d s t whole start h k g = leads_next r (f (get_or xs i d)) (each f (drop (i + 1) xs)) s t whole start (subst (λ l. Leads r (each f l) s whole start) (drop_more xs i d h) k) g

pub each_fails : {A : Type 0} (r : Rules) (f : A → Doing) (xs : List A) (i : ℕ) (d : A) (s t u : Held) (whole : Doing) (start : Held) (e : BuildFault) → i < length xs
    → Leads r (each f (drop i xs)) s whole start → Does r (f (get_or xs i d)) s t (Err e) → Does r whole start u (Err e)
each_fails r f xs i d s t u whole start e h k g = leads_fail r (f (get_or xs i d)) (each f (drop (i + 1) xs)) s t whole start u e (subst (λ l. Leads r (each f l) s whole start) (drop_more xs i d h) k) g

-- the same where an element is named by a value of its own
pub item_next : {A : Type 0} (r : Rules) (f : A → Doing) (xs : List A) (i : ℕ) (x : A) (s t : Held) (whole : Doing) (start : Held) → i < length xs → x ≡ get_or xs i x
    → Leads r (each f (drop i xs)) s whole start → Follows r (f x) s t → Leads r (each f (drop (i + 1) xs)) t whole start
item_next r f xs i x s t whole start h e k g = each_next r f xs i x s t whole start h k (subst (λ y. Follows r (f y) s t) e g)

pub item_fails : {A : Type 0} (r : Rules) (f : A → Doing) (xs : List A) (i : ℕ) (x : A) (s t u : Held) (whole : Doing) (start : Held) (b : BuildFault) → i < length xs → x ≡ get_or xs i x
    → Leads r (each f (drop i xs)) s whole start → Does r (f x) s t (Err b) → Does r whole start u (Err b)
item_fails r f xs i x s t u whole start b h e k g = each_fails r f xs i x s t u whole start b h k (subst (λ y. Does r (f y) s t (Err b)) e g)

pub each_done : {A : Type 0} (r : Rules) (f : A → Doing) (xs : List A) (i : ℕ) (s : Held) (whole : Doing) (start : Held) → length xs ≤ i
    → Leads r (each f (drop i xs)) s whole start → Follows r whole start s
each_done r f xs i s whole start h k = leads_end r s whole start (subst (λ l. Leads r (each f l) s whole start) (drop_all i xs h) k)

-- n ends, k of them done
pub ends_next : (r : Rules) (n k : ℕ) (s t : Held) (whole : Doing) (start : Held) → k < n → Leads r (end_many (n - k)) s whole start → Follows r end_one s t → Leads r (end_many (n - (k + 1))) t whole start
ends_next r n k s t whole start h l f =
    let e : n - k ≡ suc (n - (k + 1)) = omega arith in
    leads_next r end_one (end_many (n - (k + 1))) s t whole start (subst (λ (m : ℕ). Leads r (end_many m) s whole start) e l) f

pub ends_done : (r : Rules) (n k : ℕ) (s : Held) (whole : Doing) (start : Held) → n ≤ k → Leads r (end_many (n - k)) s whole start → Follows r whole start s
ends_done r n k s whole start h l =
    let e : n - k ≡ 0 = omega arith in
    leads_end r s whole start (subst (λ (m : ℕ). Leads r (end_many m) s whole start) e l)

pub ends_fail : (r : Rules) (n k : ℕ) (s t u : Held) (whole : Doing) (start : Held) (e : BuildFault) → k < n → Leads r (end_many (n - k)) s whole start → Does r end_one s t (Err e) → Does r whole start u (Err e)
ends_fail r n k s t u whole start e h l d =
    let q : n - k ≡ suc (n - (k + 1)) = omega arith in
    leads_fail r end_one (end_many (n - (k + 1))) s t whole start u e (subst (λ (m : ℕ). Leads r (end_many m) s whole start) q l) d

-- what does the same at the path
pub does_as : (r : Rules) (a b : Doing) (s u : Held) (result : Result (Unit {0}) BuildFault) → a (path_of s) ≡ b (path_of s) → Does r a s u result → Does r b s u result
does_as r a b s u (Ok x) e d = record { out = d.out; gives = sym e ∙ d.gives; stands = d.stands }
does_as r a b s u (Err (Model f)) e d = sym e ∙ d
does_as r a b s u (Err NoMemory) e d = tt

-- a fault that the definition gives is refused
pub refused : (r : Rules) (doing : Doing) (s u : Held) (f : ModelFault) (b : BuildFault) → Refuses f b → doing (path_of s) ≡ Err f → Does r doing s u (Err b)
refused r doing s u f (Model g) q e = e ∙ ap (λ x. Err x) (sym q)
refused r doing s u f NoMemory q e = tt

pub too_deep : (r : Rules) (target : Option (List ℕ)) (e : ℕ) (h u : Held) (b : BuildFault) → 199 ≤ length h.outer → Refuses (fault_of TREE_DEPTH (r.name e) (r.name (innermost (path_of h)))) b → Does r (start r target e) h u (Err b)
too_deep r target e h u b s q =
    let n : nat_lt (length (path_of h)) 200 ≡ false = simp length-map (grind (arith, nat_tests)) in
    refused r (start r target e) h u (fault_of TREE_DEPTH (r.name e) (r.name (innermost (path_of h)))) b q (rw n refl)

pub place_some : (r : Rules) (child : Option ℕ) (n : ℕ) (list : List ℕ) (s u : Held) (result : Result (Unit {0}) BuildFault) → Some (n, list) ≡ fit r (path_of s) child
    → Does r (both (end_many n) (start_all r list)) s u result → Does r (place r child) s u result
place_some r child n list s u result e d = does_as r (both (end_many n) (start_all r list)) (place r child) s u result (ap (λ f. place_by r f child (path_of s)) e) d

pub place_none : (r : Rules) (child : Option ℕ) (s u : Held) (b : BuildFault) → None ≡ fit r (path_of s) child → Refuses (no_place r child (innermost (path_of s))) b → Does r (place r child) s u (Err b)
place_none r child s u b e q = refused r (place r child) s u (no_place r child (innermost (path_of s))) b q (sym (ap (λ f. place_by r f child (path_of s)) e))

pub close_some : (r : Rules) (e n : ℕ) (s u : Held) (result : Result (Unit {0}) BuildFault) → Some n ≡ depth_of r e (path_of s) → Does r (end_many (n + 1)) s u result → Does r (close r e) s u result
close_some r e n s u result q d =
    let one : n + 1 ≡ suc n = omega arith in
    does_as r (end_many (n + 1)) (close r e) s u result (ap (λ (k : ℕ). end_many k (path_of s)) one ∙ ap (λ o. close_by o (none_to_close r e) (path_of s)) q) d

pub close_none : (r : Rules) (e : ℕ) (s u : Held) (b : BuildFault) → None ≡ depth_of r e (path_of s) → Refuses (fault_of NOTHING_TO_CLOSE (r.name e) (r.name (innermost (path_of s)))) b → Does r (close r e) s u (Err b)
close_none r e s u b e' q = refused r (close r e) s u (fault_of NOTHING_TO_CLOSE (r.name e) (r.name (innermost (path_of s)))) b q (sym (ap (λ o. close_by o (none_to_close r e) (path_of s)) e'))

pub close_if_some : (r : Rules) (e n : ℕ) (s u : Held) (result : Result (Unit {0}) BuildFault) → Some n ≡ depth_of r e (path_of s) → Does r (end_many (n + 1)) s u result → Does r (close_if r e) s u result
close_if_some r e n s u result q d =
    let one : n + 1 ≡ suc n = omega arith in
    does_as r (end_many (n + 1)) (close_if r e) s u result (ap (λ (k : ℕ). end_many k (path_of s)) one ∙ ap (λ o. close_by o nothing (path_of s)) q) d

pub close_if_none : (r : Rules) (e : ℕ) (s : Held) → None ≡ depth_of r e (path_of s) → Follows r (close_if r e) s s
close_if_none r e s q = does_as r nothing (close_if r e) s s (Ok tt) (ap (λ o. close_by o nothing (path_of s)) q) (follows_nothing r s)

pub space_said : (r : Rules) (s u : Held) (result : Result (Unit {0}) BuildFault) → r.takes_text s.inner.start.elem ≡ true → Does r (say (32 ∷ [])) s u result → Does r (space r) s u result
space_said r s u result e d = does_as r (say (32 ∷ [])) (space r) s u result (rw e refl) d

pub space_gone : (r : Rules) (s : Held) → r.takes_text s.inner.start.elem ≡ false → Follows r (space r) s s
space_gone r s e = does_as r nothing (space r) s s (Ok tt) (rw e refl) (follows_nothing r s)

pub attr_does : (r : Rules) (a : ℕ) (v : List ℕ) (o : Option ℕ) (s u : Held) (result : Result (Unit {0}) BuildFault) → o ≡ holder r a (path_of s) → Does r (attr_by r o a v) s u result → Does r (attr r a v) s u result
attr_does r a v o s u result e d = does_as r (attr_by r o a v) (attr r a v) s u result (ap (λ x. attr_by r x a v (path_of s)) e) d

pub own_attr_does : (r : Rules) (given : ℕ × List ℕ) (v : List ℕ) (o : Option ℕ) (s u : Held) (result : Result (Unit {0}) BuildFault) → o ≡ holder_or (r.may_attr (innermost (path_of s)) given.0) None → v ≡ given.1 → Does r (attr_by r o given.0 v) s u result → Does r (own_attr r given) s u result
own_attr_does r given v o s u result e q d = does_as r (attr_by r o given.0 v) (own_attr r given) s u result (λ i. attr_by r (e i) given.0 (q i) (path_of s)) d

pub attr_none : (r : Rules) (a : ℕ) (v : List ℕ) (o : Option ℕ) (s u : Held) (b : BuildFault) → o ≡ None → Refuses (fault_of BAD_ATTRIBUTE (r.attr_name a) (r.name (innermost (path_of s)))) b → Does r (attr_by r o a v) s u (Err b)
attr_none r a v o s u b e q = refused r (attr_by r o a v) s u (fault_of BAD_ATTRIBUTE (r.attr_name a) (r.name (innermost (path_of s)))) b q (ap (λ x. attr_by r x a v (path_of s)) e)

pub refer_some : (r : Rules) (l : List ℕ) (e : ℕ) (s u : Held) (result : Result (Unit {0}) BuildFault) → Some e ≡ r.named (codes "ref") → Does r (both (enter r (Some l) e) end_one) s u result → Does r (refer r l) s u result
refer_some r l e s u result q d = does_as r (both (enter r (Some l) e) end_one) (refer r l) s u result (ap (λ o. refer_by r o l (path_of s)) q) d

pub refer_none : (r : Rules) (l : List ℕ) (s u : Held) (b : BuildFault) → None ≡ r.named (codes "ref") → Refuses (fault_of NO_PLACE (codes "ref") (r.name (innermost (path_of s)))) b → Does r (refer r l) s u (Err b)
refer_none r l s u b e q = refused r (refer r l) s u (fault_of NO_PLACE (codes "ref") (r.name (innermost (path_of s)))) b q (sym (ap (λ o. refer_by r o l (path_of s)) e))

-- the start of each element of a chain

abbrev pub start_elem : Rules → Elem → Doing
start_elem r e = start r None e.0

each_elem : (r : Rules) (chain : List Elem) → start_all r (places_of chain) ≡ each (start_elem r) chain
each_elem r [] = refl
each_elem r (e ∷ chain) = ap (both (start r None e.0)) (each_elem r chain)

leads_as : (r : Rules) (a b : Doing) (s : Held) (whole : Doing) (start : Held) → a (path_of s) ≡ b (path_of s) → Leads r a s whole start → Leads r b s whole start
leads_as r a b s whole start e k new result d = k new result (does_as r b a s new result (sym e) d)

pub chain_begins : (r : Rules) (chain : List Elem) (s : Held) → Leads r (each (start_elem r) chain) s (start_all r (places_of chain)) s
chain_begins r chain s = leads_as r (start_all r (places_of chain)) (each (start_elem r) chain) s (start_all r (places_of chain)) s (λ i. each_elem r chain i (path_of s)) (leads_all r (start_all r (places_of chain)) s)

-- the end

end_more : (r : Rules) (p : ℕ) (ps : List ℕ) → 0 < length ps → r.closes p ≡ true → end_all r (p ∷ ps) ≡ both end_one (end_all r) (p ∷ ps)
end_more r p [] h c = absurd (omega arith)
end_more r p (q ∷ qs) h c = rw c refl

end_left : (r : Rules) (p : ℕ) (ps : List ℕ) → 0 < length ps → r.closes p ≡ false → end_all r (p ∷ ps) ≡ Err (fault_of UNCLOSED (r.name p) [])
end_left r p [] h c = absurd (omega arith)
end_left r p (q ∷ qs) h c = rw c refl

end_root : (r : Rules) (p : ℕ) (ps : List ℕ) → length ps ≡ 0 → end_all r (p ∷ ps) ≡ nothing (p ∷ ps)
end_root r p [] h = refl
end_root r p (q ∷ qs) h = absurd (omega arith)

pub end_next : (r : Rules) (s t : Held) (whole : Doing) (start : Held) → 0 < length s.outer → r.closes s.inner.start.elem ≡ true → Leads r (end_all r) s whole start → Follows r end_one s t → Leads r (end_all r) t whole start
end_next r s t whole start h c k f = leads_next r end_one (end_all r) s t whole start (leads_as r (end_all r) (both end_one (end_all r)) s whole start (end_more r s.inner.start.elem (map elem_of_part s.outer) (simp length-map h) c) k) f

pub end_fails : (r : Rules) (s t u : Held) (whole : Doing) (start : Held) (e : BuildFault) → 0 < length s.outer → r.closes s.inner.start.elem ≡ true → Leads r (end_all r) s whole start → Does r end_one s t (Err e) → Does r whole start u (Err e)
end_fails r s t u whole start e h c k d = leads_fail r end_one (end_all r) s t whole start u e (leads_as r (end_all r) (both end_one (end_all r)) s whole start (end_more r s.inner.start.elem (map elem_of_part s.outer) (simp length-map h) c) k) d

pub end_refused : (r : Rules) (s u : Held) (whole : Doing) (start : Held) (b : BuildFault) → 0 < length s.outer → r.closes s.inner.start.elem ≡ false → Leads r (end_all r) s whole start → Refuses (fault_of UNCLOSED (r.name s.inner.start.elem) []) b → Does r whole start u (Err b)
end_refused r s u whole start b h c k q = k u (Err b) (refused r (end_all r) s u (fault_of UNCLOSED (r.name s.inner.start.elem) []) b q (end_left r s.inner.start.elem (map elem_of_part s.outer) (simp length-map h) c))

pub end_done : (r : Rules) (s : Held) (whole : Doing) (start : Held) → length s.outer ≡ 0 → Leads r (end_all r) s whole start → Follows r whole start s
end_done r s whole start h k = leads_end r s whole start (leads_as r (end_all r) nothing s whole start (end_root r s.inner.start.elem (map elem_of_part s.outer) (simp length-map h)) k)

-- the whole

root_total : (r : Rules) (t : List ℕ) (p : Part) (ps : List Part) → length ps ≡ 0 → total r (record { text = t; inner = p; outer = ps }) [] ≡ whole r p.start (kids_after (texts t) p.has)
root_total r t p [] h = ap (whole r p.start) (sym (last_text t p.has))
root_total r t p (q ∷ qs) h = absurd (omega arith)

fresh_total : (r : Rules) (out : List Bracket) → total r (fresh r) (all_before r out []) ≡ tree_of_brackets r out
fresh_total r out = ap (whole r (root_beginning r)) (no_text_before (first (all_before r out [])))

pub built_ok : (r : Rules) (ops : List Op) (h s : Held) (t : Tree) → h ≡ fresh r → Follows r (both (steps r ops) (end_all r)) h s → length s.outer ≡ 0 → t ≡ whole r s.inner.start (kids_after (texts s.text) s.inner.has) → built r ops ≡ Ok t
built_ok r ops h s t b f l e =
    let g = subst (λ x. Follows r (both (steps r ops) (end_all r)) x s) b f in
    ap (built_by r) g.gives ∙ ap (λ x. Ok x) (sym (fresh_total r g.out) ∙ sym (g.stands []) ∙ root_total r s.text s.inner s.outer l ∙ sym e)

pub built_fault : (r : Rules) (ops : List Op) (h u : Held) (b : BuildFault) → h ≡ fresh r → Does r (both (steps r ops) (end_all r)) h u (Err b) → Builds (built r ops) (Err b)
built_fault r ops h u (Model f) e d = ap (built_by r) (ap (λ x. both (steps r ops) (end_all r) (path_of x)) (sym e) ∙ d)
built_fault r ops h u NoMemory e d = tt

-- an operation does what its case does
pub step_as : (r : Rules) (o p : Op) (doing : Doing) (s u : Held) (result : Result (Unit {0}) BuildFault) → o ≡ p → step r p ≡ doing → Does r doing s u result → Does r (step r o) s u result
step_as r o p doing s u result e q d = subst (λ x. Does r x s u result) (sym (ap (step r) e ∙ q)) d
