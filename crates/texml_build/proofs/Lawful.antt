-- The tree of every list of operations is valid, in a table with sound chains and void elements that hold nothing.
use Rattle.std.proofs.Common.{arith, ◌≡◌, ◌∙◌, ap, sym, refl, subst, ℕ, zero, suc, ◌-◌, ◌<◌, ◌==◌, nat_lt, Bool, true, false, List, [], ◌∷◌, ◌++◌, length, drop, Option, Some, None, Result, Ok, Err, if◌then◌else◌, IfOk, OnOk}
use Rattle.std.specs.Prelude.{unwrap_or, IsSome, codes}
use Rattle.std.proofs.lemmas.List.{length-drop, drop_all}
use Rattle.std.proofs.lemmas.Bool.Decides.{nat_tests}
use Rattle.texml_tree.specs.declared.ops.Op.{Op}
use Rattle.texml_tree.specs.declared.ops.Op.TheVariants.{Open, Close, CloseIf, Text, Space, Attr, Label, Ref}
use Rattle.texml_tree.specs.declared.model_fault.TheConstants.{UNCLOSED, TREE_DEPTH}
use Rattle.texml_tree.specs.declared.tree.Tree.{Tree as TreeCode}
use Rattle.texml_tree.specs.Tree.{Mark, trees}
use Rattle.texml_tree.specs.Plain.{tree_of}
use Rattle.texml_model.specs.Chain.{Leads}
use Rattle.texml_tree.specs.declared.table.Elements.{Elements}
use Rattle.texml_model.specs.Rules.{Rules, VoidIsEmpty, IsContentModel, holding_of, rules_of}
use Rattle.texml_model.proofs.Models.{rules_sound, void_is_empty, root_named}
use Rattle.texml_build.specs.declared.fault.BuildFault.{BuildFault}
use Rattle.texml_build.specs.Answer.{Builds}
use Rattle.texml_build.specs.Brackets.{Bracket, starts, ends, Outcome, Doing, behind, next, both, nothing, each, innermost, fault_of, end_one, end_many, start, start_all, say, fit_or, fit, place, place_by, enter, close_by, none_to_close, one_more, depth_under, depth_of, attr_by, own_attr, holder, holder_or, refer_by, step, steps, end_under, end_all, root_of, brackets}
use Rattle.texml_build.specs.Matched.{beginning, Levels, first, others, at_level, set_before, mark_before, whole, before, all_before, built, built_by}
use Rattle.texml_build.specs.Valid.{AllMay, ValidTree, ValidKids, Valid, IsValid, IsModel}
use Rattle.texml_build.proofs.Kids.{trimmed_valid, joined_valid, void_none}
use Rattle.texml_build.proofs.Paths.{fit_within}

-- what is still to come is valid at the path
abbrev LevelsOk : Rules → List ℕ → Levels → Type 0
LevelsOk r [] ls = Unit {0}
LevelsOk r (p ∷ ps) ls = AllMay r p (first ls).sets × ValidKids r p (199 - length ps) (trees (first ls).kids) × LevelsOk r ps (others ls)

-- a doing leads to a path with Q, and where what is to come behind it is valid, so is what comes before
abbrev Good : Rules → (List ℕ → Type 0) → List ℕ → Outcome → Type 0
Good r Q path (Err f) = Unit {0}
Good r Q path (Ok o) = Q o.1 × ((ls : Levels) → LevelsOk r o.1 ls → LevelsOk r path (all_before r o.0 ls))

levels_nil : (r : Rules) (path : List ℕ) → LevelsOk r path []
levels_nil r [] = tt
levels_nil r (p ∷ ps) = (tt, tt, levels_nil r ps)

pub before_append : (r : Rules) (a b : List Bracket) (ls : Levels) → all_before r (a ++ b) ls ≡ all_before r a (all_before r b ls)
before_append r [] b ls = refl
before_append r (x ∷ a) b ls = ap (before r x) (before_append r a b ls)

good_behind : (r : Rules) (Q : List ℕ → Type 0) (path mid : List ℕ) (out : List Bracket) (x : Outcome) → ((ls : Levels) → LevelsOk r mid ls → LevelsOk r path (all_before r out ls)) → Good r Q mid x → Good r Q path (behind out x)
good_behind r Q path mid out (Err f) k g = tt
good_behind r Q path mid out (Ok o) k g = (g.0, λ ls h. subst (LevelsOk r path) (sym (before_append r out o.0 ls)) (k (all_before r o.0 ls) (g.1 ls h)))

good_next : (r : Rules) (P Q : List ℕ → Type 0) (path : List ℕ) (x : Outcome) (b : Doing) → Good r P path x → ((mid : List ℕ) → P mid → Good r Q mid (b mid)) → Good r Q path (next x b)
good_next r P Q path (Err f) b g k = tt
good_next r P Q path (Ok o) b g k = good_behind r Q path o.1 o.0 (b o.1) g.1 (k o.1 g.0)

good_nothing : (r : Rules) (Q : List ℕ → Type 0) (path : List ℕ) → Q path → Good r Q path (nothing path)
good_nothing r Q path q = (q, λ ls h. h)

good_weaken : (r : Rules) (P Q : List ℕ → Type 0) (path : List ℕ) (x : Outcome) → ((p : List ℕ) → P p → Q p) → Good r P path x → Good r Q path x
good_weaken r P Q path (Err f) k g = tt
good_weaken r P Q path (Ok o) k g = (k o.1 g.0, g.1)

end_good : (r : Rules) (path : List ℕ) → Good r (λ p. p ≡ drop 1 path) path (end_one path)
end_good r [] = (refl, λ ls h. tt)
end_good r (p ∷ ps) = (refl, λ ls h. (tt, tt, h))

drop_one : (n : ℕ) (path : List ℕ) → drop n (drop 1 path) ≡ drop (suc n) path
drop_one n [] = drop_all {X = ℕ} n [] (omega arith)
drop_one n (p ∷ ps) = refl

ends_good : (r : Rules) (n : ℕ) (path : List ℕ) → Good r (λ p. p ≡ drop n path) path (end_many n path)
ends_good r zero path = good_nothing r (λ p. p ≡ path) path refl
ends_good r (suc n) path = good_next r (λ p. p ≡ drop 1 path) (λ p. p ≡ drop (suc n) path) path (end_one path) (end_many n) (end_good r path)
    (λ mid e. subst (λ (q : List ℕ). Good r (λ p. p ≡ q) mid (end_many n mid)) (ap (drop n) e ∙ drop_one n path) (ends_good r n mid))

start_levels : (r : Rules) → VoidIsEmpty r → (target : Option (List ℕ)) (e p : ℕ) (ps : List ℕ) (ls : Levels) → length ps < 199 → r.holds p e ≡ true → LevelsOk r (e ∷ p ∷ ps) ls → LevelsOk r (p ∷ ps) (before r (starts e target) ls)
start_levels r void target e p ps ls d h v =
    let k : 199 - length ps ≡ suc (199 - suc (length ps)) = omega arith in
    let kids = trimmed_valid r e (199 - suc (length ps)) (r.block e) (first ls).kids v.1 in
    let t : ValidTree r (199 - length ps) (whole r (beginning r e target) (first ls)) = subst (λ (n : ℕ). ValidTree r n (whole r (beginning r e target) (first ls))) (sym k) (v.0, void_none r void e (199 - suc (length ps)) _ kids, kids) in
    (v.2.0, (h, tt, t, v.2.1), v.2.2)

start_by : (r : Rules) → VoidIsEmpty r → (target : Option (List ℕ)) (e p : ℕ) (ps : List ℕ) (b : Bool) → nat_lt (suc (length ps)) 200 ≡ b → r.holds p e ≡ true → Good r (λ q. q ≡ e ∷ p ∷ ps) (p ∷ ps) (if b then Ok (starts e target ∷ [], e ∷ p ∷ ps) else Err (fault_of TREE_DEPTH (r.name e) (r.name p)))
start_by r void target e p ps false d h = tt
start_by r void target e p ps true d h = let l : length ps < 199 = grind (arith, nat_tests) in (refl, λ ls v. start_levels r void target e p ps ls l h v)

start_good : (r : Rules) → VoidIsEmpty r → (target : Option (List ℕ)) (e : ℕ) (path : List ℕ) → 0 < length path → r.holds (innermost path) e ≡ true → Good r (λ q. q ≡ e ∷ path) path (start r target e path)
start_good r void target e [] l h = absurd (omega arith)
start_good r void target e (p ∷ ps) l h = start_by r void target e p ps (nat_lt (suc (length ps)) 200) refl h

-- the path isn't empty, and its innermost element may hold the child
abbrev Ready : Rules → Option ℕ → List ℕ → Type 0
Ready r child path = (0 < length path) × Leads (holding_of r) (innermost path) [] child

starts_good : (r : Rules) → VoidIsEmpty r → (child : Option ℕ) (chain path : List ℕ) → 0 < length path → Leads (holding_of r) (innermost path) chain child → Good r (Ready r child) path (start_all r chain path)
starts_good r void child [] path l h = good_nothing r (Ready r child) path (l, h)
starts_good r void child (c ∷ cs) path l h = good_next r (λ q. q ≡ c ∷ path) (Ready r child) path (start r None c path) (start_all r cs) (start_good r void None c path l h.2)
    (λ mid e. subst (λ (q : List ℕ). Good r (Ready r child) q (start_all r cs q)) (sym e) (starts_good r void child cs (c ∷ path) (omega arith) h.3))

say_good : (r : Rules) (t : List ℕ) (path : List ℕ) → r.takes_text (innermost path) ≡ true → Good r (λ q. q ≡ path) path (say t path)
say_good r t [] h = (refl, λ ls v. tt)
say_good r t (p ∷ ps) h = (refl, λ ls v. (v.0, joined_valid r p (199 - length ps) t (first ls).kids h v.1, v.2))

-- where the chain of a fit begins
fit_chain_by : (r : Rules) (p : ℕ) (ps : List ℕ) (child : Option ℕ) (o : Option (List ℕ)) (b : Bool) (u : Option (ℕ × List ℕ)) → r.chain p child ≡ o
    → ((f : ℕ × List ℕ) → u ≡ Some f → r.chain (innermost (drop f.0 ps)) child ≡ Some f.1)
    → (f : ℕ × List ℕ) → fit_or o b u ≡ Some f → r.chain (innermost (drop f.0 (p ∷ ps))) child ≡ Some f.1
fit_chain_by r p ps child (Some c) b u e k f q =
    let z : (0, c) ≡ f = cc in
    subst (λ (g : ℕ × List ℕ). r.chain (innermost (drop g.0 (p ∷ ps))) child ≡ Some g.1) z e
fit_chain_by r p ps child None true None e k f q = absurd (cc)
fit_chain_by r p ps child None true (Some g) e k f q =
    let z : (suc g.0, g.1) ≡ f = cc in
    subst (λ (x : ℕ × List ℕ). r.chain (innermost (drop x.0 (p ∷ ps))) child ≡ Some x.1) z (k g refl)
fit_chain_by r p ps child None false u e k f q = absurd (cc)

fit_chain : (r : Rules) (path : List ℕ) (child : Option ℕ) (f : ℕ × List ℕ) → fit r path child ≡ Some f → r.chain (innermost (drop f.0 path)) child ≡ Some f.1
fit_chain r [] child f e = absurd (cc)
fit_chain r (p ∷ ps) child f e = fit_chain_by r p ps child (r.chain p child) (r.closes p) (fit r ps child) refl (fit_chain r ps child) f e

place_good_by : (r : Rules) → IsModel r → (child : Option ℕ) (path : List ℕ) (o : Option (ℕ × List ℕ)) → fit r path child ≡ o → Good r (Ready r child) path (place_by r o child path)
place_good_by r model child path None e = tt
place_good_by r model child path (Some f) e =
    let w : f.0 < length path = fit_within r path child f e in
    let l : 0 < length (drop f.0 path) = simp length-drop (omega (arith, w)) in
    let h : Leads (holding_of r) (innermost (drop f.0 path)) f.1 child = model.sound _ child f.1 (fit_chain r path child f e) in
    good_next r (λ p. p ≡ drop f.0 path) (Ready r child) path (end_many f.0 path) (start_all r f.1) (ends_good r f.0 path)
    (λ mid q. subst (λ (x : List ℕ). Good r (Ready r child) x (start_all r f.1 x)) (sym q) (starts_good r model.void child f.1 (drop f.0 path) l h))

place_good : (r : Rules) → IsModel r → (child : Option ℕ) (path : List ℕ) → Good r (Ready r child) path (place r child path)
place_good r model child path = place_good_by r model child path (fit r path child) refl

-- behind the place of a text the innermost element takes texts
abbrev pub TextReady : Rules → Outcome → Type 0
TextReady r (Err f) = Unit {0}
TextReady r (Ok o) = (0 < length o.1) × (r.takes_text (innermost o.1) ≡ true)

ready_of : (r : Rules) (path : List ℕ) (x : Outcome) → Good r (Ready r None) path x → TextReady r x
ready_of r path (Err f) g = tt
ready_of r path (Ok o) g = g.0

pub place_text : (r : Rules) → IsModel r → (path : List ℕ) → TextReady r (place r None path)
place_text r model path = ready_of r path (place r None path) (place_good r model None path)

abbrev Some_open : List ℕ → Type 0
Some_open path = 0 < length path

-- another element is around the innermost one
abbrev Inside : List ℕ → Type 0
Inside path = 1 < length path

enter_good : (r : Rules) → IsModel r → (target : Option (List ℕ)) (e : ℕ) (path : List ℕ) → Good r Inside path (enter r target e path)
enter_good r model target e path = good_next r (Ready r (Some e)) Inside path (place r (Some e) path) (start r target e) (place_good r model (Some e) path)
    (λ mid q. let l : 0 < length mid = q.0 in good_weaken r (λ p. p ≡ e ∷ mid) Inside mid (start r target e mid) (λ p z. subst Inside (sym z) (omega arith)) (start_good r model.void target e mid q.0 q.1))

text_good : (r : Rules) → IsModel r → (t : List ℕ) (path : List ℕ) → Good r Some_open path (both (place r None) (say t) path)
text_good r model t path = good_next r (Ready r None) Some_open path (place r None path) (say t) (place_good r model None path)
    (λ mid q. good_weaken r (λ p. p ≡ mid) Some_open mid (say t mid) (λ p z. subst Some_open (sym z) q.0) (say_good r t mid q.1))

depth_within_by : (same closes : Bool) (o : Option ℕ) (n k : ℕ) → ((m : ℕ) → o ≡ Some m → m < k) → (if same then Some 0 else if closes then one_more o else None) ≡ Some n → n < suc k
depth_within_by true closes o n k h e = let z : 0 ≡ n = cc in omega arith
depth_within_by false true None n k h e = absurd (cc)
depth_within_by false true (Some m) n k h e = let z : suc m ≡ n = cc in let b = h m refl in omega (arith, b)
depth_within_by false false o n k h e = absurd (cc)

depth_within : (r : Rules) (e p : ℕ) (ps : List ℕ) (n : ℕ) → depth_under r e p ps ≡ Some n → n < length ps
depth_within r e p [] n q = absurd (cc)
depth_within r e p (x ∷ xs) n q = depth_within_by (p == e) (r.closes p) (depth_under r e x xs) n (length xs) (depth_within r e x xs) q

close_good_by : (r : Rules) (path : List ℕ) (o : Option ℕ) (other : Doing) → ((n : ℕ) → o ≡ Some n → suc n < length path) → Good r Some_open path (other path) → Good r Some_open path (close_by o other path)
close_good_by r path None other w g = g
close_good_by r path (Some n) other w g =
    let b = w n refl in
    good_weaken r (λ p. p ≡ drop (suc n) path) Some_open path (end_many (suc n) path) (λ p z. subst Some_open (sym z) (simp length-drop (omega (arith, b)))) (ends_good r (suc n) path)

depth_of_within : (r : Rules) (e : ℕ) (path : List ℕ) (n : ℕ) → depth_of r e path ≡ Some n → suc n < length path
depth_of_within r e [] n q = absurd (cc)
depth_of_within r e (p ∷ ps) n q = let b = depth_within r e p ps n q in omega (arith, b)

space_good_by : (r : Rules) (path : List ℕ) (b : Bool) → r.takes_text (innermost path) ≡ b → Some_open path → Good r Some_open path (if b then say (32 ∷ []) path else nothing path)
space_good_by r path true e l = good_weaken r (λ p. p ≡ path) Some_open path (say (32 ∷ []) path) (λ p z. subst Some_open (sym z) l) (say_good r (32 ∷ []) path e)
space_good_by r path false e l = good_nothing r Some_open path l

-- attributes

set_levels_by : (r : Rules) (a : ℕ) (v : List ℕ) (p : ℕ) (ps : List ℕ) (b : Bool) (o : Option ℕ) (h : ℕ) (ls : Levels) → r.may_attr p a ≡ b
    → ((k : ℕ) → o ≡ Some k → LevelsOk r ps (others ls) → LevelsOk r ps (at_level k (set_before (record { number = a; value = v })) (others ls)))
    → holder_or b o ≡ Some h → LevelsOk r (p ∷ ps) ls → LevelsOk r (p ∷ ps) (at_level h (set_before (record { number = a; value = v })) ls)
set_levels_by r a v p ps true o h ls m k e w = let z : 0 ≡ h = cc in subst (λ (x : ℕ). LevelsOk r (p ∷ ps) (at_level x (set_before (record { number = a; value = v })) ls)) z ((m, w.0), w.1, w.2)
set_levels_by r a v p ps false None h ls m k e w = absurd (cc)
set_levels_by r a v p ps false (Some n) h ls m k e w = let z : suc n ≡ h = cc in subst (λ (x : ℕ). LevelsOk r (p ∷ ps) (at_level x (set_before (record { number = a; value = v })) ls)) z (w.0, w.1, k n refl w.2)

set_levels : (r : Rules) (a : ℕ) (v : List ℕ) (path : List ℕ) (h : ℕ) (ls : Levels) → holder r a path ≡ Some h → LevelsOk r path ls → LevelsOk r path (at_level h (set_before (record { number = a; value = v })) ls)
set_levels r a v [] h ls e w = tt
set_levels r a v (p ∷ ps) h ls e w = set_levels_by r a v p ps (r.may_attr p a) (holder r a ps) h ls refl (λ k q. set_levels r a v ps k (others ls) q) e w

attr_good_by : (r : Rules) (a : ℕ) (v : List ℕ) (path : List ℕ) (o : Option ℕ) → holder r a path ≡ o → Some_open path → Good r Some_open path (attr_by r o a v path)
attr_good_by r a v path None e l = tt
attr_good_by r a v path (Some h) e l = (l, λ ls w. set_levels r a v path h ls e w)

own_levels : (r : Rules) (a : ℕ) (v : List ℕ) (path : List ℕ) (ls : Levels) → r.may_attr (innermost path) a ≡ true → LevelsOk r path ls → LevelsOk r path (at_level 0 (set_before (record { number = a; value = v })) ls)
own_levels r a v [] ls e w = tt
own_levels r a v (p ∷ ps) ls e w = ((e, w.0), w.1, w.2)

own_good_by : (r : Rules) (a : ℕ) (v : List ℕ) (path : List ℕ) (b : Bool) → r.may_attr (innermost path) a ≡ b → Some_open path → Good r Some_open path (attr_by r (holder_or b None) a v path)
own_good_by r a v path false e l = tt
own_good_by r a v path true e l = (l, λ ls w. own_levels r a v path ls e w)

each_good : {A : Type 0} (r : Rules) (f : A → Doing) → ((x : A) (path : List ℕ) → Some_open path → Good r Some_open path (f x path)) → (xs : List A) (path : List ℕ) → Some_open path → Good r Some_open path (each f xs path)
each_good r f k [] path l = good_nothing r Some_open path l
each_good r f k (x ∷ xs) path l = good_next r Some_open Some_open path (f x path) (each f xs) (k x path l) (λ mid q. each_good r f k xs mid q)

open_good : (r : Rules) → IsModel r → (e : ℕ) (given : List (ℕ × List ℕ)) (path : List ℕ) → Good r Some_open path (both (enter r None e) (each (own_attr r) given) path)
open_good r model e given path = good_next r Inside Some_open path (enter r None e path) (each (own_attr r) given) (enter_good r model None e path)
    (λ mid q. let l : 1 < length mid = q in each_good r (own_attr r) (λ s p k. own_good_by r s.0 s.1 p (r.may_attr (innermost p) s.0) refl k) given mid (omega arith))

-- labels and references

mark_levels : (r : Rules) (m : Mark) (path : List ℕ) (n : ℕ) (ls : Levels) → LevelsOk r path ls → LevelsOk r path (at_level n (mark_before m) ls)
mark_levels r m [] n ls w = tt
mark_levels r m (p ∷ ps) zero ls w = w
mark_levels r m (p ∷ ps) (suc n) ls w = (w.0, w.1, mark_levels r m ps n (others ls) w.2)

refer_good_by : (r : Rules) → IsModel r → (o : Option ℕ) (l : List ℕ) (path : List ℕ) → Good r Some_open path (refer_by r o l path)
refer_good_by r model None l path = tt
refer_good_by r model (Some e) l path = good_next r Inside Some_open path (enter r (Some l) e path) end_one (enter_good r model (Some l) e path)
    (λ mid q. let k : 1 < length mid = q in good_weaken r (λ p. p ≡ drop 1 mid) Some_open mid (end_one mid) (λ p z. subst Some_open (sym z) (simp length-drop (omega (arith, k)))) (end_good r mid))

-- all operations

step_good : (r : Rules) → IsModel r → (op : Op) (path : List ℕ) → Some_open path → Good r Some_open path (step r op path)
step_good r model (Open e given) path l = open_good r model e.0 given path
step_good r model (Close e) path l = close_good_by r path (depth_of r e.0 path) (none_to_close r e.0) (depth_of_within r e.0 path) tt
step_good r model (CloseIf e) path l = close_good_by r path (depth_of r e.0 path) nothing (depth_of_within r e.0 path) (good_nothing r Some_open path l)
step_good r model (Text t) path l = text_good r model t path
step_good r model Space path l = space_good_by r path (r.takes_text (innermost path)) refl l
step_good r model (Attr a v) path l = attr_good_by r a v path (holder r a path) refl l
step_good r model (Label t n) path l = (l, λ ls w. mark_levels r (record { label = t; number = n }) path _ ls w)
step_good r model (Ref t) path l = refer_good_by r model (r.named (codes "ref")) t path

abbrev Any : List ℕ → Type 0
Any path = Unit {0}

end_by : (r : Rules) (p q : ℕ) (qs : List ℕ) (b : Bool) → Good r Any (q ∷ qs) (end_under r q qs) → Good r Any (p ∷ q ∷ qs) (if b then behind (ends ∷ []) (end_under r q qs) else Err (fault_of UNCLOSED (r.name p) []))
end_by r p q qs true g = good_behind r Any (p ∷ q ∷ qs) (q ∷ qs) (ends ∷ []) (end_under r q qs) (λ ls h. (tt, tt, h)) g
end_by r p q qs false g = tt

end_under_good : (r : Rules) (p : ℕ) (ps : List ℕ) → Good r Any (p ∷ ps) (end_under r p ps)
end_under_good r p [] = (tt, λ ls h. h)
end_under_good r p (q ∷ qs) = end_by r p q qs (r.closes p) (end_under_good r q qs)

end_all_good : (r : Rules) (path : List ℕ) → Good r Any path (end_all r path)
end_all_good r [] = (tt, λ ls h. h)
end_all_good r (p ∷ ps) = end_under_good r p ps

brackets_good : (r : Rules) → IsModel r → (ops : List Op) → Good r Any (root_of r ∷ []) (brackets r ops)
brackets_good r model ops = good_next r Some_open Any (root_of r ∷ []) (steps r ops (root_of r ∷ [])) (end_all r) (each_good r (step r) (step_good r model) ops (root_of r ∷ []) (omega arith)) (λ mid q. end_all_good r mid)

is_there : (o : Option ℕ) → IsSome o → o ≡ Some (unwrap_or o 0)
is_there None h = absurd (cc)
is_there (Some e) h = refl

valid_by : (r : Rules) → IsModel r → (o : Outcome) → Good r Any (root_of r ∷ []) o → IsValid r (built_by r o)
valid_by r model (Err f) g = tt
valid_by r model (Ok o) g =
    let v = g.1 [] (levels_nil r o.1) in
    let kids = trimmed_valid r (root_of r) 199 (r.block (root_of r)) (first (all_before r o.0 [])).kids v.1 in
    (is_there (r.named (codes "document")) model.root, (v.0, void_none r model.void (root_of r) 199 _ kids, kids))

-- every tree of operations is valid
pub built_valid : (r : Rules) → IsModel r → (ops : List Op) → IsValid r (built r ops)
built_valid r model ops = valid_by r model (brackets r ops) (brackets_good r model ops)

pub model_of : (t : Elements) → IsContentModel t → IsModel (rules_of t)
model_of t m = record { sound = rules_sound t; void = void_is_empty t m; root = root_named t m }

pub valid_result : (t : Elements) (ops : List Op) (result : Result TreeCode BuildFault) → OnOk result (IsContentModel t) → Builds (built (rules_of t) ops) result → IfOk result (λ tree. Valid (rules_of t) (tree_of tree))
valid_result t ops (Ok tree) m e = subst (IsValid (rules_of t)) e (built_valid (rules_of t) (model_of t m) ops)
valid_result t ops (Err f) m e = tt
