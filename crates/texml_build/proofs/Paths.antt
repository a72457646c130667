-- The path of open elements, and the search for a fit and for an open element in it.
use Rattle.std.proofs.Common.{arith, ◌≡◌, ◌≢◌, ◌∙◌, ap, sym, refl, ℕ, zero, suc, ◌+◌, ◌-◌, ◌<◌, ◌≤◌, Bool, true, false, List, [], ◌∷◌, ◌++◌, map, reverse, length, drop, get_or, set, Option, Some, None, ◌==◌, if◌then◌else◌}
use Rattle.std.proofs.lemmas.Bool.Decides.{nat_tests}
use Rattle.std.proofs.lemmas.List.{drop_more, drop_all, get_or-reverse, length-map, length-reverse, length-drop, reverse-append, map-append}
use Rattle.texml_model.specs.Rules.{Rules}
use Rattle.texml_build.specs.declared.builder.Open.{Open}
use Rattle.texml_build.specs.Brackets.{deeper, fit_or, fit, one_more, depth_of, holder, holder_or, owner_of}
use Rattle.texml_build.specs.Matched.{Level}
use Rattle.texml_build.specs.Held.{Part, Held, elem_of_part, part_of, at_nth, with_has, changed}

elem_of_map : (os : List Open) (k : ℕ) (d : Open) → k < length os → get_or (map elem_of_part (map part_of os)) k 0 ≡ (get_or os k d).elem.0
elem_of_map [] k d h = absurd (omega arith)
elem_of_map (o ∷ os) zero d h = refl
elem_of_map (o ∷ os) (suc k) d h = elem_of_map os k d (omega arith)

pub elem_inside : (p : ℕ) (os : List Open) (n : ℕ) (o : Open) → 0 < n → n ≤ length os → o ≡ get_or os (length os - n) o
    → o.elem.0 ≡ get_or (p ∷ map elem_of_part (map part_of (reverse os))) n 0
elem_inside p os zero o h k e = absurd (omega arith)
elem_inside p os (suc n) o h k e =
    let at : length os - suc n ≡ length os - 1 - n = omega arith in
    let back = get_or-reverse os n o (omega arith) in
    ap (λ (x : Open). x.elem.0) (e ∙ ap (λ (i : ℕ). get_or os i o) at ∙ sym back) ∙ sym (elem_of_map (reverse os) n o (simp length-reverse (omega arith)))

abbrev pub deepen : ℕ → Option (ℕ × List ℕ) → Option (ℕ × List ℕ)
deepen n None = None
deepen n (Some f) = Some (n + f.0, f.1)

deepen_deeper : (n : ℕ) (o : Option (ℕ × List ℕ)) → deepen n (deeper o) ≡ deepen (n + 1) o
deepen_deeper n None = refl
deepen_deeper n (Some f) = let e : n + suc f.0 ≡ n + 1 + f.0 = omega arith in ap (λ (k : ℕ). Some (k, f.1)) e

fit_at : (r : Rules) (path : List ℕ) (child : Option ℕ) (n : ℕ) (o : Option (List ℕ)) → n < length path → r.chain (get_or path n 0) child ≡ o
    → fit r (drop n path) child ≡ fit_or o (r.closes (get_or path n 0)) (fit r (drop (n + 1) path) child)
fit_at r path child n o h c = ap (λ l. fit r l child) (drop_more path n 0 h) ∙ ap (λ x. fit_or x (r.closes (get_or path n 0)) (fit r (drop (n + 1) path) child)) c

fit_not_at : (r : Rules) (path : List ℕ) (child : Option ℕ) (n : ℕ) (b : Bool) → n < length path → r.chain (get_or path n 0) child ≡ None → r.closes (get_or path n 0) ≡ b
    → fit r (drop n path) child ≡ fit_or None b (fit r (drop (n + 1) path) child)
fit_not_at r path child n b h c k = fit_at r path child n None h c ∙ ap (λ x. fit_or None x (fit r (drop (n + 1) path) child)) k

pub fit_next : (r : Rules) (path : List ℕ) (child : Option ℕ) (n : ℕ) → n < length path → r.chain (get_or path n 0) child ≡ None → r.closes (get_or path n 0) ≡ true
    → fit r path child ≡ deepen n (fit r (drop n path) child) → fit r path child ≡ deepen (n + 1) (fit r (drop (n + 1) path) child)
fit_next r path child n h c k e = e ∙ ap (deepen n) (fit_not_at r path child n true h c k) ∙ deepen_deeper n _

pub fit_on : (r : Rules) (path : List ℕ) (child : Option ℕ) (n a : ℕ) → n < length path → a ≡ get_or path n 0 → None ≡ r.chain a child → true ≡ r.closes a
    → fit r path child ≡ deepen n (fit r (drop n path) child) → fit r path child ≡ deepen (n + 1) (fit r (drop (n + 1) path) child)
fit_on r path child n a h q c k e = fit_next r path child n h (ap (λ (x : ℕ). r.chain x child) (sym q) ∙ sym c) (ap (λ (x : ℕ). r.closes x) (sym q) ∙ sym k) e

pub fit_found : (r : Rules) (path : List ℕ) (child : Option ℕ) (n : ℕ) (list : List ℕ) → n < length path → r.chain (get_or path n 0) child ≡ Some list
    → fit r path child ≡ deepen n (fit r (drop n path) child) → Some (n, list) ≡ fit r path child
fit_found r path child n list h c e =
    let z : n + 0 ≡ n = omega arith in
    sym (e ∙ ap (deepen n) (fit_at r path child n (Some list) h c) ∙ ap (λ (k : ℕ). Some (k, list)) z)

pub fit_stops : (r : Rules) (path : List ℕ) (child : Option ℕ) (n : ℕ) → n < length path → r.chain (get_or path n 0) child ≡ None → r.closes (get_or path n 0) ≡ false
    → fit r path child ≡ deepen n (fit r (drop n path) child) → None ≡ fit r path child
fit_stops r path child n h c k e = sym (e ∙ ap (deepen n) (fit_not_at r path child n false h c k))

pub fit_none : (r : Rules) (path : List ℕ) (child : Option ℕ) (n : ℕ) → length path ≤ n → fit r path child ≡ deepen n (fit r (drop n path) child) → None ≡ fit r path child
fit_none r path child n h e = sym (e ∙ ap (λ l. deepen n (fit r l child)) (drop_all n path h))

pub fit_begins : (r : Rules) (path : List ℕ) (child : Option ℕ) → fit r path child ≡ deepen 0 (fit r path child)
fit_begins r path child = whole (fit r path child)
  where
    whole : (o : Option (ℕ × List ℕ)) → o ≡ deepen 0 o
    whole None = refl
    whole (Some f) = let z : f.0 ≡ 0 + f.0 = omega arith in ap (λ (k : ℕ). Some (k, f.1)) z

-- a fit closes no more than what is open
fit_within_by : (o : Option (List ℕ)) (closes : Bool) (u : Option (ℕ × List ℕ)) (n : ℕ) → ((f : ℕ × List ℕ) → u ≡ Some f → f.0 < n) → (f : ℕ × List ℕ) → fit_or o closes u ≡ Some f → f.0 < suc n
fit_within_by (Some c) closes u n k f e = let z : (0, c) ≡ f = cc in let y : 0 ≡ f.0 = ap (λ (g : ℕ × List ℕ). g.0) z in omega arith
fit_within_by None true None n k f e = absurd (cc)
fit_within_by None true (Some g) n k f e = let q : (suc g.0, g.1) ≡ f = cc in let y : suc g.0 ≡ f.0 = ap (λ (g : ℕ × List ℕ). g.0) q in let b = k g refl in omega (arith, b)
fit_within_by None false u n k f e = absurd (cc)

pub fit_within : (r : Rules) (path : List ℕ) (child : Option ℕ) (f : ℕ × List ℕ) → fit r path child ≡ Some f → f.0 < length path
fit_within r [] child f e = absurd (cc)
fit_within r (p ∷ ps) child f e = fit_within_by (r.chain p child) (r.closes p) (fit r ps child) (length ps) (fit_within r ps child) f e

-- the search for an open element

abbrev pub shifted : ℕ → Option ℕ → Option ℕ
shifted n None = None
shifted n (Some k) = Some (n + k)

shifted_more : (n : ℕ) (o : Option ℕ) → shifted n (one_more o) ≡ shifted (n + 1) o
shifted_more n None = refl
shifted_more n (Some k) = let e : n + suc k ≡ n + 1 + k = omega arith in ap (λ (x : ℕ). Some x) e

depth_cons : (r : Rules) (e a : ℕ) (l : List ℕ) → 0 < length l → depth_of r e (a ∷ l) ≡ (if a == e then Some 0 else if r.closes a then one_more (depth_of r e l) else None)
depth_cons r e a [] h = absurd (omega arith)
depth_cons r e a (b ∷ bs) h = refl

depth_at : (r : Rules) (path : List ℕ) (e n : ℕ) → suc n < length path
    → depth_of r e (drop n path) ≡ (if get_or path n 0 == e then Some 0 else if r.closes (get_or path n 0) then one_more (depth_of r e (drop (n + 1) path)) else None)
depth_at r path e n h = ap (depth_of r e) (drop_more path n 0 (omega arith)) ∙ depth_cons r e (get_or path n 0) (drop (n + 1) path) (simp length-drop (omega arith))

pub depth_found : (r : Rules) (path : List ℕ) (e n a : ℕ) → suc n < length path → a ≡ get_or path n 0 → a ≡ e → depth_of r e path ≡ shifted n (depth_of r e (drop n path)) → Some n ≡ depth_of r e path
depth_found r path e n a h q k i =
    let t : (get_or path n 0 == e) ≡ true = grind (arith, nat_tests) in
    let z : n + 0 ≡ n = omega arith in
    let one : depth_of r e (drop n path) ≡ Some 0 = depth_at r path e n h ∙ rw t refl in
    sym (i ∙ ap (shifted n) one ∙ ap (λ (x : ℕ). Some x) z)

pub depth_stops : (r : Rules) (path : List ℕ) (e n a : ℕ) → suc n < length path → a ≡ get_or path n 0 → a ≢ e → false ≡ r.closes a → depth_of r e path ≡ shifted n (depth_of r e (drop n path)) → None ≡ depth_of r e path
depth_stops r path e n a h q k c i =
    let t : (get_or path n 0 == e) ≡ false = grind (arith, nat_tests) in
    let f : r.closes (get_or path n 0) ≡ false = ap (λ (x : ℕ). r.closes x) (sym q) ∙ sym c in
    let one : depth_of r e (drop n path) ≡ None = depth_at r path e n h ∙ rw (t, f) refl in
    sym (i ∙ ap (shifted n) one)

pub depth_on : (r : Rules) (path : List ℕ) (e n a : ℕ) → suc n < length path → a ≡ get_or path n 0 → a ≢ e → true ≡ r.closes a → depth_of r e path ≡ shifted n (depth_of r e (drop n path)) → depth_of r e path ≡ shifted (n + 1) (depth_of r e (drop (n + 1) path))
depth_on r path e n a h q k c i =
    let t : (get_or path n 0 == e) ≡ false = grind (arith, nat_tests) in
    let f : r.closes (get_or path n 0) ≡ true = ap (λ (x : ℕ). r.closes x) (sym q) ∙ sym c in
    let one : depth_of r e (drop n path) ≡ one_more (depth_of r e (drop (n + 1) path)) = depth_at r path e n h ∙ rw (t, f) refl in
    i ∙ ap (shifted n) one ∙ shifted_more n _

depth_one : (r : Rules) (e : ℕ) (l : List ℕ) → length l ≤ 1 → depth_of r e l ≡ None
depth_one r e [] h = refl
depth_one r e (a ∷ []) h = refl
depth_one r e (a ∷ b ∷ l) h = absurd (omega arith)

pub depth_none : (r : Rules) (path : List ℕ) (e n : ℕ) → length path ≤ suc n → depth_of r e path ≡ shifted n (depth_of r e (drop n path)) → None ≡ depth_of r e path
depth_none r path e n h i = sym (i ∙ ap (shifted n) (depth_one r e (drop n path) (simp length-drop (omega arith))))

-- the search for an element that may have an attribute

holder_at : (r : Rules) (path : List ℕ) (a n : ℕ) (b : Bool) → n < length path → r.may_attr (get_or path n 0) a ≡ b → holder r a (drop n path) ≡ holder_or b (holder r a (drop (n + 1) path))
holder_at r path a n b h e = ap (holder r a) (drop_more path n 0 h) ∙ ap (λ x. holder_or x (holder r a (drop (n + 1) path))) e

pub holder_found : (r : Rules) (path : List ℕ) (a n x : ℕ) → n < length path → x ≡ get_or path n 0 → true ≡ r.may_attr x a → holder r a path ≡ shifted n (holder r a (drop n path)) → Some n ≡ holder r a path
holder_found r path a n x h q m i =
    let z : n + 0 ≡ n = omega arith in
    sym (i ∙ ap (shifted n) (holder_at r path a n true h (ap (λ (y : ℕ). r.may_attr y a) (sym q) ∙ sym m)) ∙ ap (λ (y : ℕ). Some y) z)

pub holder_on : (r : Rules) (path : List ℕ) (a n x : ℕ) → n < length path → x ≡ get_or path n 0 → false ≡ r.may_attr x a → holder r a path ≡ shifted n (holder r a (drop n path)) → holder r a path ≡ shifted (n + 1) (holder r a (drop (n + 1) path))
holder_on r path a n x h q m i = i ∙ ap (shifted n) (holder_at r path a n false h (ap (λ (y : ℕ). r.may_attr y a) (sym q) ∙ sym m)) ∙ shifted_more n _

pub holder_none : (r : Rules) (path : List ℕ) (a n : ℕ) → length path ≤ n → holder r a path ≡ shifted n (holder r a (drop n path)) → None ≡ holder r a path
holder_none r path a n h i = sym (i ∙ ap (λ l. shifted n (holder r a l)) (drop_all n path h))

abbrev held : List ℕ → Part → List Part → Held
held t p ps = record { text = t; inner = p; outer = ps }

-- a write in the list of open elements, which is kept the other way round

nth_append : (f : Part → Part) (l : List Part) (x : Part) (k : ℕ) → length l ≡ k → at_nth k f (l ++ x ∷ []) ≡ l ++ f x ∷ []
nth_append f [] x zero h = refl
nth_append f [] x (suc k) h = absurd (omega arith)
nth_append f (y ∷ l) x zero h = absurd (omega arith)
nth_append f (y ∷ l) x (suc k) h = ap (λ m. y ∷ m) (nth_append f l x k (omega arith))

nth_left : (f : Part → Part) (l : List Part) (x : Part) (k : ℕ) → k < length l → at_nth k f (l ++ x ∷ []) ≡ at_nth k f l ++ x ∷ []
nth_left f [] x k h = absurd (omega arith)
nth_left f (y ∷ l) x zero h = refl
nth_left f (y ∷ l) x (suc k) h = ap (λ m. y ∷ m) (nth_left f l x k (omega arith))

abbrev parts : List Open → List Part
parts os = map part_of (reverse os)

parts_cons : (o : Open) (os : List Open) → parts (o ∷ os) ≡ parts os ++ part_of o ∷ []
parts_cons o os = ap (map part_of) (reverse-append (o ∷ []) os) ∙ map-append part_of (reverse os) (o ∷ [])

parts_length : (os : List Open) → length (parts os) ≡ length os
parts_length os = simp (length-map, length-reverse) refl

put_at : (os : List Open) (i k : ℕ) (f : Part → Part) (new d : Open) → i + suc k ≡ length os → part_of new ≡ f (part_of (get_or os i d)) → parts (set os i new) ≡ at_nth k f (parts os)
put_at [] i k f new d e q = absurd (omega arith)
put_at (o ∷ os) zero k f new d e q =
    let n : length (parts os) ≡ k = parts_length os ∙ omega arith in
    parts_cons new os ∙ ap (λ p. parts os ++ p ∷ []) q ∙ sym (nth_append f (parts os) (part_of o) k n) ∙ ap (at_nth k f) (sym (parts_cons o os))
put_at (o ∷ os) (suc i) k f new d e q =
    let m = parts_length os in
    let n : k < length (parts os) = omega (arith, m) in
    parts_cons o (set os i new) ∙ ap (λ l. l ++ part_of o ∷ []) (put_at os i k f new d (omega arith) q) ∙ sym (nth_left f (parts os) (part_of o) k n) ∙ ap (at_nth k f) (sym (parts_cons o os))

put_held_at : (t : List ℕ) (p : Part) (os new_os : List Open) (h k : ℕ) (f : Level → Level) (new d : Open) → h ≡ suc k → h ≤ length os → new_os ≡ set os (length os - h) new → part_of new ≡ with_has f (part_of (get_or os (length os - h) d))
    → held t p (parts new_os) ≡ changed h f (held t p (parts os))
put_held_at t p os new_os h k f new d e l q w =
    let n : (length os - h) + suc k ≡ length os = omega arith in
    ap (λ m. held t p (parts m)) q ∙ ap (held t p) (put_at os (length os - h) k (with_has f) new d n w) ∙ ap (λ (m : ℕ). changed m f (held t p (parts os))) (sym e)

pub put_held : (t : List ℕ) (p : Part) (os new_os : List Open) (h : ℕ) (f : Level → Level) (new d : Open) → 0 < h → h ≤ length os → new_os ≡ set os (length os - h) new → part_of new ≡ with_has f (part_of (get_or os (length os - h) d))
    → held t p (map part_of (reverse new_os)) ≡ changed h f (held t p (map part_of (reverse os)))
put_held t p os new_os h f new d z l q w = put_held_at t p os new_os h (h - 1) f new d (omega arith) l q w

-- the search for an element that gets an id

owner_cons : (r : Rules) (p : ℕ) (l : List ℕ) → 0 < length l → owner_of r (p ∷ l) ≡ (if r.id p then 0 else suc (owner_of r l))
owner_cons r p [] h = absurd (omega arith)
owner_cons r p (q ∷ qs) h = refl

owner_at : (r : Rules) (path : List ℕ) (n a : ℕ) (b : Bool) → suc n < length path → a ≡ get_or path n 0 → b ≡ r.id a → owner_of r (drop n path) ≡ (if b then 0 else suc (owner_of r (drop (n + 1) path)))
owner_at r path n a b h q e =
    ap (owner_of r) (drop_more path n 0 (omega arith)) ∙ owner_cons r (get_or path n 0) (drop (n + 1) path) (simp length-drop (omega arith))
    ∙ ap (λ (x : Bool). if x then 0 else suc (owner_of r (drop (n + 1) path))) (ap (λ (x : ℕ). r.id x) (sym q) ∙ sym e)

pub owner_found : (r : Rules) (path : List ℕ) (n a : ℕ) → suc n < length path → a ≡ get_or path n 0 → true ≡ r.id a → owner_of r path ≡ n + owner_of r (drop n path) → n ≡ owner_of r path
owner_found r path n a h q e i =
    let z : n + 0 ≡ n = omega arith in
    sym (i ∙ ap (λ (k : ℕ). n + k) (owner_at r path n a true h q e) ∙ z)

pub owner_on : (r : Rules) (path : List ℕ) (n a : ℕ) → suc n < length path → a ≡ get_or path n 0 → false ≡ r.id a → owner_of r path ≡ n + owner_of r (drop n path) → owner_of r path ≡ n + 1 + owner_of r (drop (n + 1) path)
owner_on r path n a h q e i =
    let z : n + suc (owner_of r (drop (n + 1) path)) ≡ n + 1 + owner_of r (drop (n + 1) path) = omega arith in
    i ∙ ap (λ (k : ℕ). n + k) (owner_at r path n a false h q e) ∙ z

owner_one : (r : Rules) (l : List ℕ) → length l ≤ 1 → owner_of r l ≡ 0
owner_one r [] h = refl
owner_one r (a ∷ []) h = refl
owner_one r (a ∷ b ∷ l) h = absurd (omega arith)

pub owner_none : (r : Rules) (path : List ℕ) (n m : ℕ) → m ≡ n → length path ≤ suc n → owner_of r path ≡ n + owner_of r (drop n path) → m ≡ owner_of r path
owner_none r path n m e h i =
    let z : n + 0 ≡ n = omega arith in
    e ∙ sym (i ∙ ap (λ (k : ℕ). n + k) (owner_one r (drop n path) (simp length-drop (omega arith))) ∙ z)
