-- The loops that find the chains.
use Rattle.std.proofs.Common.{arith, ◌≡◌, ◌∙◌, ap, sym, refl, subst, ℕ, zero, suc, ◌+◌, ◌-◌, ◌<◌, ◌≤◌, ◌&&◌, Bool, true, false, List, [], ◌∷◌, ◌++◌, length, map, get_or, Option, None, Some, Vec, Global}
use Rattle.std.specs.Option.{option_map, option_or}
use Rattle.std.specs.List.{range_with_len}
use Rattle.std.proofs.lemmas.List.{get_or-map, length-map, map-append}
use Rattle.texml_tree.specs.declared.table.Elem.{Elem}
use Rattle.texml_model.specs.Chain.{Holding, first_some, behind, by_one, chain_between, shortest}
use Rattle.texml_model.specs.Levels.{places_of, chain_list, chain_lists, at, wider, upto, missing}
use Rattle.texml_model.proofs.Least.{upto_length, upto_more, upto_at, wider_is, wider_same, none_added, enough}

abbrev Found : Type 0
Found = Option (Vec Elem Global)

pub push_upto : {A B : Type 0} (v : A → B) (f : ℕ → B) (n : ℕ) (l : List A) (x : A) → map v l ≡ upto f n → v x ≡ f n → map v (l ++ x ∷ []) ≡ upto f (n + 1)
push_upto v f n l x e h = map-append v l (x ∷ []) ∙ (λ i. e i ++ h i ∷ []) ∙ sym (upto_more f n)

pub upto_push : (f : ℕ → Option (List ℕ)) (n : ℕ) (l : List Found) (x : Found) → chain_lists l ≡ upto f n → chain_list x ≡ f n → chain_lists (l ++ x ∷ []) ≡ upto f (n + 1)
upto_push f n l x e h = push_upto chain_list f n l x e h

at_found : (l : List Found) (e : ℕ) (x : Found) → e < length l → x ≡ get_or l e x → at (chain_lists l) e ≡ chain_list x
at_found l e x h q = get_or-map chain_list l e x None h ∙ ap chain_list (sym q)

-- one element after the other

go_on : (g : ℕ → Option (List ℕ)) (x : Option (List ℕ)) (n e : ℕ) → e < n → x ≡ first_some g (range_with_len e (n - e)) → x ≡ option_or (g e) (first_some g (range_with_len (e + 1) (n - (e + 1))))
go_on g x n e h q =
    let k : n - e ≡ suc (n - (e + 1)) = omega arith in
    q ∙ ap (λ (m : ℕ). first_some g (range_with_len e m)) k

pass : (g : ℕ → Option (List ℕ)) (x : Option (List ℕ)) (n e : ℕ) → e < n → x ≡ first_some g (range_with_len e (n - e)) → g e ≡ None → x ≡ first_some g (range_with_len (e + 1) (n - (e + 1)))
pass g x n e h q z = go_on g x n e h q ∙ ap (λ o. option_or o (first_some g (range_with_len (e + 1) (n - (e + 1))))) z

meet : (g : ℕ → Option (List ℕ)) (x : Option (List ℕ)) (n e : ℕ) (c : List ℕ) → e < n → x ≡ first_some g (range_with_len e (n - e)) → g e ≡ Some c → Some c ≡ x
meet g x n e c h q z = sym (go_on g x n e h q ∙ ap (λ o. option_or o (first_some g (range_with_len (e + 1) (n - (e + 1))))) z)

-- the first answer that is still to be found from the element e on
abbrev pub rest_of : Holding → (ℕ → Option (List ℕ)) → ℕ → ℕ → Option (List ℕ)
rest_of t f p e = first_some (λ x. behind (t.opens x && t.holds p x) x f) (range_with_len e (t.size - e))

pub pass_shut : (t : Holding) (p e : ℕ) (l : List Found) → false ≡ (t.opens e && t.holds p e) → e < t.size
    → by_one t (at (chain_lists l)) p ≡ rest_of t (at (chain_lists l)) p e → by_one t (at (chain_lists l)) p ≡ rest_of t (at (chain_lists l)) p (e + 1)
pass_shut t p e l g h q = pass (λ x. behind (t.opens x && t.holds p x) x (at (chain_lists l))) (by_one t (at (chain_lists l)) p) t.size e h q (ap (λ (b : Bool). behind b e (at (chain_lists l))) (sym g))

pub pass_none : (t : Holding) (p e : ℕ) (l : List Found) (x : Found) → true ≡ (t.opens e && t.holds p e) → e < t.size → length l ≡ t.size → x ≡ get_or l e x → x ≡ None
    → by_one t (at (chain_lists l)) p ≡ rest_of t (at (chain_lists l)) p e → by_one t (at (chain_lists l)) p ≡ rest_of t (at (chain_lists l)) p (e + 1)
pass_none t p e l x g h k y z q =
    let a = at_found l e x (omega arith) y in
    pass (λ x. behind (t.opens x && t.holds p x) x (at (chain_lists l))) (by_one t (at (chain_lists l)) p) t.size e h q
    (ap (λ (b : Bool). behind b e (at (chain_lists l))) (sym g) ∙ ap (option_map (λ c. e ∷ c)) (a ∙ ap chain_list z))

pub met : (t : Holding) (p e : ℕ) (l : List Found) (x : Found) (v : Vec Elem Global) (c : List ℕ) → true ≡ (t.opens e && t.holds p e) → e < t.size → length l ≡ t.size → x ≡ get_or l e x → x ≡ Some v → c ≡ e ∷ places_of v.items
    → by_one t (at (chain_lists l)) p ≡ rest_of t (at (chain_lists l)) p e → Some c ≡ by_one t (at (chain_lists l)) p
met t p e l x v c g h k y z w q =
    let a = at_found l e x (omega arith) y in
    ap (λ (d : List ℕ). Some d) w ∙ meet (λ x. behind (t.opens x && t.holds p x) x (at (chain_lists l))) (by_one t (at (chain_lists l)) p) t.size e (e ∷ places_of v.items) h q
    (ap (λ (b : Bool). behind b e (at (chain_lists l))) (sym g) ∙ ap (option_map (λ c. e ∷ c)) (a ∙ ap chain_list z))

pub none_left : (t : Holding) (p e : ℕ) (l : List Found) → t.size ≤ e → by_one t (at (chain_lists l)) p ≡ rest_of t (at (chain_lists l)) p e → None ≡ by_one t (at (chain_lists l)) p
none_left t p e l h q = let k : t.size - e ≡ 0 = omega arith in sym (q ∙ ap (λ (m : ℕ). first_some (λ x. behind (t.opens x && t.holds p x) x (at (chain_lists l))) (range_with_len e m)) k)

-- pushes

pub push_some : (f : ℕ → Option (List ℕ)) (n : ℕ) (l : List Found) (v : Vec Elem Global) → chain_lists l ≡ upto f n → Some (places_of v.items) ≡ f n → chain_lists (l ++ Some v ∷ []) ≡ upto f (n + 1)
push_some f n l v e h = upto_push f n l (Some v) e h

pub push_none : (f : ℕ → Option (List ℕ)) (n : ℕ) (l : List Found) → chain_lists l ≡ upto f n → None ≡ f n → chain_lists (l ++ None ∷ []) ≡ upto f (n + 1)
push_none f n l e h = upto_push f n l None e h

pub kept : (t : Holding) (found : List Found) (n : ℕ) (x : Found) (v w : Vec Elem Global) → n < length found → x ≡ get_or found n x → x ≡ Some v → w.items ≡ v.items → Some (places_of w.items) ≡ wider t (at (chain_lists found)) n
kept t found n x v w h q z k = ap (λ (c : List Elem). Some (places_of c)) k ∙ sym (ap (λ o. option_or o (by_one t (at (chain_lists found)) n)) (at_found found n x h q ∙ ap chain_list z))

pub newly_found : (t : Holding) (found : List Found) (n : ℕ) (x : Found) (y : Option (List ℕ)) → n < length found → x ≡ get_or found n x → x ≡ None → y ≡ by_one t (at (chain_lists found)) n → y ≡ wider t (at (chain_lists found)) n
newly_found t found n x y h q z k = k ∙ sym (ap (λ o. option_or o (by_one t (at (chain_lists found)) n)) (at_found found n x h q ∙ ap chain_list z))

-- levels

pub found_length : (l : List Found) (f : ℕ → Option (List ℕ)) (n : ℕ) → chain_lists l ≡ upto f n → length l ≡ n
found_length l f n e = sym (length-map l chain_list) ∙ ap length e ∙ upto_length f n

same_upto : (f g : ℕ → Option (List ℕ)) (a n : ℕ) → ((p : ℕ) → p < a + n → f p ≡ g p) → map f (range_with_len a n) ≡ map g (range_with_len a n)
same_upto f g a zero s = refl
same_upto f g a (suc n) s = (λ i. s a (omega arith) i ∷ same_upto f g (a + 1) n (λ p l. s p (omega arith)) i)

found_at : (f : ℕ → Option (List ℕ)) (n p : ℕ) (l : List (Option (List ℕ))) → l ≡ upto f n → p < n → at l p ≡ f p
found_at f n p l e k = ap (λ m. at m p) e ∙ upto_at f n p k

pub widened : (t : Holding) (child : Option ℕ) (n : ℕ) (l seen : List Found) (next : List (Option (List ℕ))) → chain_lists l ≡ upto (shortest t child n) t.size → seen ≡ l
    → next ≡ upto (wider t (at (chain_lists seen))) t.size → next ≡ upto (shortest t child (suc n)) t.size
widened t child n l seen next e s h = h ∙ same_upto (wider t (at (chain_lists seen))) (shortest t child (suc n)) 0 t.size
    (λ p k. wider_same t child (at (chain_lists seen)) (shortest t child n) (λ q m. found_at (shortest t child n) t.size q (chain_lists seen) (ap chain_lists s ∙ e) m) p (omega arith) ∙ wider_is t child n p)

pub all_found : (t : Holding) (child : Option ℕ) (n : ℕ) (l seen : List Found) (next : List (Option (List ℕ))) → chain_lists l ≡ upto (shortest t child n) t.size → seen ≡ l
    → next ≡ upto (wider t (at (chain_lists seen))) t.size → missing (chain_lists l) ≤ missing next → chain_lists l ≡ upto (λ p. chain_between t p child) t.size
all_found t child n l seen next e s h m =
    let a : missing (chain_lists l) ≡ missing (upto (shortest t child n) t.size) = ap missing e in
    let b : missing next ≡ missing (upto (shortest t child (suc n)) t.size) = ap missing (widened t child n l seen next e s h) in
    e ∙ same_upto (shortest t child n) (λ p. chain_between t p child) 0 t.size (λ p k. enough t child n (none_added t child n (omega (arith, a, b, m))) p (omega arith))
