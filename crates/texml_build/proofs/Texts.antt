-- Texts that go on.
use Rattle.std.proofs.Common.{◌≡◌, ◌∙◌, ap, sym, refl, subst, ℕ, zero, suc, ◌<◌, true, List, [], ◌∷◌, ◌++◌, length, Some, None, Ok, Err, if◌then◌else◌, append_assoc, append-nil, arith}
use Rattle.std.specs.Option.{option_or}
use Rattle.std.specs.Prelude.{codes}
use Rattle.texml_tree.specs.declared.table.Elements.{Elements}
use Rattle.texml_tree.specs.declared.ops.Op.{Op}
use Rattle.texml_tree.specs.declared.ops.Op.TheVariants.{Text, Space}
use Rattle.texml_tree.specs.Tree.{Tree, text, element}
use Rattle.texml_model.specs.Chain.{Holding, chain_of, shortest, chain_between}
use Rattle.texml_model.specs.Rules.{Rules, IsContentModel, holding_in, rules_of}
use Rattle.texml_build.specs.Brackets.{Bracket, word, Outcome, Doing, behind, next, innermost, say, fit_or, fit, place, place_by, step, steps, end_all, root_of}
use Rattle.texml_build.specs.Matched.{Levels, first, others, joined, root_beginning, whole, before, all_before, built, built_by}
use Rattle.texml_build.specs.Trim.{texts}
use Rattle.texml_build.specs.Texts.{TextsGoOn}
use Rattle.texml_build.proofs.Lawful.{TextReady, place_text, model_of, before_append}

-- Outcomes that lead to the same tree and the same path

abbrev Alike : Rules → Outcome → Outcome → Type 0
Alike r (Err f) (Err g) = f ≡ g
Alike r (Ok a) (Ok b) = (a.1 ≡ b.1) × ((ls : Levels) → all_before r a.0 ls ≡ all_before r b.0 ls)
Alike r x y = ⊥

alike_refl : (r : Rules) (x : Outcome) → Alike r x x
alike_refl r (Err f) = refl
alike_refl r (Ok o) = (refl, λ ls. refl)

alike_behind : (r : Rules) (a b : List Bracket) (x y : Outcome) → ((ls : Levels) → all_before r a ls ≡ all_before r b ls) → Alike r x y → Alike r (behind a x) (behind b y)
alike_behind r a b (Err f) (Err g) e h = h
alike_behind r a b (Err f) (Ok o) e h = h
alike_behind r a b (Ok o) (Err g) e h = h
alike_behind r a b (Ok o) (Ok u) e h = (h.0, λ ls. before_append r a o.0 ls ∙ e (all_before r o.0 ls) ∙ ap (all_before r b) (h.1 ls) ∙ sym (before_append r b u.0 ls))

alike_next : (r : Rules) (x y : Outcome) (f : Doing) → Alike r x y → Alike r (next x f) (next y f)
alike_next r (Err f) (Err g) d h = h
alike_next r (Err f) (Ok o) d h = absurd h
alike_next r (Ok o) (Err g) d h = absurd h
alike_next r (Ok a) (Ok b) d h = subst (λ (p : List ℕ). Alike r (behind a.0 (d a.1)) (behind b.0 (d p))) h.0 (alike_behind r a.0 b.0 (d a.1) (d a.1) h.1 (alike_refl r (d a.1)))

alike_then : (r : Rules) (x : Outcome) (f g : Doing) → ((path : List ℕ) → Alike r (f path) (g path)) → Alike r (next x f) (next x g)
alike_then r (Err e) f g h = refl
alike_then r (Ok o) f g h = alike_behind r o.0 o.0 (f o.1) (g o.1) (λ ls. refl) (h o.1)

alike_steps : (r : Rules) (ops a b : List Op) → ((path : List ℕ) → Alike r (steps r a path) (steps r b path)) → (path : List ℕ) → Alike r (steps r (ops ++ a) path) (steps r (ops ++ b) path)
alike_steps r [] a b h path = h path
alike_steps r (o ∷ ops) a b h path = alike_then r (step r o path) (steps r (ops ++ a)) (steps r (ops ++ b)) (alike_steps r ops a b h)

alike_built : (r : Rules) (x y : Outcome) → Alike r x y → built_by r x ≡ built_by r y
alike_built r (Err f) (Err g) h = ap Err h
alike_built r (Err f) (Ok o) h = absurd h
alike_built r (Ok o) (Err g) h = absurd h
alike_built r (Ok a) (Ok b) h = ap (λ ls. Ok (whole r (root_beginning r) (first ls))) (h.1 [])

-- A text and one behind it

texts_some : (t : List ℕ) (c : ℕ) (cs : List ℕ) → texts (t ++ c ∷ cs) ≡ text (t ++ c ∷ cs) ∷ []
texts_some [] c cs = refl
texts_some (x ∷ t) c cs = refl

joined_twice : (t u : List ℕ) (kids : List Tree) → joined t (joined u kids) ≡ joined (t ++ u) kids
joined_twice t [] [] = ap texts (sym (append-nil t))
joined_twice t (c ∷ cs) [] = sym (texts_some t c cs)
joined_twice t u (text v ∷ rest) = ap (λ x. text x ∷ rest) (sym (append_assoc t u v))
joined_twice t [] (element h kids ∷ rest) = ap (λ x. texts x ++ element h kids ∷ rest) (sym (append-nil t))
joined_twice t (c ∷ cs) (element h kids ∷ rest) = ap (λ l. l ++ element h kids ∷ rest) (sym (texts_some t c cs))

word_twice : (r : Rules) (t u : List ℕ) (ls : Levels) → before r (word t) (before r (word u) ls) ≡ before r (word (t ++ u)) ls
word_twice r t u ls = ap (λ k. record { sets = (first ls).sets; marks = (first ls).marks; kids = k } ∷ others ls) (joined_twice t u (first ls).kids)

-- Texts have their place where texts are taken

direct : (h : Holding) (p n : ℕ) → h.takes_text p ≡ true → shortest h None n p ≡ Some []
direct h p zero e = ap (λ b. if b then Some [] else None) e
direct h p (suc n) e = ap (λ o. option_or o (chain_of h None (suc n) p)) (direct h p n e)

text_direct : (t : Elements) (p : ℕ) → (rules_of t).takes_text p ≡ true → (rules_of t).chain p None ≡ Some []
unfolding rules_of chain_between
text_direct t p e = direct (holding_in t) p (holding_in t).size e

-- one more text, or a space, where texts are taken
pub record SaysOnly (r : Rules) (o : Op) (u : List ℕ) : Type 0 where
  pub says : (path : List ℕ) → 0 < length path → r.takes_text (innermost path) ≡ true → step r o path ≡ Ok (word u ∷ [], path)

says_text : (t : Elements) (u : List ℕ) → SaysOnly (rules_of t) (Text u) u
says_text t u = record { says = by }
  where
    by : (path : List ℕ) → 0 < length path → (rules_of t).takes_text (innermost path) ≡ true → step (rules_of t) (Text u) path ≡ Ok (word u ∷ [], path)
    by [] l h = absurd (omega arith)
    by (p ∷ ps) l h = ap (λ o. next (place_by (rules_of t) (fit_or o ((rules_of t).closes p) (fit (rules_of t) ps None)) None (p ∷ ps)) (say u)) (text_direct t p h)

says_space : (t : Elements) → SaysOnly (rules_of t) Space (codes " ")
says_space t = record { says = λ path l h. ap (λ b. if b then say (codes " ") path else Ok ([], path)) h }

-- A text, and what is said behind it

behind_text : (r : Rules) (o : Op) (t u : List ℕ) (ops : List Op) (x : Outcome) → SaysOnly r o u → TextReady r x → Alike r (next (next x (say t)) (steps r (o ∷ ops))) (next (next x (say (t ++ u))) (steps r ops))
behind_text r o t u ops (Err f) says ready = refl
behind_text r o t u ops (Ok y) says ready =
    subst (λ (z : Outcome). Alike r (behind (y.0 ++ word t ∷ []) (next z (steps r ops))) (behind (y.0 ++ word (t ++ u) ∷ []) (steps r ops y.1))) (sym (says.says y.1 ready.0 ready.1))
    (by (steps r ops y.1))
  where
    by : (z : Outcome) → Alike r (behind (y.0 ++ word t ∷ []) (behind (word u ∷ []) z)) (behind (y.0 ++ word (t ++ u) ∷ []) z)
    by (Err f) = refl
    by (Ok z) = (
      refl,
      λ ls.
          before_append r (y.0 ++ word t ∷ []) (word u ∷ z.0) ls ∙ before_append r y.0 (word t ∷ []) (all_before r (word u ∷ z.0) ls) ∙ ap (all_before r y.0) (word_twice r t u (all_before r z.0 ls))
          ∙ sym (before_append r y.0 (word (t ++ u) ∷ []) (all_before r z.0 ls)) ∙ sym (before_append r (y.0 ++ word (t ++ u) ∷ []) z.0 ls),
    )

goes_on : (t : Elements) → IsContentModel t → (o : Op) (u : List ℕ) → SaysOnly (rules_of t) o u → (ops more : List Op) (s : List ℕ) → built (rules_of t) (ops ++ Text s ∷ o ∷ more) ≡ built (rules_of t) (ops ++ Text (s ++ u) ∷ more)
goes_on t model o u says ops more s =
    let r : Rules = rules_of t in let start : List ℕ = root_of r ∷ [] in
    alike_built r _ _ (alike_next r (steps r (ops ++ Text s ∷ o ∷ more) start) (steps r (ops ++ Text (s ++ u) ∷ more) start) (end_all r)
    (alike_steps r ops (Text s ∷ o ∷ more) (Text (s ++ u) ∷ more) (λ path. behind_text r o s u more (place r None path) says (place_text r (model_of t model) path)) start))

pub texts_go_on : TextsGoOn
texts_go_on t model ops more s u = (goes_on t model (Text u) u (says_text t u) ops more s, goes_on t model Space (codes " ") (says_space t) ops more s)
