-- Children stay valid when they are trimmed and when a text comes before them.
use Rattle.std.proofs.Common.{◌≡◌, ◌∙◌, sym, ℕ, Bool, true, false, List, [], ◌∷◌, ◌++◌}
use Rattle.texml_model.specs.Rules.{Rules, VoidIsEmpty}
use Rattle.texml_tree.specs.Tree.{Tree, text, element, trees}
use Rattle.texml_build.specs.Trim.{texts, strip_start, strip_end, trim_first, trim_one, trim_after, trim_last, trimmed}
use Rattle.texml_build.specs.Matched.{joined}
use Rattle.texml_build.specs.Valid.{NotEmpty, NoText, Apart, VoidHasNone, ValidKids}

text_leads : (r : Rules) (p n : ℕ) (s : List ℕ) (rest : List Tree) → r.takes_text p ≡ true → NoText (trees rest) → ValidKids r p n (trees rest) → ValidKids r p n (trees (texts s ++ rest))
text_leads r p n [] rest a b h = h
text_leads r p n (c ∷ cs) rest a b h = ((a, tt), b, tt, h)

text_alone : (r : Rules) (p n : ℕ) (s : List ℕ) → r.takes_text p ≡ true → ValidKids r p n (trees (texts s))
text_alone r p n [] a = tt
text_alone r p n (c ∷ cs) a = ((a, tt), tt, tt, tt)

first_valid : (r : Rules) (p n : ℕ) (l : List Tree) → ValidKids r p n (trees l) → ValidKids r p n (trees (trim_first l))
first_valid r p n [] v = tt
first_valid r p n (text t ∷ rest) h = text_leads r p n (strip_start t) rest h.0.0 h.1 h.3
first_valid r p n (element h kids ∷ rest) v = v

one_valid : (r : Rules) (p n : ℕ) (x : Tree) → ValidKids r p n (trees (x ∷ [])) → ValidKids r p n (trees (trim_one x))
one_valid r p n (text t) h = text_alone r p n (strip_end t) h.0.0
one_valid r p n (element h kids) v = v

after_no_text : (y : Tree) (ys : List Tree) → NoText (trees (y ∷ ys)) → NoText (trees (trim_after y ys))
after_no_text (text t) ys h = absurd h
after_no_text (element h kids) [] v = tt
after_no_text (element h kids) (z ∷ zs) v = tt

after_apart : (x y : Tree) (ys : List Tree) → Apart x (trees (y ∷ ys)) → Apart x (trees (trim_after y ys))
after_apart (text t) y ys h = after_no_text y ys h
after_apart (element h kids) y ys v = tt

after_valid : (r : Rules) (p n : ℕ) (x : Tree) (ys : List Tree) → ValidKids r p n (trees (x ∷ ys)) → ValidKids r p n (trees (trim_after x ys))
after_valid r p n x [] h = one_valid r p n x h
after_valid r p n x (y ∷ ys) h = (h.0, after_apart x y ys h.1, h.2, after_valid r p n y ys h.3)

last_valid : (r : Rules) (p n : ℕ) (l : List Tree) → ValidKids r p n (trees l) → ValidKids r p n (trees (trim_last l))
last_valid r p n [] v = tt
last_valid r p n (x ∷ xs) h = after_valid r p n x xs h

pub trimmed_valid : (r : Rules) (p n : ℕ) (b : Bool) (l : List Tree) → ValidKids r p n (trees l) → ValidKids r p n (trees (trimmed b l))
trimmed_valid r p n false l h = h
trimmed_valid r p n true l h = last_valid r p n (trim_first l) (first_valid r p n l h)

longer : (t u : List ℕ) → NotEmpty u → NotEmpty (t ++ u)
longer [] u h = h
longer (c ∷ cs) u v = tt

pub joined_valid : (r : Rules) (p n : ℕ) (t : List ℕ) (l : List Tree) → r.takes_text p ≡ true → ValidKids r p n (trees l) → ValidKids r p n (trees (joined t l))
joined_valid r p n t [] a h = text_alone r p n t a
joined_valid r p n t (text u ∷ rest) a h = ((a, longer t u h.0.1), h.1, tt, h.3)
joined_valid r p n t (element h kids ∷ rest) a v = text_leads r p n t (element h kids ∷ rest) a tt v

-- a void element takes no child
pub void_none : (r : Rules) → VoidIsEmpty r → (e n : ℕ) (kids : List Tree) → ValidKids r e n (trees kids) → VoidHasNone r e (trees kids)
void_none r void e n [] v = tt
void_none r void e n (text t ∷ ts) v = λ q. let z : true ≡ false = sym v.0.0 ∙ void.no_text e q in absurd (cc)
void_none r void e n (element h kids ∷ ts) v = λ q. let z : true ≡ false = sym v.0 ∙ void.no_child e h.elem q in absurd (cc)
