-- The keywords of glue, with what comes behind them.
use Rattle.std.specs.Prelude.{ℕ, zero, suc, ◌+◌, ◌<◌, ◌≡◌, Bool, true, false, List, [], ◌∷◌, ◌++◌, length, get_or, drop, replicate}
use Rattle.std.proofs.Common.{refl, ap, ◌∙◌, arith, rules, length-append}
use Rattle.std.proofs.lemmas.List.{length-replicate}
use Rattle.texml_scan.specs.declared.looks.Look.{Look}
use Rattle.texml_scan.specs.declared.looks.Look.TheVariants.{End, Character, Other}
use Rattle.texml_fixed.specs.declared.glue.Amount.{Amount}
use Rattle.texml_scan.specs.declared.glue.Part.TheVariants as part
use Rattle.texml_scan.specs.declared.glue.GlueScan.{GlueScan}
use Rattle.texml_scan.specs.Grammar.{Text, Gives, Wanting, Expanded, Decided, behind, verdict}
use Rattle.texml_scan.specs.Looks.{is_space}
use Rattle.texml_scan.specs.Keyword.{letters, is_letter}
use Rattle.texml_scan.specs.KeywordRest.{keyword_at}
use Rattle.texml_scan.specs.Glue.{plus, minus, plus_then, shrunk, minus_then, nothing}
use Rattle.texml_fixed.specs.Glue.{glue_of}
use Rattle.texml_fixed.specs.declared.scaled.Scaled.{Scaled}
use Rattle.texml_scan.specs.GlueRest.{glue_rest, plus_left, minus_left}
use Rattle.texml_scan.proofs.Letters.{keyword_wants, later}

-- of the list that a missing letter leaves only that counts which counts for what comes behind
letters_behind : {B : Type 0} (next : Bool → Text B) (cs : List ℕ) (v w xs : List Look) → verdict (next false v) ≡ verdict (next false w) →
    verdict (behind (letters cs v xs) next) ≡ verdict (behind (letters cs w xs) next)
letters_behind next [] v w xs e = refl
letters_behind next (c ∷ cs) v w [] e = refl
letters_behind next (c ∷ cs) v w (x ∷ xs) e = search (rules, letters_behind next cs v w xs e, e)

moved : (k : ℕ) (x : Look) (more : List Look) → length (replicate k End ++ x ∷ more) ≡ length (replicate (suc k) End ++ more)
moved k x more = search (arith, rules, length-append, length-replicate)

-- one letter more of minus
pub minus_next : (k : ℕ) (x : Look) (more : List Look) (w : Scaled) (a : Amount) →
    verdict (behind (letters (drop (k + 1) minus) (replicate k End ++ x ∷ more) more) (minus_then w a)) ≡ verdict (minus_left (k + 1) w a more)
minus_next k x more w a =
    let e : k + 1 ≡ suc k = omega arith in
    rw e (rw (later k) (letters_behind (minus_then w a) (drop (suc k) minus) (replicate k End ++ x ∷ more) (replicate (suc k) End ++ more) more
    (ap (Decided (glue_of w a nothing)) (moved k x more))))

-- p doesn't begin minus
p_not_m : (x : Look) → is_letter 112 x ≡ true → is_letter 109 x ≡ false
p_not_m End e = refl
p_not_m (Character d k) e = grind (arith, e)
p_not_m (Other d q) e = refl

no_minus : (x : Look) (more : List Look) (w : Scaled) → is_space x ≡ false → is_letter 109 x ≡ false →
    verdict (shrunk w nothing (x ∷ more)) ≡ Decided (glue_of w nothing nothing) (suc (length more))
no_minus x more w space letter = search (rules, space, letter)

agree : (k : ℕ) (x : Look) (more : List Look) (w : Scaled) → is_letter (get_or plus k 0) x ≡ true → (k ≡ 0 → is_space x ≡ false) →
    verdict (shrunk w nothing (replicate k End ++ x ∷ more)) ≡ verdict (shrunk w nothing (replicate (suc k) End ++ more))
agree zero x more w letter first = no_minus x more w (first refl) (p_not_m x letter)
agree (suc k) x more w letter first = ap (Decided (glue_of w nothing nothing)) (moved (suc k) x more)

-- one letter more of plus
pub plus_next : (k : ℕ) (x : Look) (more : List Look) (w : Scaled) → is_letter (get_or plus k 0) x ≡ true → (k ≡ 0 → is_space x ≡ false) →
    verdict (behind (letters (drop (k + 1) plus) (replicate k End ++ x ∷ more) more) (plus_then w)) ≡ verdict (plus_left (k + 1) w more)
plus_next k x more w letter first =
    let e : k + 1 ≡ suc k = omega arith in
    rw e (rw (later k) (letters_behind (plus_then w) (drop (suc k) plus) (replicate k End ++ x ∷ more) (replicate (suc k) End ++ more) more
    (agree k x more w letter first)))

-- no plus, and minus is looked for
pub no_plus : (k : ℕ) (x : Look) (more : List Look) (w : Scaled) → k ≡ 0 → keyword_at k plus (x ∷ more) ≡ Gives false (replicate k End ++ x ∷ more) →
    verdict (plus_left k w (x ∷ more)) ≡ verdict (shrunk w nothing (x ∷ more))
no_plus zero x more w first is = ap (λ r. verdict (behind r (plus_then w))) is
no_plus (suc k) x more w first is = grind (arith, first)

-- plus breaks off, so there is no minus
pub plus_breaks : (k : ℕ) (x : Look) (more : List Look) (w : Scaled) → 0 < k → keyword_at k plus (x ∷ more) ≡ Gives false (replicate k End ++ x ∷ more) →
    verdict (plus_left k w (x ∷ more)) ≡ Decided (glue_of w nothing nothing) (k + 1 + length more)
plus_breaks zero x more w later is = grind (arith, later)
plus_breaks (suc k) x more w later is =
    let count : length (replicate (suc k) End ++ x ∷ more) ≡ suc k + 1 + length more = search (arith, rules, length-append, length-replicate) in
    ap (λ r. verdict (behind r (plus_then w))) is ∙ ap (Decided (glue_of w nothing nothing)) count

-- what the keywords want
pub plus_wants : (s : GlueScan) → s.part ≡ part.Plus → s.plus_at < 4 → glue_rest s [] ≡ Wanting Expanded
plus_wants s is inside = rw is (ap (λ r. verdict (behind r (plus_then s.width))) (keyword_wants s.plus_at plus inside))

pub minus_wants : (s : GlueScan) → s.part ≡ part.Minus → s.minus_at < 5 → glue_rest s [] ≡ Wanting Expanded
minus_wants s is inside = rw is (ap (λ r. verdict (behind r (minus_then s.width s.stretch))) (keyword_wants s.minus_at minus inside))
