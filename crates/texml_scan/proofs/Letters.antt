-- Keywords, letter by letter.
use Rattle.std.specs.Prelude.{ℕ, zero, suc, ◌+◌, ◌<◌, ◌≡◌, true, false, List, [], ◌∷◌, ◌++◌, length, get_or, drop, replicate, if◌then◌else◌, ◌==◌}
use Rattle.std.proofs.Common.{refl, ap, ◌∙◌, arith, rules, drop-cons, length-append}
use Rattle.std.proofs.lemmas.List.{length-replicate}
use Rattle.std.proofs.Math.Seq.{drop-length}
use Rattle.texml_scan.specs.declared.looks.Look.{Look}
use Rattle.texml_scan.specs.declared.looks.Look.TheVariants.{End}
use Rattle.texml_scan.specs.Grammar.{Gives, Wants, Expanded, Decided, verdict}
use Rattle.texml_scan.specs.Looks.{is_space}
use Rattle.texml_scan.specs.Keyword.{letters, is_letter}
use Rattle.texml_scan.specs.KeywordRest.{keyword_at}

pub later : (k : ℕ) → (suc k == 0) ≡ false
later k = grind arith

-- of the list that a missing letter leaves only the length counts
pub letters_same : (cs : List ℕ) (v w xs : List Look) → length v ≡ length w → verdict (letters cs v xs) ≡ verdict (letters cs w xs)
letters_same [] v w xs e = refl
letters_same (c ∷ cs) v w [] e = refl
letters_same (c ∷ cs) v w (x ∷ xs) e = search (rules, letters_same cs v w xs e, e)

-- one letter
pub letters_step : (cs : List ℕ) (k : ℕ) (whole : List Look) (x : Look) (more : List Look) → k < length cs →
    letters (drop k cs) whole (x ∷ more) ≡ (if is_letter (get_or cs k 0) x then letters (drop (k + 1) cs) whole more else Gives false whole)
letters_step cs k whole x more inside =
    let e : k + 1 ≡ suc k = omega arith in
    rw (drop-cons cs k 0 inside) (rw e refl)

-- the letters are looked for from the first one on
pub at_letters : (k : ℕ) (cs : List ℕ) (x : Look) (more : List Look) → (k ≡ 0 → is_space x ≡ false) →
    keyword_at k cs (x ∷ more) ≡ letters (drop k cs) (replicate k End ++ x ∷ more) (x ∷ more)
at_letters zero cs x more none = let n : is_space x ≡ false = none refl in search (rules, n)
at_letters (suc k) cs x more none = rw (later k) refl

-- a letter in its place, or another look
pub letter_is : (k : ℕ) (cs : List ℕ) (x : Look) (more : List Look) → k < length cs → (k ≡ 0 → is_space x ≡ false) →
    keyword_at k cs (x ∷ more) ≡
    (if is_letter (get_or cs k 0) x then letters (drop (k + 1) cs) (replicate k End ++ x ∷ more) more else Gives false (replicate k End ++ x ∷ more))
letter_is k cs x more inside none = at_letters k cs x more none ∙ letters_step cs k (replicate k End ++ x ∷ more) x more inside

pub skipped_is : (k : ℕ) (cs : List ℕ) (x : Look) (more : List Look) → k ≡ 0 → is_space x ≡ true → keyword_at k cs (x ∷ more) ≡ keyword_at k cs more
skipped_is zero cs x more first space = search (rules, space)
skipped_is (suc k) cs x more first space = grind (arith, first)

pub missing_is : (k : ℕ) (cs : List ℕ) (x : Look) (more : List Look) → k < length cs → (k ≡ 0 → is_space x ≡ false) → is_letter (get_or cs k 0) x ≡ false →
    keyword_at k cs (x ∷ more) ≡ Gives false (replicate k End ++ x ∷ more)
missing_is k cs x more inside none not = letter_is k cs x more inside none ∙ rw not refl

pub next_is : (k : ℕ) (cs : List ℕ) (x : Look) (more : List Look) → k < length cs → (k ≡ 0 → is_space x ≡ false) → is_letter (get_or cs k 0) x ≡ true →
    keyword_at k cs (x ∷ more) ≡ letters (drop (k + 1) cs) (replicate k End ++ x ∷ more) more
next_is k cs x more inside none fits = letter_is k cs x more inside none ∙ rw fits refl

pub whole_is : (k : ℕ) (cs : List ℕ) (w more : List Look) → k + 1 ≡ length cs → letters (drop (k + 1) cs) w more ≡ Gives true more
whole_is k cs w more e = rw e (rw (drop-length cs) refl)

-- what a keyword wants
pub keyword_wants : (k : ℕ) (cs : List ℕ) → k < length cs → keyword_at k cs [] ≡ Wants Expanded
keyword_wants zero cs inside = refl
keyword_wants (suc k) cs inside = rw (later k) (rw (drop-cons cs (suc k) 0 inside) refl)

-- one letter more was seen
pub next_says : (k : ℕ) (cs : List ℕ) (x : Look) (more : List Look) →
    verdict (letters (drop (k + 1) cs) (replicate k End ++ x ∷ more) more) ≡ verdict (keyword_at (k + 1) cs more)
next_says k cs x more =
    let e : k + 1 ≡ suc k = omega arith in
    let same : length (replicate k End ++ x ∷ more) ≡ length (replicate (suc k) End ++ more) = search (arith, rules, length-append, length-replicate) in
    rw e (rw (later k) (letters_same (drop (suc k) cs) (replicate k End ++ x ∷ more) (replicate (suc k) End ++ more) more same))

-- at the end the keyword isn't there
pub keyword_ends : (k : ℕ) (cs : List ℕ) → k < length cs → verdict (keyword_at k cs (End ∷ [])) ≡ Decided false (k + 1 + 0)
keyword_ends k cs inside =
    let same : length (replicate k End ++ End ∷ []) ≡ k + 1 + 0 = search (arith, rules, length-append, length-replicate) in
    ap verdict (missing_is k cs End [] inside (λ _. refl) refl) ∙ ap (Decided false) same
