-- Words that are read one after the other.
use Rattle.std.proofs.Common.{◌≡◌, ◌+◌, ◌<◌, ◌≤◌, ℕ, zero, suc, List, [], ◌∷◌, ◌++◌, ◌&&◌, Bool, length, take, drop, get_or, true, false, Option, None, Some, Ok, Err, IfSome, string_bytes, refl, sym, subst, ap, ◌∙◌, arith, add-one}
use Rattle.std.specs.Prelude.{nat_le}
use Rattle.std.proofs.Math.Seq.{take-suc}
use Rattle.std.proofs.lemmas.Bool.{ne_eqb, le-leb, lt-leb}
use Rattle.std.proofs.lemmas.List.{take_all}
use Rattle.std.proofs.lemmas.List.Folds.{list_all_at, list_all_more}
use Rattle.std.specs.List.{list_all}
use Rattle.std.specs.Str.{is_utf8}
use Rattle.std.specs.declared.alloc.Global.{Global}
use Rattle.std.specs.declared.string.String.{String}
use Rattle.std.specs.declared.env.FillError.TheVariants.{TooLong}
use Rattle.texml.specs.declared.words.WordsFault.{WordsFault}
use Rattle.texml.specs.declared.words.WordsFault.TheVariants.{NotText, NoMemory}
use Rattle.texml.specs.Words.{longest, is_readable, broken_at, unreadable, GivesWord, IsTextOf, IsTextAt, AreTextsOf}

-- what follows from words that are told
pub told : {P Q : List (List ℕ) → Type 0} (o : Option (List (List ℕ))) → ((ws : List (List ℕ)) → P ws → Q ws) → IfSome o P → IfSome o Q
told None follows h = tt
told (Some ws) follows h = follows ws h

-- the words behind the first
pub tail_at : (ws : List (List ℕ)) (at : ℕ) → get_or (drop 1 ws) at [] ≡ get_or ws (at + 1) []
tail_at [] at = refl
tail_at (w ∷ ws) at = rw add-one refl

pub tail_below : (ws : List (List ℕ)) (at : ℕ) → at + 1 < length ws → at < length (drop 1 ws)
tail_below [] at below = absurd (omega arith)
tail_below (w ∷ ws) at below = omega arith

pub tail_behind : (ws : List (List ℕ)) (at : ℕ) → length ws ≤ at + 1 → length (drop 1 ws) ≤ at
tail_behind [] at behind = omega arith
tail_behind (w ∷ ws) at behind = omega arith

and_first : (a b : Bool) → (a && b) ≡ true → a ≡ true
and_first true b both = refl
and_first false b both = both

both_true : (a b : Bool) → a ≡ true → b ≡ true → (a && b) ≡ true
both_true a b first second = rw (first, second) refl

first_false : (a b : Bool) → a ≡ false → (a && b) ≡ false
first_false a b first = rw first refl

second_false : (a b : Bool) → b ≡ false → (a && b) ≡ false
second_false true b second = second
second_false false b second = refl

-- a word that was given is a text
pub gives_text : (room word : List ℕ) (at count : ℕ) (text : String Global) → word ≡ take count room → length word ≤ longest → IsTextOf word at (Ok text)
    → (ws : List (List ℕ)) → GivesWord ws (at + 1) (Ok count) room → IsTextAt (drop 1 ws) at (Ok (Some text))
gives_text room word at count text cut short is ws given =
    let same : word ≡ get_or (drop 1 ws) at [] = cut ∙ given.1 ∙ sym (tail_at ws at) in
    let readable : is_readable word ≡ true = both_true (is_utf8 word) (nat_le (length word) longest) is.0 (le-leb (length word) longest short) in
    (tail_below ws at given.0, subst (λ w. is_readable w ≡ true) same readable, is.1 ∙ same)

-- a word that was given is none
pub gives_none : (room word : List ℕ) (at count : ℕ) (fault : WordsFault) → word ≡ take count room → IsTextOf word at (Err fault)
    → (ws : List (List ℕ)) → GivesWord ws (at + 1) (Ok count) room → IsTextAt (drop 1 ws) at (Err fault)
gives_none room word at count (NotText k) cut is ws given =
    let same : word ≡ get_or (drop 1 ws) at [] = cut ∙ given.1 ∙ sym (tail_at ws at) in
    let broken : is_readable word ≡ false = first_false (is_utf8 word) (nat_le (length word) longest) is.0 in
    (tail_below ws at given.0, subst (λ w. is_readable w ≡ false) same broken, is.1)
gives_none room word at count NoMemory cut is ws given = tt

-- a word is too long
pub too_long : (room : List ℕ) (at k : ℕ) → length room ≡ longest → k ≡ broken_at at
    → (ws : List (List ℕ)) → GivesWord ws (at + 1) (Err TooLong) room → IsTextAt (drop 1 ws) at (Err (NotText k))
too_long room at k size is ws given =
    let word = get_or ws (at + 1) [] in
    let long : nat_le (length word) longest ≡ false = lt-leb (length word) longest (subst (λ n. n < length word) size given.1) in
    (tail_below ws at given.0, rw tail_at (second_false (is_utf8 word) (nat_le (length word) longest) long), is)

-- one word can't be read, and each before it can
pub unreadable_at : (ws : List (List ℕ)) (at k : ℕ) → at < length ws → list_all is_readable (take at ws) ≡ true → is_readable (get_or ws at []) ≡ false
    → k ≡ broken_at at → unreadable ws ≡ Some k
unreadable_at [] at k below texts broken is = absurd (omega arith)
unreadable_at (w ∷ ws) zero k below texts broken is = rw broken (ap (λ n. Some n) (sym is))
unreadable_at (w ∷ ws) (suc at) k below texts broken is =
    let first : is_readable w ≡ true = and_first (is_readable w) (list_all is_readable (take at ws)) texts in
    let rest : list_all is_readable ws ≡ false = list_all_at is_readable ws at [] (omega arith) broken in
    let two : k ≡ 2 = rw (ne_eqb (suc at) 0 (λ e. cc)) at is in
    rw (first, rest) (ap (λ n. Some n) (sym two))

-- the words before a place were read as these texts
abbrev pub AreBefore : List (List ℕ) → ℕ → List (List ℕ) → Type 0
AreBefore texts at words = (texts ≡ take at (drop 1 words)) × (list_all is_readable (take at (drop 1 words)) ≡ true)

pub told_two : {P Q R : List (List ℕ) → Type 0} (o : Option (List (List ℕ))) → ((ws : List (List ℕ)) → P ws → Q ws → R ws) → IfSome o P → IfSome o Q → IfSome o R
told_two None follows h i = tt
told_two (Some ws) follows h i = follows ws h i

pub none_before : (o : Option (List (List ℕ))) → IfSome o (AreBefore [] 0)
none_before None = tt
none_before (Some ws) = (refl, refl)

-- the word at a place can't be read
pub fails : (texts : List (List ℕ)) (at : ℕ) (fault : WordsFault) → (ws : List (List ℕ)) → AreBefore texts at ws → IsTextAt (drop 1 ws) at (Err fault)
    → AreTextsOf (drop 1 ws) (Err fault)
fails texts at (NotText k) ws was h = unreadable_at (drop 1 ws) at k h.0 was.1 h.1 h.2
fails texts at NoMemory ws was h = tt

-- one word more was read
pub more : (texts now : List (List ℕ)) (at : ℕ) (text : String Global) → now ≡ texts ++ string_bytes text ∷ []
    → (ws : List (List ℕ)) → AreBefore texts at ws → IsTextAt (drop 1 ws) at (Ok (Some text)) → AreBefore now (at + 1) ws
more texts now at text pushed ws was h = (
  pushed ∙ ap (λ w. texts ++ w ∷ []) h.2 ∙ rw (add-one, take-suc (drop 1 ws) at [] h.0) (ap (λ l. l ++ get_or (drop 1 ws) at [] ∷ []) was.0),
  rw (list_all_more is_readable (drop 1 ws) at [] h.0, was.1, h.1) refl,
)

-- no word is left
pub all_read : (texts : List (List ℕ)) (at : ℕ) (found : Option (String Global)) → found ≡ None
    → (ws : List (List ℕ)) → AreBefore texts at ws → IsTextAt (drop 1 ws) at (Ok found) → texts ≡ drop 1 ws
all_read texts at found is ws was h = was.0 ∙ take_all at (drop 1 ws) (subst (λ o. IsTextAt (drop 1 ws) at (Ok o)) is h)
