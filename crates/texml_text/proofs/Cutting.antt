-- The first line of bytes.
use Rattle.std.proofs.Common.{◌≡◌, ℕ, zero, suc, ◌+◌, ◌-◌, ◌<◌, ◌≤◌, List, [], ◌∷◌, ◌++◌, length, get_or, take, drop, ◌==◌, cond, ◌&&◌, ◌||◌, true, false, Bool, refl, sym, ap, ◌∙◌, arith, inl, inr, take-append-drop, None, Some, subst, length-take, append_assoc, append-nil, add-one}
use Rattle.std.proofs.lemmas.Bool.{ne_eqb, cases_eq, eqb-true, cases_lt, lt-ltb}
use Rattle.std.specs.List.{position, position_or_len}
use Rattle.std.proofs.lemmas.List.{take_rest, length-take-le}
use Rattle.std.proofs.lemmas.List.Sums.{fails_before_first}
use Rattle.std.proofs.lemmas.List.Quantifiers.{position-Some}
use Rattle.std.proofs.Math.Seq.{drop-cons, drop-length}
use Rattle.std.specs.Str.Lines.{strip_carriage_return}
use Rattle.texml_text.specs.File.{row, last_row, rows_behind, begins_with_mark}
use Rattle.texml_text.specs.Reader.{has_feed, past_line}
use Rattle.texml_text.specs.Inside.{IsWhole, Cuts, CutsNone}

-- no byte at the front is a line feed
front_no_feed : (x : ℕ) (xs : List ℕ) → has_feed (x ∷ xs) ≡ false → (x == 10) ≡ false
front_no_feed x xs h = by (x == 10) h
  where
    by : (b : Bool) → (b || has_feed xs) ≡ false → b ≡ false
    by true h = h
    by false h = refl

rest_no_feed : (x : ℕ) (xs : List ℕ) → has_feed (x ∷ xs) ≡ false → has_feed xs ≡ false
rest_no_feed x xs h = by (x == 10) h
  where
    by : (b : Bool) → (b || has_feed xs) ≡ false → has_feed xs ≡ false
    by true h = cc
    by false h = h

-- a line up to a line feed
rows_feed : (line xs rest : List ℕ) → has_feed xs ≡ false
    → rows_behind line (xs ++ 10 ∷ rest) ≡ row (strip_carriage_return (line ++ xs)) (length (line ++ xs) + 1) ∷ rows_behind [] rest
rows_feed line [] rest h = ap (λ l. row (strip_carriage_return l) (length l + 1) ∷ rows_behind [] rest) (sym (append-nil line))
rows_feed line (x ∷ xs) rest h =
    rw (front_no_feed x xs h) (rows_feed (line ++ x ∷ []) xs rest (rest_no_feed x xs h)
    ∙ ap (λ l. row (strip_carriage_return l) (length l + 1) ∷ rows_behind [] rest) (append_assoc line (x ∷ []) xs))

-- bytes without a line feed are the last line
rows_last : (line xs : List ℕ) → has_feed xs ≡ false → rows_behind line xs ≡ last_row (line ++ xs)
rows_last line [] h = ap last_row (sym (append-nil line))
rows_last line (x ∷ xs) h =
    rw (front_no_feed x xs h) (rows_last (line ++ x ∷ []) xs (rest_no_feed x xs h) ∙ ap last_row (append_assoc line (x ∷ []) xs))

length_strip_by : (b : Bool) (l : List ℕ) (n : ℕ) → length (cond b (take n l) l) ≤ length l
length_strip_by true l n = omega (arith, length-take n l)
length_strip_by false l n = omega arith

length_strip : (l : List ℕ) → length (strip_carriage_return l) ≤ length l
length_strip l = length_strip_by _ l (length l - 1)

-- a search for a line feed that finds none
no_feed_by : (xs : List ℕ) → ((k : ℕ) → k < length xs → (get_or xs k 0 == 10) ≡ false) → has_feed xs ≡ false
no_feed_by [] h = refl
no_feed_by (x ∷ xs) h = rw (h 0 (omega arith)) (no_feed_by xs (λ k lt. h (suc k) (omega arith)))

pub no_feed_found : (xs : List ℕ) → position (λ c. c == 10) xs ≡ None → has_feed xs ≡ false
no_feed_found xs e =
    elim (cases_lt (position_or_len (λ c. c == 10) xs) (length xs)) [
      | inl found ↦ let h = rw (lt-ltb _ _ found) at e in cc
      | inr all ↦ no_feed_by xs (λ k lt. fails_before_first (λ c. c == 10) xs k 0 (omega arith))
    ]

no_feed_before : (xs : List ℕ) (i : ℕ) → i ≤ length xs → ((k : ℕ) → k < i → (get_or xs k 0 == 10) ≡ false) → has_feed (take i xs) ≡ false
no_feed_before xs zero le h = refl
no_feed_before [] (suc i) le h = refl
no_feed_before (x ∷ xs) (suc i) le h = rw (h 0 (omega arith)) (no_feed_before xs i (omega arith) (λ k lt. h (suc k) (omega arith)))

-- bytes behind the first line
pub past_none : (xs : List ℕ) → has_feed xs ≡ false → past_line xs ≡ 0
past_none [] h = refl
past_none (x ∷ xs) h = rw (front_no_feed x xs h) (past_none xs (rest_no_feed x xs h))

pub past_append : (xs ys : List ℕ) → has_feed xs ≡ false → past_line (xs ++ ys) ≡ past_line ys
past_append [] ys h = refl
past_append (x ∷ xs) ys h = rw (front_no_feed x xs h) (past_append xs ys (rest_no_feed x xs h))

-- little stands behind the first line of bytes that had none before the last piece
pub little_kept : (xs ys : List ℕ) → ys ≡ xs → has_feed xs ≡ false → past_line ys ≤ 4096
little_kept xs ys is h = subst (λ l. past_line l ≤ 4096) (sym is) (rw (past_none xs h) (omega arith))

pub little_more : (xs ys piece after : List ℕ) → ys ≡ xs → has_feed xs ≡ false → after ≡ ys ++ piece → past_line piece ≤ 4096 → past_line after ≤ 4096
little_more xs ys piece after is h more le =
    subst (λ l. past_line l ≤ 4096) (sym (more ∙ ap (λ l. l ++ piece) is)) (rw (past_append xs piece h) le)

past_by : (b : Bool) (x : ℕ) (xs : List ℕ) → past_line xs ≤ length xs → cond b (length xs) (past_line xs) ≤ length (x ∷ xs)
past_by true x xs h = omega arith
past_by false x xs h = omega arith

pub past_length : (xs : List ℕ) → past_line xs ≤ length xs
past_length [] = omega arith
past_length (x ∷ xs) = past_by (x == 10) x xs (past_length xs)

module _ (xs : List ℕ) (i : ℕ) (e : position (λ c. c == 10) xs ≡ Some i) where
  within : i < length xs
  within = (position-Some (λ c. c == 10) xs i 0 e).0

  before : has_feed (take i xs) ≡ false
  before = no_feed_before xs i (omega (arith, within)) (position-Some (λ c. c == 10) xs i 0 e).2

  whole : xs ≡ take i xs ++ 10 ∷ drop (suc i) xs
  whole =
      sym (take-append-drop i xs)
      ∙ ap (λ d. take i xs ++ d) (drop-cons xs i 0 within ∙ ap (λ c. c ∷ drop (suc i) xs) (eqb-true _ _ (position-Some (λ c. c == 10) xs i 0 e).1))

  lines_behind : (more : List ℕ) → rows_behind [] (xs ++ more) ≡ row (strip_carriage_return (take i xs)) (i + 1) ∷ rows_behind [] (drop (suc i) xs ++ more)
  lines_behind more =
      ap (λ l. rows_behind [] (l ++ more)) whole
      ∙ ap (rows_behind []) (append_assoc (take i xs) (10 ∷ drop (suc i) xs) more)
      ∙ rows_feed [] (take i xs) (drop (suc i) xs ++ more) before
      ∙ ap (λ n. row (strip_carriage_return (take i xs)) (n + 1) ∷ rows_behind [] (drop (suc i) xs ++ more)) (length-take-le i xs (omega (arith, within)))

  -- a line that ends at a line feed
  pub cuts_feed : (line : List ℕ) → line ≡ strip_carriage_return (take i xs) → Cuts false xs line (i + 1)
  cuts_feed line is = record {
    within = omega (arith, within);
    shorter = subst (λ l. length l ≤ i + 1) (sym is) (omega (arith, length_strip (take i xs), length-take-le i xs (omega (arith, within))));
    some = omega arith;
    behind = rw add-one (subst (λ l. length (drop (suc i) xs) ≤ past_line l) (sym whole) (omega (arith, past_append (take i xs) (10 ∷ drop (suc i) xs) before)));
    rows = λ more w. rw (add-one, is) (rw add-one at (lines_behind more));
  }

-- a last line without a line feed
pub cuts_all : (xs : List ℕ) → (length xs == 0) ≡ false → position (λ c. c == 10) xs ≡ None → Cuts false xs xs (length xs)
cuts_all [] some e = cc
cuts_all (x ∷ xs) some e =
    let none = no_feed_found (x ∷ xs) e in
    let gone : drop (length (x ∷ xs)) (x ∷ xs) ≡ [] = drop-length (x ∷ xs) in
    record {
      within = omega arith;
      shorter = omega arith;
      some = omega arith;
      behind = rw gone (omega arith);
      rows = λ more w.
          subst (λ m. rows_behind [] ((x ∷ xs) ++ m) ≡ row (x ∷ xs) (length (x ∷ xs)) ∷ rows_behind [] (drop (length (x ∷ xs)) (x ∷ xs) ++ m)) (sym (w none))
          (ap (rows_behind []) (append-nil (x ∷ xs)) ∙ rows_last [] (x ∷ xs) none ∙ ap (λ l. row (x ∷ xs) (length (x ∷ xs)) ∷ rows_behind [] (l ++ [])) (sym gone));
    }

pub cuts_nothing : (fresh : Bool) → CutsNone fresh []
cuts_nothing true = record { few = omega arith; no_feed = refl; rows = refl }
cuts_nothing false = record { few = omega arith; no_feed = refl; rows = refl }

-- the bytes of a mark
and_left : (a b : Bool) → (a && b) ≡ true → a ≡ true
and_left true b h = refl
and_left false b h = h

and_right : (a b : Bool) → (a && b) ≡ true → b ≡ true
and_right true b h = h
and_right false b h = cc

marked : (a b c : ℕ) (xs : List ℕ) → begins_with_mark (a ∷ b ∷ c ∷ xs) ≡ true → (a ≡ 239) × (b ≡ 187) × (c ≡ 191)
marked a b c xs h =
    let ab = and_left (a == 239 && b == 187) (c == 191) h in
    (eqb-true a 239 (and_left (a == 239) (b == 187) ab), eqb-true b 187 (and_right (a == 239) (b == 187) ab), eqb-true c 191 (and_right (a == 239 && b == 187) (c == 191) h))

-- bytes behind a mark
module _ (P : List ℕ → Type 0) (known : (xs : List ℕ) → P (239 ∷ 187 ∷ 191 ∷ xs)) where
  by_mark : (xs : List ℕ) → begins_with_mark xs ≡ true → P xs
  by_mark [] h = cc
  by_mark (a ∷ []) h = cc
  by_mark (a ∷ b ∷ []) h = cc
  by_mark (a ∷ b ∷ c ∷ xs) h =
      let m = marked a b c xs h in
      subst (λ k. P (k ∷ b ∷ c ∷ xs)) (sym m.0) (subst (λ k. P (239 ∷ k ∷ c ∷ xs)) (sym m.1) (subst (λ k. P (239 ∷ 187 ∷ k ∷ xs)) (sym m.2) (known xs)))

pub cuts_marked : (xs line : List ℕ) (size : ℕ) → begins_with_mark xs ≡ true → Cuts false (drop 3 xs) line size → Cuts true xs line (3 + size)
cuts_marked xs line size h =
    by_mark (λ l. Cuts false (drop 3 l) line size → Cuts true l line (3 + size)) (λ l c. record {
      within = let le = c.within in omega arith;
      shorter = let le = c.shorter in omega arith;
      some = omega arith;
      behind = rw add3 c.behind;
      rows = λ more w. rw (c.rows more w) (ap (λ n. row line (3 + size) ∷ rows_behind [] (drop n (239 ∷ 187 ∷ 191 ∷ l) ++ more)) (sym add3));
    }) xs h
  where
    add3 : 3 + size ≡ suc (suc (suc size))
    add3 = omega arith

pub cuts_mark : (xs : List ℕ) → begins_with_mark xs ≡ true → CutsNone false (drop 3 xs) → CutsNone true xs
cuts_mark xs h =
    by_mark (λ l. CutsNone false (drop 3 l) → CutsNone true l) (λ l c. record {
      few = let le = c.few in omega arith;
      no_feed = c.no_feed;
      rows = rw c.rows refl;
    }) xs h

-- no mark stands before
no_mark : (xs more : List ℕ) → 1 ≤ length xs → begins_with_mark xs ≡ false → IsWhole xs more → begins_with_mark (xs ++ more) ≡ false
no_mark [] more some h w = absurd (omega arith)
no_mark (a ∷ b ∷ c ∷ xs) more some h w = h
no_mark (a ∷ []) [] some h w = refl
no_mark (a ∷ []) (m ∷ []) some h w = refl
no_mark (a ∷ []) (m ∷ n ∷ more) some h w =
    elim (cases_eq a 10) [
      | inl e ↦ rw e refl
      | inr ne ↦ let gone : m ∷ n ∷ more ≡ [] = w (rw (ne_eqb a 10 ne) refl) in cc
    ]
no_mark (a ∷ b ∷ []) [] some h w = refl
no_mark (a ∷ b ∷ []) (m ∷ more) some h w =
    elim (cases_eq a 10) [
      | inl e ↦ rw e refl
      | inr ne ↦ elim (cases_eq b 10) [
        | inl f ↦ rw f (by (a == 239) (m == 191))
        | inr nf ↦ let gone : m ∷ more ≡ [] = w (rw (ne_eqb a 10 ne, ne_eqb b 10 nf) refl) in cc
      ]
    ]
  where
    by : (b c : Bool) → ((b && false) && c) ≡ false
    by true c = refl
    by false c = refl

pub cuts_plain : (fresh : Bool) (xs line : List ℕ) (size : ℕ) → (fresh && begins_with_mark xs) ≡ false → Cuts false xs line size → Cuts fresh xs line size
cuts_plain false xs line size h c = c
cuts_plain true xs line size h c = record {
  within = c.within;
  shorter = c.shorter;
  some = c.some;
  behind = c.behind;
  rows = λ more w. rw (no_mark xs more (let a = c.some in let b = c.within in omega arith) h w) (c.rows more w);
}

pub cuts_none : (fresh : Bool) (xs : List ℕ) → (fresh && begins_with_mark xs) ≡ false → CutsNone false xs → CutsNone fresh xs
cuts_none false xs h c = c
cuts_none true xs h c = record { few = let le = c.few in omega arith; no_feed = c.no_feed; rows = rw h c.rows }

-- the bytes behind a mark, as code has them
pub cuts_behind_mark : (xs line : List ℕ) (size : ℕ) → begins_with_mark xs ≡ true → Cuts false (take (length xs - 3) (drop 3 xs)) line size → Cuts true xs line (3 + size)
cuts_behind_mark xs line size h c = cuts_marked xs line size h (subst (λ l. Cuts false l line size) (take_rest xs 3) c)

pub cuts_mark_alone : (xs : List ℕ) → begins_with_mark xs ≡ true → CutsNone false (take (length xs - 3) (drop 3 xs)) → CutsNone true xs
cuts_mark_alone xs h c = cuts_mark xs h (subst (CutsNone false) (take_rest xs 3) c)

pub ruleset cutting = (cuts_all, cuts_feed, cuts_nothing)

pub ruleset marking = (cuts_behind_mark, cuts_mark_alone, cuts_plain, cuts_none)
