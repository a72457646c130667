-- What taking a line leaves.
use Rattle.std.proofs.Common.{◌≡◌, ℕ, zero, suc, ◌+◌, ◌-◌, ◌*◌, ◌≤◌, Bool, true, false, cond, ◌&&◌, ◌==◌, IsTrue, List, [], ◌∷◌, ◌++◌, length, drop, refl, sym, ap, ◌∙◌, subst, arith, append_assoc, append-nil, length-append, length-drop, Option, Some, None, Ok, Err}
use Rattle.std.proofs.lemmas.Str.{chars-nil, IsUtf8-from_is_utf8}
use Rattle.std.proofs.lemmas.Bool.{false_from_ne_true}
use Rattle.std.specs.Str.{chars, IsUtf8, chars_after, continuation_len, lead_bits, is_utf8}
use Rattle.texml_base.specs.Outside.{Shelf}
use Rattle.texml_text.specs.Lines.{trim_end, end_codes, loaded}
use Rattle.texml_text.specs.File.{row, rows_of_rest}
use Rattle.texml_text.specs.Reader.{Reader, has_feed, rows_left, GivesLine, room, weight, first_size, Spends}
use Rattle.texml_text.specs.declared.reader.LineFault.TheVariants.{NotUtf8}
use Rattle.texml_text.specs.Inside.{Filled, Cuts, CutsNone, passed}

trim_by : (b : Bool) (c : ℕ) (cs xs : List ℕ) → length xs ≤ length cs → length (cond b [] (c ∷ xs)) ≤ length (c ∷ cs)
trim_by true c cs xs h = omega arith
trim_by false c cs xs h = omega arith

trim_end-length : (xs : List ℕ) → length (trim_end xs) ≤ length xs
trim_end-length [] = omega arith
trim_end-length (c ∷ cs) = trim_by (c == 32 && length (trim_end cs) == 0) c cs (trim_end cs) (trim_end-length cs)

end_codes-length : (end : Option ℕ) → length (end_codes end) ≤ 1
end_codes-length None = omega arith
end_codes-length (Some c) = omega arith

-- a line that is loaded has one character more at most
pub loaded-length : (end : Option ℕ) (text : List ℕ) → length (loaded end text) ≤ length text + 1
loaded-length end text = omega (arith, length-append (trim_end text) (end_codes end), trim_end-length text, end_codes-length end)

-- bytes have no more characters
chars_after-length : (n c : ℕ) (bs : List ℕ) → length (chars_after n c bs) ≤ 1 + length bs
chars_after-length zero c [] = omega arith
chars_after-length zero c (b ∷ bs) = let h = chars_after-length (continuation_len b) (lead_bits b) bs in omega arith
chars_after-length (suc n) c [] = omega arith
chars_after-length (suc n) c (b ∷ bs) = let h = chars_after-length n (c * 64 + (b - 128)) bs in omega arith

chars-cons : (b : ℕ) (bs : List ℕ) → chars (b ∷ bs) ≡ chars_after (continuation_len b) (lead_bits b) bs
unfolding chars
chars-cons b bs = refl

pub chars-length : (bs : List ℕ) → length (chars bs) ≤ length bs
chars-length [] = rw chars-nil (omega arith)
chars-length (b ∷ bs) = let h = chars_after-length (continuation_len b) (lead_bits b) bs in rw (chars-cons b bs) (omega arith)

pub utf8_not : (bs : List ℕ) → (IsUtf8 bs → ⊥) → is_utf8 bs ≡ false
utf8_not bs not = false_from_ne_true _ (λ e. not (IsUtf8-from_is_utf8 bs e))

-- a reader that holds other bytes
abbrev pub holding : Reader → List ℕ → Reader
holding r held = record { id = r.id; held = held; fresh = r.fresh; number = r.number; fault = r.fault }

row_text : (bytes : List ℕ) (size : ℕ) → is_utf8 bytes ≡ true → row bytes size ≡ record { text = Some (chars bytes); size = size }
row_text bytes size is = rw is refl

row_bad : (bytes : List ℕ) (size : ℕ) → is_utf8 bytes ≡ false → row bytes size ≡ record { text = None; size = size }
row_bad bytes size is = rw is refl

-- a reader was filled
module _ (a b : Shelf) (r : Reader) (held : List ℕ) (f : Filled a b r.id r.held held) where
  -- the lines left are those of what it holds now and of what is left now
  pub rows_filled : IsTrue a.tells → rows_left a r ≡ rows_of_rest r.fresh (held ++ b.left r.id)
  rows_filled told =
      ap (rows_of_rest r.fresh)
      (ap (λ l. r.held ++ l) (f.left told) ∙ sym (append_assoc r.held f.given (b.left r.id)) ∙ ap (λ l. l ++ b.left r.id) (sym f.held))

  length_filled : length held ≡ length r.held + length f.given
  length_filled = ap length f.held ∙ length-append r.held f.given

  -- there is no line
  module _ (whole : IsTrue a.tells → has_feed held ≡ false → b.left r.id ≡ []) (c : CutsNone r.fresh held) where
    pub no_rows : IsTrue a.tells → rows_of_rest r.fresh (held ++ b.left r.id) ≡ []
    no_rows told = ap (rows_of_rest r.fresh) (ap (λ l. held ++ l) (whole told c.no_feed) ∙ append-nil held) ∙ c.rows

  -- a line is taken
  module _ (whole : IsTrue a.tells → has_feed held ≡ false → b.left r.id ≡ []) (bytes : List ℕ) (size : ℕ) (c : Cuts r.fresh held bytes size) where
    pub rows_cut : IsTrue a.tells → rows_left a r ≡ row bytes size ∷ rows_left b (passed size (holding r held))
    rows_cut told = rows_filled told ∙ c.rows (b.left r.id) (whole told)

    pub gives_line : (end : Option ℕ) (line : List ℕ) → is_utf8 bytes ≡ true → line ≡ loaded end (chars bytes) → IsTrue a.tells
        → GivesLine end (rows_left a r) (Ok (Some line)) (rows_left b (passed size (holding r held)))
    gives_line end line is load told = (chars bytes, size, rows_cut told ∙ ap (λ x. x ∷ rows_left b (passed size (holding r held))) (row_text bytes size is), load)

    pub gives_bad : (end : Option ℕ) → is_utf8 bytes ≡ false → IsTrue a.tells → GivesLine end (rows_left a r) (Err NotUtf8) (rows_left b (passed size (holding r held)))
    gives_bad end is told = (size, rows_cut told ∙ ap (λ x. x ∷ rows_left b (passed size (holding r held))) (row_bad bytes size is))

    pub spends_line : IsTrue a.tells → Spends a b (length r.held) (first_size (rows_left a r)) (length (drop size held))
    spends_line told = record {
      given = length f.given;
      total = f.total told;
      balance =
          let loaded : first_size (rows_left a r) ≡ size = ap first_size (rows_cut told) in
          let le = c.within in
          rw loaded (omega (arith, length-drop size held, length_filled));
    }

    pub room_line : (line : List ℕ) (end : Option ℕ) → line ≡ loaded end (chars bytes) → room b (passed size (holding r held)) + weight (Some line) ≤ room a r
    room_line line end load =
        let short : length line ≤ length bytes + 1 = subst (λ l. length l ≤ length bytes + 1) (sym load) (omega (arith, loaded-length end (chars bytes), chars-length bytes)) in
        let within = c.within in
        let shorter = c.shorter in
        let some = c.some in
        let number = f.number in
        omega (arith, length-drop size held, length_filled)

  pub spends_none : IsTrue a.tells → Spends a b (length r.held) 0 (length held)
  spends_none told = record { given = length f.given; total = f.total told; balance = omega (arith, length_filled) }

  pub room_none : room b (holding r held) ≤ room a r
  room_none = let number = f.number in omega (arith, length_filled)

-- a reader that was filled, and then took a line
module _ (a b : Shelf) (r mid new : Reader) (bytes : List ℕ) (size : ℕ) (same : mid ≡ holding r mid.held) (f : Filled a b r.id r.held mid.held)
    (c : Cuts mid.fresh mid.held bytes size) (is : new ≡ passed size mid) where
  behind : new ≡ passed size (holding r mid.held)
  behind = is ∙ ap (passed size) same

  cuts : Cuts r.fresh mid.held bytes size
  cuts = subst (λ fresh. Cuts fresh mid.held bytes size) (ap (λ k. k.fresh) same) c

  module _ (whole : IsTrue a.tells → has_feed mid.held ≡ false → b.left r.id ≡ []) where
    pub line_given : (end : Option ℕ) (line : List ℕ) → is_utf8 bytes ≡ true → line ≡ loaded end (chars bytes) → IsTrue a.tells
        → GivesLine end (rows_left a r) (Ok (Some line)) (rows_left b new)
    line_given end line utf8 load told =
        subst (λ k. GivesLine end (rows_left a r) (Ok (Some line)) (rows_left b k)) (sym behind) (gives_line a b r mid.held f whole bytes size cuts end line utf8 load told)

    pub bad_given : (end : Option ℕ) → is_utf8 bytes ≡ false → IsTrue a.tells → GivesLine end (rows_left a r) (Err NotUtf8) (rows_left b new)
    bad_given end utf8 told =
        subst (λ k. GivesLine end (rows_left a r) (Err NotUtf8) (rows_left b k)) (sym behind) (gives_bad a b r mid.held f whole bytes size cuts end utf8 told)

    pub line_spends : IsTrue a.tells → Spends a b (length r.held) (first_size (rows_left a r)) (length new.held)
    line_spends told =
        subst (λ k. Spends a b (length r.held) (first_size (rows_left a r)) (length k.held)) (sym behind) (spends_line a b r mid.held f whole bytes size cuts told)

    pub line_room : (line : List ℕ) (end : Option ℕ) → line ≡ loaded end (chars bytes) → room b new + weight (Some line) ≤ room a r
    line_room line end load =
        subst (λ k. room b k + weight (Some line) ≤ room a r) (sym behind) (room_line a b r mid.held f whole bytes size cuts line end load)

-- a reader that was filled, and took nothing
pub rows_kept : (a b : Shelf) (r mid : Reader) → mid ≡ holding r mid.held → Filled a b r.id r.held mid.held → IsTrue a.tells → rows_left b mid ≡ rows_left a r
rows_kept a b r mid same f told = ap (rows_left b) same ∙ sym (rows_filled a b r mid.held f told)

-- the first line of a reader's bytes
pub cuts_at : (r : Reader) (fresh : Bool) (held line : List ℕ) (size : ℕ) → fresh ≡ r.fresh → held ≡ r.held → Cuts fresh held line size → Cuts r.fresh r.held line size
cuts_at r fresh held line size p q c = subst (λ k. Cuts k r.held line size) p (subst (λ k. Cuts fresh k line size) q c)
