-- Parameter texts and bodies: what the code reads is what the definitions say.
use Rattle.std.proofs.Common.{◌≡◌, ◌+◌, ◌-◌, ◌≤◌, ◌==◌, ◌&&◌, ℕ, Bool, true, false, if◌then◌else◌, List, [], ◌∷◌, ◌++◌, drop, get_or, ◌<◌, append_assoc, Option, Some, None, Result, Ok, Err, refl, sym, ap, ◌∙◌, subst, arith}
use Rattle.std.specs.Prelude.{nat_le, length}
use Rattle.std.specs.Option.{option_map}
use Rattle.std.specs.Result.{IfOk, OnOk}
use Rattle.std.proofs.lemmas.List.{map-append, at_drop_more, drop_all}
use Rattle.std.proofs.lemmas.List.Elements.{All-nil, All-cons, All-head, All-tail, All-push}
use Rattle.texml_token.specs.Token.{Token, Char, has_category}
use Rattle.texml_token.specs.declared.tokens.Token.{Token as TokenCode}
use Rattle.texml_token.specs.declared.tokens.Token.TheVariants as tokens
use Rattle.texml_token.specs.declared.pieces.PieceOf.{PieceOf}
use Rattle.texml_token.specs.declared.pieces.PieceOf.TheVariants.{Just, Slot}
use Rattle.texml_token.specs.Pieces.{AreNumberedFrom, slots_in}
use Rattle.texml_token.specs.Numbers.{Table, token_at, tokens_at, piece_at, TokenWithin, TokensWithin, PieceWithin, EndsNoGroup, BodyTokenWithin, BodyWithin}
use Rattle.texml_token.specs.declared.category.TheConstants.{BEGIN_GROUP, END_GROUP, PARAMETER, OTHER}
use Rattle.texml_token.specs.declared.fault_code.TheConstants.{BAD_PARAMETER, MISSING_BRACE}
use Rattle.texml_expand.specs.declared.stop.Stop.{Stop}
use Rattle.texml_expand.specs.declared.feeding.Verdict.{Verdict}
use Rattle.texml_expand.specs.declared.feeding.Verdict.TheVariants.{TooShort, Yields, Refuses}
use Rattle.texml_expand.specs.Held.{Held, Shrinks}
use Rattle.texml_base.specs.Outside.{Shelf}
use Rattle.texml_assign.proofs.Doing.{no_more}
use Rattle.texml_expand.specs.Feeding.{IsFed, FedBy, Judge}
use Rattle.texml_expand.proofs.Least.{choose_yes, choose_no}
use Rattle.texml_expand.proofs.Fed.{verdict_at, Agrees}
use Rattle.texml_assign.specs.Parameters.{digit, is_number, Head, head, with_piece, is_mark, plain_piece, marked_piece, text_from, text_of, head_at, marked_token, with_first, body_of}
use Rattle.texml_assign.specs.TextFeeding.{TextSoFar, with_pieces, behind_mark, judge_text, HeadWithin}

-- The definition over texts

module _ (texts : Table) where
  abbrev by_text : Verdict (Head TokenCode) → Verdict (Head Token)
  by_text v = verdict_at (head_at texts) v

  piece_by : (p : PieceOf TokenCode) (v : Verdict (Head TokenCode)) → with_piece (piece_at texts p) (by_text v) ≡ by_text (with_piece p v)
  piece_by p TooShort = refl
  piece_by p (Yields h) = refl
  piece_by p (Refuses code) = refl

  plain_by : (n : ℕ) (t : TokenCode) (v : Verdict (Head TokenCode)) (a b : Bool)
      → (if a then Yields (head n [] None) else if b then Refuses MISSING_BRACE else with_piece (Just (token_at texts t)) (by_text v)) ≡ by_text (if a then Yields (head n [] None) else if b then Refuses MISSING_BRACE else with_piece (Just t) v)
  plain_by n t v true b = refl
  plain_by n t v false true = refl
  plain_by n t v false false = piece_by (Just t) v

  plain_at : (n : ℕ) (t : TokenCode) (v : Verdict (Head TokenCode)) → plain_piece (λ t. t) n (token_at texts t) (by_text v) ≡ by_text (plain_piece (token_at texts) n t v)
  plain_at n t v = plain_by n t v (has_category BEGIN_GROUP (token_at texts t)) (has_category END_GROUP (token_at texts t))

  marked_by : (n : ℕ) (t : TokenCode) (v : Verdict (Head TokenCode)) (a b : Bool)
      → (if a then Yields (head n (Just (token_at texts t) ∷ []) (Some (token_at texts t))) else if b then with_piece (Slot (1 + n)) (by_text v) else Refuses BAD_PARAMETER)
      ≡ by_text (if a then Yields (head n (Just t ∷ []) (Some t)) else if b then with_piece (Slot (1 + n)) v else Refuses BAD_PARAMETER)
  marked_by n t v true b = refl
  marked_by n t v false true = piece_by (Slot (1 + n)) v
  marked_by n t v false false = refl

  marked_at : (n : ℕ) (t : TokenCode) (v : Verdict (Head TokenCode)) → marked_piece (λ t. t) n (token_at texts t) (by_text v) ≡ by_text (marked_piece (token_at texts) n t v)
  marked_at n t v = marked_by n t v (has_category BEGIN_GROUP (token_at texts t)) (is_number (1 + n) (digit (token_at texts t)))

  either : (b : Bool) (x y : Verdict (Head Token)) (v w : Verdict (Head TokenCode)) → x ≡ by_text v → y ≡ by_text w → (if b then x else y) ≡ by_text (if b then v else w)
  either true x y v w e f = e
  either false x y v w e f = f

  pub text_at : (n : ℕ) (list : List TokenCode) → text_from (λ t. t) n (tokens_at texts list) ≡ by_text (text_from (token_at texts) n list)
  text_at n [] = refl
  text_at n (t ∷ []) = either (is_mark (token_at texts) t) TooShort _ TooShort _ refl (plain_at n t TooShort)
  text_at n (t ∷ u ∷ ts) =
      either (is_mark (token_at texts) t) _ _ _ _
      (ap (marked_piece (λ t. t) n (token_at texts u)) (text_at (1 + n) ts) ∙ marked_at n u (text_from (token_at texts) (1 + n) ts))
      (ap (plain_piece (λ t. t) n (token_at texts t)) (text_at n (u ∷ ts)) ∙ plain_at n t (text_from (token_at texts) n (u ∷ ts)))

pieces_none : (v : Verdict (Head TokenCode)) → with_pieces [] v ≡ v
pieces_none TooShort = refl
pieces_none (Yields h) = refl
pieces_none (Refuses code) = refl

pub none_so_far : TextSoFar
none_so_far = record { pieces = []; slots = 0; marked = false }

pub text_agrees : (so_far : TextSoFar) → so_far ≡ record { pieces = []; slots = 0; marked = false } → Agrees text_of head_at (judge_text so_far)
text_agrees so_far e = record {
  at = λ texts list n w.
      text_at texts 0 list ∙ ap (verdict_at (head_at texts)) (sym (pieces_none (text_from (token_at texts) 0 list)))
      ∙ ap (λ s. verdict_at (head_at texts) (judge_text s texts list)) (sym e);
}

pub text_first : (so_far : TextSoFar) → so_far ≡ record { pieces = []; slots = 0; marked = false } → (texts : Table) → judge_text so_far texts [] ≡ TooShort
text_first so_far e texts = ap (λ s. judge_text s texts []) e

-- Feeding

-- a piece more behind those that were read
pieces_push : (ps : List (PieceOf TokenCode)) (p : PieceOf TokenCode) (v : Verdict (Head TokenCode)) → with_pieces (ps ++ p ∷ []) v ≡ with_pieces ps (with_piece p v)
pieces_push ps p TooShort = refl
pieces_push ps p (Yields h) = ap (λ l. Yields (head h.slots l h.brace)) (append_assoc ps (p ∷ []) h.pieces)
pieces_push ps p (Refuses code) = refl

judge_marked : (s : TextSoFar) → s.marked ≡ true → (texts : Table) (list : List TokenCode) → judge_text s texts list ≡ with_pieces s.pieces (behind_mark (token_at texts) s.slots list)
judge_marked s e texts list = ap (λ b. with_pieces s.pieces (if b then behind_mark (token_at texts) s.slots list else text_from (token_at texts) s.slots list)) e

judge_plain : (s : TextSoFar) → s.marked ≡ false → (texts : Table) (list : List TokenCode) → judge_text s texts list ≡ with_pieces s.pieces (text_from (token_at texts) s.slots list)
judge_plain s e texts list = ap (λ b. with_pieces s.pieces (if b then behind_mark (token_at texts) s.slots list else text_from (token_at texts) s.slots list)) e

module _ (token : TokenCode → Token) where
  text_mark : (n : ℕ) (t : TokenCode) (more : List TokenCode) → has_category PARAMETER (token t) ≡ true → text_from token n (t ∷ more) ≡ behind_mark token n more
  text_mark n t [] e = choose_yes (is_mark token t) TooShort (plain_piece token n t TooShort) e
  text_mark n t (u ∷ ts) e = choose_yes (is_mark token t) (marked_piece token n u (text_from token (1 + n) ts)) (plain_piece token n t (text_from token n (u ∷ ts))) e

  text_plain : (n : ℕ) (t : TokenCode) (more : List TokenCode) → has_category PARAMETER (token t) ≡ false → text_from token n (t ∷ more) ≡ plain_piece token n t (text_from token n more)
  text_plain n t [] e = choose_no (is_mark token t) TooShort (plain_piece token n t TooShort) e
  text_plain n t (u ∷ ts) e = choose_no (is_mark token t) (marked_piece token n u (text_from token (1 + n) ts)) (plain_piece token n t (text_from token n (u ∷ ts))) e

module _ (old new : TextSoFar) (t : TokenCode) (texts : Table) where
  abbrev tok : TokenCode → Token
  tok = token_at texts

  -- behind a parameter character
  pub fed_brace : old.marked ≡ true → has_category BEGIN_GROUP (token_at texts t) ≡ true → judge_text old texts (t ∷ []) ≡ Yields (head old.slots (old.pieces ++ Just t ∷ []) (Some t))
  fed_brace m e = judge_marked old m texts (t ∷ []) ∙ ap (with_pieces old.pieces) (choose_yes (has_category BEGIN_GROUP (tok t)) _ _ e)

  pub fed_number_bad : old.marked ≡ true → has_category BEGIN_GROUP (token_at texts t) ≡ false → is_number (1 + old.slots) (digit (token_at texts t)) ≡ false → judge_text old texts (t ∷ []) ≡ Refuses BAD_PARAMETER
  fed_number_bad m e n =
      judge_marked old m texts (t ∷ [])
      ∙ ap (with_pieces old.pieces) (choose_no (has_category BEGIN_GROUP (tok t)) _ _ e ∙ choose_no (is_number (1 + old.slots) (digit (tok t))) _ _ n)

  next_number : old.marked ≡ true → has_category BEGIN_GROUP (token_at texts t) ≡ false → is_number (1 + old.slots) (digit (token_at texts t)) ≡ true
      → new ≡ record { pieces = old.pieces ++ Slot (1 + old.slots) ∷ []; slots = 1 + old.slots; marked = false } → IsFed (judge_text old) t TooShort (judge_text new) texts
  next_number m e n is = record {
    is = at [];
    on = λ _ more. ap (λ s. judge_text s texts more) is ∙ pieces_push old.pieces (Slot (1 + old.slots)) (text_from tok (1 + old.slots) more) ∙ sym (at more);
  }
    where
      at : (more : List TokenCode) → judge_text old texts (t ∷ more) ≡ with_pieces old.pieces (with_piece (Slot (1 + old.slots)) (text_from tok (1 + old.slots) more))
      at more =
          judge_marked old m texts (t ∷ more)
          ∙ ap (with_pieces old.pieces) (choose_no (has_category BEGIN_GROUP (tok t)) _ _ e ∙ choose_yes (is_number (1 + old.slots) (digit (tok t))) _ _ n)

  pub fed_number : (n : ℕ) → n ≡ 1 + old.slots → old.marked ≡ true → has_category BEGIN_GROUP (token_at texts t) ≡ false → is_number n (digit (token_at texts t)) ≡ true
      → new ≡ record { pieces = old.pieces ++ Slot n ∷ []; slots = n; marked = false } → IsFed (judge_text old) t TooShort (judge_text new) texts
  fed_number n one m e =
      subst (λ k. is_number k (digit (token_at texts t)) ≡ true → new ≡ record { pieces = old.pieces ++ Slot k ∷ []; slots = k; marked = false } → IsFed (judge_text old) t TooShort (judge_text new) texts) (sym one) (next_number m e)

  -- elsewhere
  pub fed_mark : old.marked ≡ false → has_category PARAMETER (token_at texts t) ≡ true → new ≡ record old { marked = true } → IsFed (judge_text old) t TooShort (judge_text new) texts
  fed_mark m e is = record {
    is = at [];
    on = λ _ more. ap (λ s. judge_text s texts more) is ∙ sym (at more);
  }
    where
      at : (more : List TokenCode) → judge_text old texts (t ∷ more) ≡ with_pieces old.pieces (behind_mark tok old.slots more)
      at more = judge_plain old m texts (t ∷ more) ∙ ap (with_pieces old.pieces) (text_mark tok old.slots t more e)

  plain_step : old.marked ≡ false → has_category PARAMETER (token_at texts t) ≡ false → (more : List TokenCode) → judge_text old texts (t ∷ more) ≡ with_pieces old.pieces (plain_piece tok old.slots t (text_from tok old.slots more))
  plain_step m p more = judge_plain old m texts (t ∷ more) ∙ ap (with_pieces old.pieces) (text_plain tok old.slots t more p)

  pub fed_end : old.marked ≡ false → has_category PARAMETER (token_at texts t) ≡ false → has_category BEGIN_GROUP (token_at texts t) ≡ true → judge_text old texts (t ∷ []) ≡ Yields (head old.slots old.pieces None)
  fed_end m p e = plain_step m p [] ∙ ap (with_pieces old.pieces) (choose_yes (has_category BEGIN_GROUP (tok t)) _ _ e) ∙ ap (λ l. Yields (head old.slots l None)) (all old.pieces)
    where
      all : {X : Type 0} (l : List X) → l ++ [] ≡ l
      all [] = refl
      all (x ∷ l) = ap (λ r. x ∷ r) (all l)

  pub fed_close : old.marked ≡ false → has_category PARAMETER (token_at texts t) ≡ false → has_category BEGIN_GROUP (token_at texts t) ≡ false → has_category END_GROUP (token_at texts t) ≡ true
      → judge_text old texts (t ∷ []) ≡ Refuses MISSING_BRACE
  fed_close m p e f = plain_step m p [] ∙ ap (with_pieces old.pieces) (choose_no (has_category BEGIN_GROUP (tok t)) _ _ e ∙ choose_yes (has_category END_GROUP (tok t)) _ _ f)

  pub fed_piece : old.marked ≡ false → has_category PARAMETER (token_at texts t) ≡ false → has_category BEGIN_GROUP (token_at texts t) ≡ false → has_category END_GROUP (token_at texts t) ≡ false
      → new ≡ record old { pieces = old.pieces ++ Just t ∷ [] } → IsFed (judge_text old) t TooShort (judge_text new) texts
  fed_piece m p e f is = record {
    is = at [];
    on = λ _ more. ap (λ s. judge_text s texts more) is ∙ judge_plain (record old { pieces = old.pieces ++ Just t ∷ [] }) m texts more ∙ pieces_push old.pieces (Just t) (text_from tok old.slots more) ∙ sym (at more);
  }
    where
      at : (more : List TokenCode) → judge_text old texts (t ∷ more) ≡ with_pieces old.pieces (with_piece (Just t) (text_from tok old.slots more))
      at more = plain_step m p more ∙ ap (with_pieces old.pieces) (choose_no (has_category BEGIN_GROUP (tok t)) _ _ e ∙ choose_no (has_category END_GROUP (tok t)) _ _ f)

-- a verdict is no other one
pub fed_yields : (old new : TextSoFar) (t : TokenCode) (texts : Table) (h : Head TokenCode) → judge_text old texts (t ∷ []) ≡ Yields h → IsFed (judge_text old) t (Yields h) (judge_text new) texts
fed_yields old new t texts h e = record { is = e; on = λ f. cc }

pub fed_refuses : (old new : TextSoFar) (t : TokenCode) (texts : Table) (code : ℕ) → judge_text old texts (t ∷ []) ≡ Refuses code → IsFed (judge_text old) t (Refuses code) (judge_text new) texts
fed_refuses old new t texts code e = record { is = e; on = λ f. cc }

-- What is read is within the table

number_char : (n c category : ℕ) (b : Bool) → (category == OTHER && nat_le 48 c && nat_le c 57) ≡ b → is_number n (if b then Some (c - 48) else None) ≡ true → n ≤ 9
number_char n c category true e f = grind (arith, e, f)
number_char n c category false e f = cc

pub number_few : (n : ℕ) (t : Token) → is_number n (digit t) ≡ true → n ≤ 9
number_few n (Char c category) e = number_char n c category (category == OTHER && nat_le 48 c && nat_le c 57) refl e
number_few n t e = cc

begins_no_end : (texts : Table) (t : TokenCode) → has_category BEGIN_GROUP (token_at texts t) ≡ true → EndsNoGroup t
begins_no_end texts (tokens.Char c category) e = λ f. absurd (grind (arith, e, f))
begins_no_end texts (tokens.Active c) e = tt
begins_no_end texts (tokens.Param n) e = tt
begins_no_end texts (tokens.Named n) e = tt

plain_no_end : (texts : Table) (t : TokenCode) → has_category END_GROUP (token_at texts t) ≡ false → EndsNoGroup t
plain_no_end texts (tokens.Char c category) e = λ f. absurd (grind (arith, e, f))
plain_no_end texts (tokens.Active c) e = tt
plain_no_end texts (tokens.Param n) e = tt
plain_no_end texts (tokens.Named n) e = tt

module _ (texts : Table) (count : ℕ) where
  piece_within : (n m : ℕ) (p : PieceOf TokenCode) (v : Verdict (Head TokenCode)) (h : Head TokenCode) → with_piece p v ≡ Yields h
      → PieceWithin count p → ((k : Head TokenCode) → AreNumberedFrom (1 + m) k.pieces → AreNumberedFrom (1 + n) (p ∷ k.pieces)) → ((k : Head TokenCode) → m + slots_in k.pieces ≡ k.slots → n + slots_in (p ∷ k.pieces) ≡ k.slots)
      → ((k : Head TokenCode) → v ≡ Yields k → HeadWithin count m k) → HeadWithin count n h
  piece_within n m p TooShort h e w number slots on = cc
  piece_within n m p (Yields k) h e w number slots on =
      let g = on k refl in
      let is : head k.slots (p ∷ k.pieces) k.brace ≡ h = cc in
      subst (HeadWithin count n) is
      (record { pieces = All-cons (PieceWithin count) p k.pieces w g.pieces; numbered = number k g.numbered; slots = slots k g.slots; few = g.few; brace = g.brace })
  piece_within n m p (Refuses code) h e w number slots on = cc

  plain_within : (n : ℕ) (t : TokenCode) (v : Verdict (Head TokenCode)) (h : Head TokenCode) (a b : Bool) → has_category END_GROUP (token_at texts t) ≡ b → n ≤ 9 → TokenWithin count t
      → (if a then Yields (head n [] None) else if b then Refuses MISSING_BRACE else with_piece (Just t) v) ≡ Yields h → ((k : Head TokenCode) → v ≡ Yields k → HeadWithin count n k) → HeadWithin count n h
  plain_within n t v h true b f le w e on =
      let is : head n [] None ≡ h = cc in
      subst (HeadWithin count n) is (record { pieces = All-nil (PieceWithin count); numbered = tt; slots = omega arith; few = le; brace = tt })
  plain_within n t v h false true f le w e on = cc
  plain_within n t v h false false f le w e on = piece_within n n (Just t) v h e (w, plain_no_end texts t f) (λ k g. g) (λ k g. g) on

  marked_within : (n : ℕ) (t : TokenCode) (v : Verdict (Head TokenCode)) (h : Head TokenCode) (a b : Bool) → has_category BEGIN_GROUP (token_at texts t) ≡ a → is_number (1 + n) (digit (token_at texts t)) ≡ b → n ≤ 9 → TokenWithin count t
      → (if a then Yields (head n (Just t ∷ []) (Some t)) else if b then with_piece (Slot (1 + n)) v else Refuses BAD_PARAMETER) ≡ Yields h
      → (1 + n ≤ 9 → (k : Head TokenCode) → v ≡ Yields k → HeadWithin count (1 + n) k) → HeadWithin count n h
  marked_within n t v h true b f number le w e on =
      let is : head n (Just t ∷ []) (Some t) ≡ h = cc in
      subst (HeadWithin count n) is
      (record { pieces = All-cons (PieceWithin count) (Just t) [] (w, begins_no_end texts t f) (All-nil (PieceWithin count)); numbered = tt; slots = omega arith; few = le; brace = w })
  marked_within n t v h false true f number le w e on =
      piece_within n (1 + n) (Slot (1 + n)) v h e tt (λ k g. (refl, g)) (λ k g. omega (arith, g)) (on (number_few (1 + n) (token_at texts t) number))
  marked_within n t v h false false f number le w e on = cc

  choice_within : (n : ℕ) (t u : TokenCode) (v w : Verdict (Head TokenCode)) (h : Head TokenCode) (b : Bool) → n ≤ 9 → TokenWithin count t → TokenWithin count u
      → (if b then marked_piece (token_at texts) n u v else plain_piece (token_at texts) n t w) ≡ Yields h → (1 + n ≤ 9 → (k : Head TokenCode) → v ≡ Yields k → HeadWithin count (1 + n) k)
      → ((k : Head TokenCode) → w ≡ Yields k → HeadWithin count n k) → HeadWithin count n h
  choice_within n t u v w h true le x y e marked plain =
      marked_within n u v h (has_category BEGIN_GROUP (token_at texts u)) (is_number (1 + n) (digit (token_at texts u))) refl refl le y e marked
  choice_within n t u v w h false le x y e marked plain =
      plain_within n t w h (has_category BEGIN_GROUP (token_at texts t)) (has_category END_GROUP (token_at texts t)) refl le x e plain

  one_within : (n : ℕ) (t : TokenCode) (h : Head TokenCode) (b : Bool) → n ≤ 9 → TokenWithin count t → (if b then TooShort else plain_piece (token_at texts) n t TooShort) ≡ Yields h → HeadWithin count n h
  one_within n t h true le w e = cc
  one_within n t h false le w e = plain_within n t TooShort h (has_category BEGIN_GROUP (token_at texts t)) (has_category END_GROUP (token_at texts t)) refl le w e (λ k g. cc)

  pub text_within : (n : ℕ) (list : List TokenCode) (h : Head TokenCode) → n ≤ 9 → TokensWithin count list → text_from (token_at texts) n list ≡ Yields h → HeadWithin count n h
  text_within n [] h le w e = cc
  text_within n (t ∷ []) h le w e = one_within n t h (is_mark (token_at texts) t) le (All-head (TokenWithin count) t [] w) e
  text_within n (t ∷ u ∷ ts) h le w e =
      let rest = All-tail (TokenWithin count) t (u ∷ ts) w in
      choice_within n t u (text_from (token_at texts) (1 + n) ts) (text_from (token_at texts) n (u ∷ ts)) h (is_mark (token_at texts) t) le (All-head (TokenWithin count) t (u ∷ ts) w) (All-head (TokenWithin count) u ts rest) e
      (λ few k x. text_within (1 + n) ts k few (All-tail (TokenWithin count) u ts rest) x)
      (λ k x. text_within n (u ∷ ts) k le rest x)

pub feeds_within : (so_far : TextSoFar) → so_far ≡ record { pieces = []; slots = 0; marked = false } → (r : Result (Head TokenCode) Stop) (a b : Shelf) (old new : Held) → IfOk r (λ h. FedBy (judge_text so_far) h a old b new)
    → IfOk r (HeadWithin (length new.names) 0)
feeds_within so_far e (Ok h) a b old new f =
    text_within new.names (length new.names) 0 f.list h (omega arith) f.within
    (sym (pieces_none (text_from (token_at new.names) 0 f.list)) ∙ ap (λ s. judge_text s new.names f.list) (sym e) ∙ f.is)
feeds_within so_far e (Err x) a b old new f = tt

pub fed_less : {V : Type 0} (judge : Judge V) (r : Result V Stop) (a b : Shelf) (old new : Held) → IfOk r (λ v. FedBy judge v a old b new) → OnOk r (Shrinks 0 a old b new)
fed_less judge (Ok v) a b old new f = no_more f.shrinks
fed_less judge (Err e) a b old new f = tt

-- Bodies

-- what is left of a body, perhaps behind a parameter character
abbrev pub left_of : ℕ → Bool → List Token → Option (List Token)
left_of slots false list = body_of slots list
left_of slots true [] = None
left_of slots true (t ∷ ts) = with_first (marked_token slots t) (body_of slots ts)

pub left_mark : (slots : ℕ) (t : Token) (ts : List Token) → has_category PARAMETER t ≡ true → body_of slots (t ∷ ts) ≡ left_of slots true ts
left_mark slots t [] e = choose_yes (has_category PARAMETER t) None (Some (t ∷ [])) e
left_mark slots t (u ∷ ts) e = choose_yes (has_category PARAMETER t) (with_first (marked_token slots u) (body_of slots ts)) (with_first (Some t) (body_of slots (u ∷ ts))) e

pub left_plain : (slots : ℕ) (t : Token) (ts : List Token) → has_category PARAMETER t ≡ false → body_of slots (t ∷ ts) ≡ with_first (Some t) (body_of slots ts)
left_plain slots t [] e = choose_no (has_category PARAMETER t) None (Some (t ∷ [])) e
left_plain slots t (u ∷ ts) e = choose_no (has_category PARAMETER t) (with_first (marked_token slots u) (body_of slots ts)) (with_first (Some t) (body_of slots (u ∷ ts))) e

-- a body behind tokens that were read
abbrev pub behind_body : List Token → Option (List Token) → Option (List Token)
behind_body list o = option_map (λ rest. list ++ rest) o

pub body_push : (list : List Token) (t : Token) (o : Option (List Token)) → behind_body list (with_first (Some t) o) ≡ behind_body (list ++ t ∷ []) o
body_push list t None = refl
body_push list t (Some rest) = ap Some (sym (append_assoc list (t ∷ []) rest))

-- the code's loop over the tokens of a body
module _ (slots : ℕ) (list : List TokenCode) (texts : Table) where
  abbrev behind_at : List TokenCode → Bool → ℕ → Option (List Token)
  behind_at body marked i = behind_body (tokens_at texts body) (left_of slots marked (tokens_at texts (drop i list)))

  abbrev tail_at : ℕ → List Token
  tail_at i = tokens_at texts (drop (i + 1) list)

  next_at : (body : List TokenCode) (marked : Bool) (i : ℕ) (d : TokenCode) → i < length list → behind_at body marked i ≡ behind_body (tokens_at texts body) (left_of slots marked (token_at texts (get_or list i d) ∷ tail_at i))
  next_at body marked i d lt = at_drop_more (λ l. behind_body (tokens_at texts body) (left_of slots marked (tokens_at texts l))) list i d lt

  pushed_at : (body : List TokenCode) (t : TokenCode) (o : Option (List Token)) → behind_body (tokens_at texts body) (with_first (Some (token_at texts t)) o) ≡ behind_body (tokens_at texts (body ++ t ∷ [])) o
  pushed_at body t o = body_push (tokens_at texts body) (token_at texts t) o ∙ ap (λ l. behind_body l o) (sym (map-append (token_at texts) body (t ∷ [])))

  -- behind a parameter character
  pub step_marked : (body new : List TokenCode) (marked more : Bool) (i : ℕ) (d found : TokenCode) → i < length list → marked ≡ true → Some (token_at texts found) ≡ marked_token slots (token_at texts (get_or list i d)) → new ≡ body ++ found ∷ [] → more ≡ false
      → body_of slots (tokens_at texts list) ≡ behind_at body marked i → body_of slots (tokens_at texts list) ≡ behind_at new more (i + 1)
  step_marked body new marked more i d found lt m is e f h =
      h ∙ ap (λ b. behind_at body b i) m ∙ next_at body true i d lt ∙ ap (λ o. behind_body (tokens_at texts body) (with_first o (body_of slots (tail_at i)))) (sym is)
      ∙ pushed_at body found (body_of slots (tail_at i)) ∙ ap (λ l. behind_at l false (i + 1)) (sym e) ∙ ap (λ b. behind_at new b (i + 1)) (sym f)

  pub step_none : (body : List TokenCode) (marked : Bool) (i : ℕ) (d : TokenCode) → i < length list → marked ≡ true → None ≡ marked_token slots (token_at texts (get_or list i d))
      → body_of slots (tokens_at texts list) ≡ behind_at body marked i → None ≡ body_of slots (tokens_at texts list)
  step_none body marked i d lt m is h =
      sym (h ∙ ap (λ b. behind_at body b i) m ∙ next_at body true i d lt ∙ ap (λ o. behind_body (tokens_at texts body) (with_first o (body_of slots (tail_at i)))) (sym is))

  -- a parameter character
  pub step_mark : (body new : List TokenCode) (marked more : Bool) (i : ℕ) (d : TokenCode) → i < length list → marked ≡ false → has_category PARAMETER (token_at texts (get_or list i d)) ≡ true → new ≡ body → more ≡ true
      → body_of slots (tokens_at texts list) ≡ behind_at body marked i → body_of slots (tokens_at texts list) ≡ behind_at new more (i + 1)
  step_mark body new marked more i d lt m is e f h =
      h ∙ ap (λ b. behind_at body b i) m ∙ next_at body false i d lt ∙ ap (behind_body (tokens_at texts body)) (left_mark slots (token_at texts (get_or list i d)) (tail_at i) is)
      ∙ ap (λ l. behind_at l true (i + 1)) (sym e) ∙ ap (λ b. behind_at new b (i + 1)) (sym f)

  -- another token
  pub step_plain : (body new : List TokenCode) (marked more : Bool) (i : ℕ) (d : TokenCode) → i < length list → marked ≡ false → has_category PARAMETER (token_at texts (get_or list i d)) ≡ false → new ≡ body ++ get_or list i d ∷ [] → more ≡ false
      → body_of slots (tokens_at texts list) ≡ behind_at body marked i → body_of slots (tokens_at texts list) ≡ behind_at new more (i + 1)
  step_plain body new marked more i d lt m is e f h =
      h ∙ ap (λ b. behind_at body b i) m ∙ next_at body false i d lt ∙ ap (behind_body (tokens_at texts body)) (left_plain slots (token_at texts (get_or list i d)) (tail_at i) is)
      ∙ pushed_at body (get_or list i d) (body_of slots (tail_at i)) ∙ ap (λ l. behind_at l false (i + 1)) (sym e) ∙ ap (λ b. behind_at new b (i + 1)) (sym f)

  -- the end
  at_end : (body : List TokenCode) (marked b : Bool) (i : ℕ) → length list ≤ i → marked ≡ b → behind_at body marked i ≡ behind_body (tokens_at texts body) (left_of slots b [])
  at_end body marked b i le m = ap (λ l. behind_body (tokens_at texts body) (left_of slots marked (tokens_at texts l))) (drop_all i list le) ∙ ap (λ x. behind_body (tokens_at texts body) (left_of slots x [])) m

  pub end_marked : (body : List TokenCode) (marked : Bool) (i : ℕ) → length list ≤ i → marked ≡ true → body_of slots (tokens_at texts list) ≡ behind_at body marked i → None ≡ body_of slots (tokens_at texts list)
  end_marked body marked i le m h = sym (h ∙ at_end body marked true i le m)

  pub end_plain : (body : List TokenCode) (marked : Bool) (i : ℕ) → length list ≤ i → marked ≡ false → body_of slots (tokens_at texts list) ≡ behind_at body marked i → Some (tokens_at texts body) ≡ body_of slots (tokens_at texts list)
  end_plain body marked i le m h = sym (h ∙ at_end body marked false i le m ∙ ap Some (all (tokens_at texts body)))
    where
      all : {X : Type 0} (l : List X) → l ++ [] ≡ l
      all [] = refl
      all (x ∷ l) = ap (λ r. x ∷ r) (all l)

-- a body with one token more
pub more_within : (count slots : ℕ) (body new : List TokenCode) (t : TokenCode) → new ≡ body ++ t ∷ [] → BodyWithin count slots body → BodyTokenWithin count slots t → BodyWithin count slots new
more_within count slots body new t e w v = subst (BodyWithin count slots) (sym e) (All-push (BodyTokenWithin count slots) body t w v)
