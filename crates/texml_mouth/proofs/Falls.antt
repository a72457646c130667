-- A token takes a character at least.
use Rattle.std.proofs.Common.{◌≡◌, ◌≤◌, ◌<◌, ◌+◌, ℕ, List, [], ◌∷◌, length, Bool, true, false, cond, ◌&&◌, ◌==◌, nat_lt, sym, subst, arith}
use Rattle.texml_token.specs.Token.{Token, Named}
use Rattle.texml_mouth.specs.declared.LineState.{LineState}
use Rattle.texml_mouth.specs.declared.LineState.TheVariants.{NewLine, MidLine, SkippingBlanks}
use Rattle.texml_mouth.specs.Looked.{look, look_at, settled, is_pair, begins_hex, hex_code, turned}
use Rattle.texml_mouth.specs.Mouth.{Spot, Bite, Gives, Dry, Bad, bite, bites, blank, line_end, name, name_from, word, word_from, Word, no_word, gives}
use Rattle.texml_mouth.proofs.Looking.{look-front, at_front, settled-length}

-- what holds of a fold by the length of its text
module _ {A : Type 0} (P : ℕ → A → Type 0) (more : (m n : ℕ) (a : A) → m ≤ n → P m a → P n a)
    (cats : ℕ → ℕ) (empty : A) (step : ℕ → List ℕ → A → A)
    (at_end : P 0 empty) (at_step : (c : ℕ) (tail : List ℕ) (onward : A) → P (length tail) onward → P (1 + length tail) (step c tail onward)) where
  by_test : (b : Bool) (n : ℕ) (x y : A) → P n x → P n y → P n (cond b x y)
  by_test true n x y p q = p
  by_test false n x y p q = q

  look_at_all : (c : ℕ) (tail : List ℕ) → P (1 + length tail) (look_at cats empty step c tail)
  look_at_all c [] = at_step c [] empty at_end
  look_at_all c (d ∷ []) = at_step c (d ∷ []) _ (more _ _ _ (omega arith) (look_at_all d []))
  look_at_all c (d ∷ x ∷ []) =
      by_test (is_pair cats c d && nat_lt x 128) _ _ _
      (more _ _ _ (omega arith) (look_at_all (turned x) []))
      (at_step c (d ∷ x ∷ []) _ (more _ _ _ (omega arith) (look_at_all d (x ∷ []))))
  look_at_all c (d ∷ x ∷ y ∷ tail) =
      by_test (is_pair cats c d && begins_hex (x ∷ y ∷ tail)) _ _ _
      (more _ _ _ (omega arith) (look_at_all (hex_code x y) tail))
      (by_test (is_pair cats c d && nat_lt x 128) _ _ _
      (more _ _ _ (omega arith) (look_at_all (turned x) (y ∷ tail)))
      (at_step c (d ∷ x ∷ y ∷ tail) _ (more _ _ _ (omega arith) (look_at_all d (x ∷ y ∷ tail)))))

  pub look_all : (text : List ℕ) → P (length text) (look cats empty step text)
  look_all [] = at_end
  look_all (c ∷ tail) = more _ _ _ (omega arith) (look_at_all c tail)

word_step : (b : Bool) (n c : ℕ) (tail : List ℕ) (onward : Word) → length onward.behind ≤ length tail
    → length (cond b (record { letters = c ∷ onward.letters; behind = onward.behind }) (no_word (c ∷ tail))).behind ≤ 1 + length tail
word_step true n c tail onward h = omega arith
word_step false n c tail onward h = omega arith

-- a word leaves no more than there was
pub word-behind : (cats : ℕ → ℕ) (text : List ℕ) → length (word cats text).behind ≤ length text
word-behind cats text =
    look_all (λ n (w : Word). length w.behind ≤ n) (λ m n w le h. omega arith) cats (no_word []) (word_from cats) (omega arith)
    (λ c tail onward h. word_step (cats c == 11) 0 c tail onward h) text

-- the spot behind what is given has fewer characters than this
abbrev pub Falls : ℕ → Bite → Type 0
Falls n (Gives t spot) = length spot.tail < n
Falls n Dry = Unit {0}
Falls n (Bad c) = Unit {0}

falls_more : (m n : ℕ) (b : Bite) → m ≤ n → Falls m b → Falls n b
falls_more m n (Gives t spot) le h = omega arith
falls_more m n Dry le h = tt
falls_more m n (Bad c) le h = tt

falls_test : (b : Bool) (n : ℕ) (x y : Bite) → Falls n x → Falls n y → Falls n (cond b x y)
falls_test true n x y p q = p
falls_test false n x y p q = q

name_falls : (cats : ℕ → ℕ) (text : List ℕ) → Falls (1 + length text) (name cats text)
name_falls cats text =
    subst (Falls (1 + length text)) (sym (look-front cats (gives (Named []) SkippingBlanks []) (λ c tail onward. name_from cats (word cats text) c tail) text))
    (at (settled cats text) (settled-length cats text))
  where
    at : (front : List ℕ) → length front ≤ length text → Falls (1 + length text) (at_front cats (gives (Named []) SkippingBlanks []) (λ c tail onward. name_from cats (word cats text) c tail) front)
    at [] h = omega arith
    at (c ∷ tail) h =
        falls_test (cats c == 11) _ _ _ (omega (arith, word-behind cats text)) (omega arith)

line_end_falls : (state : LineState) (n : ℕ) → Falls (1 + n) (line_end state)
line_end_falls NewLine n = omega arith
line_end_falls MidLine n = omega arith
line_end_falls SkippingBlanks n = tt

blank_falls : (state : LineState) (tail : List ℕ) (onward : Bite) → Falls (length tail) onward → Falls (1 + length tail) (blank state tail onward)
blank_falls NewLine tail onward h = falls_more _ _ onward (omega arith) h
blank_falls MidLine tail onward h = omega arith
blank_falls SkippingBlanks tail onward h = falls_more _ _ onward (omega arith) h

bite_falls : (cats : ℕ → ℕ) (state : LineState) (c : ℕ) (tail : List ℕ) (onward : Bite) → Falls (length tail) onward → Falls (1 + length tail) (bite cats state c tail onward)
bite_falls cats state c tail onward h =
    falls_test (cats c == 0) _ _ _ (name_falls cats tail)
    (falls_test (cats c == 5) _ _ _ (line_end_falls state (length tail))
    (falls_test (cats c == 9) _ _ _ (falls_more _ _ onward (omega arith) h)
    (falls_test (cats c == 10) _ _ _ (blank_falls state tail onward h)
    (falls_test (cats c == 13) _ _ _ (omega arith)
    (falls_test (cats c == 14) _ Dry _ tt
    (falls_test (cats c == 15) _ (Bad c) _ tt (omega arith)))))))

-- what a line gives leaves fewer characters
pub bites_falls : (cats : ℕ → ℕ) (spot : Spot) → Falls (length spot.tail) (bites cats spot)
bites_falls cats spot = look_all Falls falls_more cats Dry (bite cats spot.state) tt (bite_falls cats spot.state) spot.tail

pub bites_lower : (cats : ℕ → ℕ) (spot spot' : Spot) (t : Token) → bites cats spot ≡ Gives t spot' → length spot'.tail < length spot.tail
bites_lower cats spot spot' t is = subst (Falls (length spot.tail)) is (bites_falls cats spot)
