-- The place of an engine: before the first line it is in the main file.
use Rattle.std.proofs.Common.{◌≡◌, ℕ, ◌==◌, true, false, Bool, if◌then◌else◌, List, [], ◌∷◌, Option, Some, None, refl, sym, ap, ◌∙◌, arith}
use Rattle.std.proofs.lemmas.Bool.{ne_eqb}
use Rattle.texml_base.specs.Rising.{add_up}
use Rattle.texml_token.specs.Token.{Token}
use Rattle.texml_text.specs.Lines.{loaded}
use Rattle.texml_text.specs.File.{Row}
use Rattle.texml_mouth.specs.Mouth.{Spot, Bite, Gives, Dry, Bad, bites}
use Rattle.texml_input.specs.Rest.{Item, Tok, Frozen, Text, Place, start}
use Rattle.texml_input.specs.Next.{Given, Got, AtEnd, Invalid, NotUtf8, behind, from_bite, from_row, place_at, text_next, next}
use Rattle.texml_expand.specs.Held.{placed}

-- what is given, with the place of an engine
abbrev pub given_placed : List ℕ → Given → Given
given_placed main (Got r rest place bytes) = Got r rest (placed main place) bytes
given_placed main (AtEnd place bytes) = AtEnd (placed main place) bytes
given_placed main (Invalid c place bytes) = Invalid c (placed main place) bytes
given_placed main (NotUtf8 place bytes) = NotUtf8 (placed main place) bytes

placed_line : (main name : List ℕ) (n : ℕ) → (n == 0) ≡ false → placed main (place_at name n) ≡ place_at name n
placed_line main name n e = ap (λ b. if b then place_at main 0 else place_at name n) e

one_more : (n : ℕ) → (add_up n 1 == 0) ≡ false
one_more n = ne_eqb (add_up n 1) 0 (λ e. absurd (omega (arith, e)))

placed_loaded : (main name : List ℕ) (n : ℕ) → placed main (place_at name (add_up n 1)) ≡ place_at name (add_up n 1)
placed_loaded main name n = placed_line main name (add_up n 1) (one_more n)

placed_behind : (main : List ℕ) (n : ℕ) (ended : Bool) (g : Given) → given_placed main (behind n ended g) ≡ behind n ended (given_placed main g)
placed_behind main n ended (Got r rest place bytes) = refl
placed_behind main n ended (AtEnd place bytes) = refl
placed_behind main n ended (Invalid c place bytes) = refl
placed_behind main n ended (NotUtf8 place bytes) = refl

placed_bite : (main : List ℕ) (b : Bite) (place : Place) (rest : Spot → List (Item Token)) (dry dry' : Given) → dry' ≡ given_placed main dry → from_bite b (placed main place) rest dry' ≡ given_placed main (from_bite b place rest dry)
placed_bite main (Gives t spot) place rest dry dry' e = refl
placed_bite main Dry place rest dry dry' e = e
placed_bite main (Bad c) place rest dry dry' e = refl

placed_row : (main : List ℕ) (text : Option (List ℕ)) (size : ℕ) (place : Place) (go : List ℕ → Given) → placed main place ≡ place → ((text : List ℕ) → go text ≡ given_placed main (go text))
    → from_row text size place go ≡ given_placed main (from_row text size place go)
placed_row main None size place go e h = ap (λ p. NotUtf8 p size) (sym e)
placed_row main (Some text) size place go e h = ap (behind size false) (h text) ∙ sym (placed_behind main size false (go text))

module _ (main : List ℕ) (cats : ℕ → ℕ) (end : Option ℕ) where
  placed_text : (name : List ℕ) (rest : List (Item Token)) (after : Place → Given) → ((place : Place) → after (placed main place) ≡ given_placed main (after place)) → (rows : List Row) (number : ℕ) (spot : Spot) (place : Place)
      → text_next cats end name rest after rows number spot (placed main place) ≡ given_placed main (text_next cats end name rest after rows number spot place)
  placed_text name rest after h [] number spot place =
      placed_bite main (bites cats spot) place _ (behind 0 true (after place)) (behind 0 true (after (placed main place))) (ap (behind 0 true) (h place) ∙ sym (placed_behind main 0 true (after place)))
  placed_text name rest after h (row ∷ rows) number spot place =
      let at = place_at name (add_up number 1) in
      let go : List ℕ → Given = λ text. text_next cats end name rest after rows (add_up number 1) (start (loaded end text)) at in
      placed_bite main (bites cats spot) place _ (from_row row.text row.size at go) (from_row row.text row.size at go)
      (placed_row main row.text row.size at go (placed_loaded main name number)
      (λ text. ap (λ p. text_next cats end name rest after rows (add_up number 1) (start (loaded end text)) p) (sym (placed_loaded main name number))
      ∙ placed_text name rest after h rows (add_up number 1) (start (loaded end text)) at))

  -- the first token of a rest only ever replaces the place, by that of a line
  pub next_placed : (items : List (Item Token)) (place : Place) → next cats end items (placed main place) ≡ given_placed main (next cats end items place)
  next_placed [] place = refl
  next_placed (Tok t ∷ rest) place = refl
  next_placed (Frozen t ∷ rest) place = refl
  next_placed (Text p ∷ rest) place = placed_text p.name rest (next cats end rest) (next_placed rest) p.rows p.number p.spot place
