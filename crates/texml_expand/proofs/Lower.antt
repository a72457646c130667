-- A token lowers what is to be read.
use Rattle.std.proofs.Common.{◌≡◌, ℕ, ◌+◌, ◌≤◌, ◌<◌, Bool, true, false, List, [], ◌∷◌, length, refl, subst, arith, Option, Some, None}
use Rattle.std.specs.Prelude.{sum_by}
use Rattle.std.proofs.lemmas.List.Sums.{sum_by-cons}
use Rattle.texml_base.specs.Rising.{add_up}
use Rattle.texml_token.specs.Token.{Token}
use Rattle.texml_text.specs.Lines.{loaded}
use Rattle.texml_text.specs.File.{Row}
use Rattle.texml_mouth.specs.Mouth.{Spot, Bite, Gives, Dry, Bad, bites}
use Rattle.texml_mouth.proofs.Falls.{bites_lower}
use Rattle.texml_input.specs.Rest.{Item, Tok, Frozen, Text, Place, page, start, row_size, page_size, size}
use Rattle.texml_input.specs.Next.{Taken, Given, Got, AtEnd, Invalid, NotUtf8, behind, from_bite, from_row, place_at, text_next, next}
use Rattle.texml_text.proofs.Taking.{loaded-length}
use Rattle.texml_expand.proofs.Items.{size-cons}

-- the rest behind the token that is given is smaller than this
abbrev pub RestLower : ℕ → Given → Type 0
RestLower n (Got r rest place bytes) = size rest + 1 ≤ n
RestLower n (AtEnd place bytes) = Unit {0}
RestLower n (Invalid c place bytes) = Unit {0}
RestLower n (NotUtf8 place bytes) = Unit {0}

lower_more : (m n : ℕ) (g : Given) → m ≤ n → RestLower m g → RestLower n g
lower_more m n (Got r rest place bytes) le h = omega arith
lower_more m n (AtEnd place bytes) le h = tt
lower_more m n (Invalid c place bytes) le h = tt
lower_more m n (NotUtf8 place bytes) le h = tt

lower_behind : (n bytes : ℕ) (ended : Bool) (g : Given) → RestLower n g → RestLower n (behind bytes ended g)
lower_behind n bytes ended (Got r rest place more) h = h
lower_behind n bytes ended (AtEnd place more) h = tt
lower_behind n bytes ended (Invalid c place more) h = tt
lower_behind n bytes ended (NotUtf8 place more) h = tt

lower_bite : (n : ℕ) (b : Bite) (place : Place) (rest : Spot → List (Item Token)) (dry : Given) → ((t : Token) (s : Spot) → b ≡ Gives t s → size (rest s) + 1 ≤ n) → RestLower n dry
    → RestLower n (from_bite b place rest dry)
lower_bite n (Gives t s) place rest dry h k = h t s refl
lower_bite n Dry place rest dry h k = k
lower_bite n (Bad c) place rest dry h k = tt

lower_row : (n m : ℕ) (text : Option (List ℕ)) (bytes : ℕ) (place : Place) (go : List ℕ → Given) → m + row_size text ≤ n → ((text : List ℕ) → RestLower (m + (length text + 2)) (go text)) → RestLower n (from_row text bytes place go)
lower_row n m None bytes place go le h = tt
lower_row n m (Some text) bytes place go le h = lower_behind n bytes false (go text) (lower_more (m + (length text + 2)) n (go text) le (h text))

token_of_line : (m n more rest all : ℕ) → m < n → all ≡ (1 + m + more) + rest → all + 1 ≤ (1 + n + more) + rest
token_of_line m n more rest all h e = omega arith

module _ (cats : ℕ → ℕ) (end : Option ℕ) where
  lower_text : (name : List ℕ) (rest : List (Item Token)) (after : Place → Given) → ((place : Place) → RestLower (size rest) (after place))
      → (rows : List Row) (number : ℕ) (spot : Spot) (place : Place) → RestLower (page_size (page name number spot rows) + size rest) (text_next cats end name rest after rows number spot place)
  lower_text name rest after h [] number spot place =
      lower_bite _ (bites cats spot) place _ _
      (λ t s is. token_of_line (length s.tail) (length spot.tail) _ (size rest) _ (bites_lower cats spot s t is) (size-cons (Text (page name number s [])) rest))
      (lower_behind _ 0 true (after place) (lower_more (size rest) _ (after place) (omega arith) (h place)))
  lower_text name rest after h (row ∷ rows) number spot place =
      let at = place_at name (add_up number 1) in
      let m = sum_by (λ (row : Row). row_size row.text) rows + size rest in
      lower_bite _ (bites cats spot) place _ _
      (λ t s is. token_of_line (length s.tail) (length spot.tail) _ (size rest) _ (bites_lower cats spot s t is) (size-cons (Text (page name number s (row ∷ rows))) rest))
      (lower_row _ m row.text row.size at _ (let all = sum_by-cons (λ (row : Row). row_size row.text) row rows in omega (arith, all))
      (λ text. lower_more (page_size (page name (add_up number 1) (start (loaded end text)) rows) + size rest) (m + (length text + 2)) _ (let short = loaded-length end text in omega (arith, short))
      (lower_text name rest after h rows (add_up number 1) (start (loaded end text)) at)))

  lower_next : (items : List (Item Token)) (place : Place) → RestLower (size items) (next cats end items place)
  lower_next [] place = tt
  lower_next (Tok t ∷ rest) place = omega (arith, size-cons (Tok t) rest)
  lower_next (Frozen t ∷ rest) place = omega (arith, size-cons (Frozen t) rest)
  lower_next (Text p ∷ rest) place =
      let whole = size-cons (Text p) rest in
      lower_more (page_size p + size rest) _ (next cats end (Text p ∷ rest) place) (omega (arith, whole)) (lower_text p.name rest (next cats end rest) (lower_next rest) p.rows p.number p.spot place)

  -- the definition lowers the size
  pub next_lower : (items rest : List (Item Token)) (place q : Place) (r : Taken) (bytes : ℕ) → next cats end items place ≡ Got r rest q bytes → size rest + 1 ≤ size items
  next_lower items rest place q r bytes is = subst (RestLower (size items)) is (lower_next items place)
