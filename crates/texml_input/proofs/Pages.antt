-- One step of a text.
use Rattle.std.proofs.Common.{◌≡◌, ℕ, ◌+◌, ◌≤◌, Bool, true, false, List, [], ◌∷◌, refl, sym, ap, ◌∙◌, arith, Option, Some, None}
use Rattle.texml_base.specs.Rising.{add_up}
use Rattle.texml_token.specs.Token.{Token}
use Rattle.texml_text.specs.Lines.{loaded}
use Rattle.texml_text.specs.File.{Row}
use Rattle.texml_text.specs.Reader.{first_size}
use Rattle.texml_mouth.specs.Mouth.{Spot, Gives, Dry, Bad, bites}
use Rattle.texml_input.specs.Rest.{Page, Item, Text, Place, page, start}
use Rattle.texml_input.specs.Next.{Given, Got, AtEnd, Invalid, NotUtf8, behind, bytes_of, taken, place_at, from_row, page_next}

-- bytes that were loaded before are loaded
pub bytes_behind : (n : ℕ) (ended : Bool) (g : Given) → bytes_of (behind n ended g) ≡ n + bytes_of g
bytes_behind n ended (Got r rest place m) = refl
bytes_behind n ended (AtEnd place m) = refl
bytes_behind n ended (Invalid c place m) = refl
bytes_behind n ended (NotUtf8 place m) = refl

row_bytes : (text : Option (List ℕ)) (size : ℕ) (place : Place) (onward : List ℕ → Given) → size ≤ bytes_of (from_row text size place onward)
row_bytes None size place onward = omega arith
row_bytes (Some text) size place onward = omega (arith, bytes_behind size false (onward text))

-- nothing is left of a line
dry : (cats : ℕ → ℕ) (spot : Spot) → spot.tail ≡ [] → bites cats spot ≡ Dry
dry cats spot none = rw none refl

module _ (cats : ℕ → ℕ) (end : Option ℕ) (rest : List (Item Token)) (after : Place → Given) where
  -- the line gives a token
  pub page_token : (name : List ℕ) (number : ℕ) (spot onward : Spot) (rows : List Row) (place : Place) (t : Token) → bites cats spot ≡ Gives t onward
      → page_next cats end rest after (page name number spot rows) place ≡ Got (taken t false) (Text (page name number onward rows) ∷ rest) place 0
  page_token name number spot onward [] place t h = rw h refl
  page_token name number spot onward (row ∷ rows) place t h = rw h refl

  pub page_bad : (name : List ℕ) (number : ℕ) (spot : Spot) (rows : List Row) (place : Place) (c : ℕ) → bites cats spot ≡ Bad c
      → page_next cats end rest after (page name number spot rows) place ≡ Invalid c place 0
  page_bad name number spot [] place c h = rw h refl
  page_bad name number spot (row ∷ rows) place c h = rw h refl

  -- nothing is left of the line, wherever that was seen
  pub page_dry : (name : List ℕ) (number : ℕ) (spot other : Spot) (rows : List Row) (place : Place) → bites cats spot ≡ Dry → other.tail ≡ []
      → page_next cats end rest after (page name number spot rows) place ≡ page_next cats end rest after (page name number other rows) place
  page_dry name number spot other [] place h none = rw h (rw (dry cats other none) refl)
  page_dry name number spot other (row ∷ rows) place h none = rw h (rw (dry cats other none) refl)

-- the next line of a text, of whose line nothing is left
module _ (cats : ℕ → ℕ) (end : Option ℕ) (rest : List (Item Token)) (after : Place → Given) (p : Page) (none : p.spot.tail ≡ []) (place : Place) where
  onward_by : (rows : List Row) → p.rows ≡ rows → page_next cats end rest after p place ≡ page_next cats end rest after (page p.name p.number p.spot rows) place
  onward_by rows is = ap (λ r. page_next cats end rest after (page p.name p.number p.spot r) place) is

  line_next : (row : Row) (rows : List Row) → Given
  line_next row rows =
      from_row row.text row.size (place_at p.name (add_up p.number 1))
      (λ text. page_next cats end rest after (page p.name (add_up p.number 1) (start (loaded end text)) rows) (place_at p.name (add_up p.number 1)))

  line_is : (row : Row) (rows : List Row) → p.rows ≡ row ∷ rows → page_next cats end rest after p place ≡ line_next row rows
  unfolding line_next
  line_is row rows is = onward_by (row ∷ rows) is ∙ (rw (dry cats p.spot none) refl)

  pub page_ended : p.rows ≡ [] → page_next cats end rest after p place ≡ behind 0 true (after place)
  page_ended is = onward_by [] is ∙ (rw (dry cats p.spot none) refl)

  pub page_line : (q : Page) (text : List ℕ) (size : ℕ) → q.name ≡ p.name → p.rows ≡ record { text = Some text; size = size } ∷ q.rows → q.spot ≡ start (loaded end text) → q.number ≡ add_up p.number 1
      → page_next cats end rest after p place ≡ behind (first_size p.rows) false (page_next cats end rest after q (place_at q.name q.number))
  unfolding line_next
  page_line q text size name is spot number =
      line_is (record { text = Some text; size = size }) q.rows is
      ∙ ap (λ r. behind (first_size r) false (page_next cats end rest after (page p.name (add_up p.number 1) (start (loaded end text)) q.rows) (place_at p.name (add_up p.number 1)))) (sym is)
      ∙ ap (λ s. behind (first_size p.rows) false (page_next cats end rest after (page p.name (add_up p.number 1) s q.rows) (place_at p.name (add_up p.number 1)))) (sym spot)
      ∙ ap (λ n. behind (first_size p.rows) false (page_next cats end rest after (page p.name n q.spot q.rows) (place_at p.name n))) (sym number)
      ∙ ap (λ n. behind (first_size p.rows) false (page_next cats end rest after (page n q.number q.spot q.rows) (place_at n q.number))) (sym name)

  pub page_not_text : (q : Page) (size : ℕ) → q.name ≡ p.name → p.rows ≡ record { text = None; size = size } ∷ q.rows → q.number ≡ add_up p.number 1
      → page_next cats end rest after p place ≡ NotUtf8 (place_at q.name q.number) (first_size p.rows)
  unfolding line_next
  page_not_text q size name is number =
      line_is (record { text = None; size = size }) q.rows is
      ∙ ap (λ r. NotUtf8 (place_at p.name (add_up p.number 1)) (first_size r)) (sym is)
      ∙ ap (λ n. NotUtf8 (place_at p.name n) (first_size p.rows)) (sym number)
      ∙ ap (λ n. NotUtf8 (place_at n q.number) (first_size p.rows)) (sym name)

  -- the line that is loaded is among the bytes that are loaded
  pub page_bytes : (rows : List Row) → rows ≡ p.rows → first_size rows ≤ bytes_of (page_next cats end rest after p place)
  unfolding line_next
  page_bytes [] is = omega arith
  page_bytes (row ∷ rows) is = rw (line_is row rows (sym is)) (row_bytes row.text row.size _ _)
