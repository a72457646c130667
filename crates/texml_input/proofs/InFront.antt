-- A turn of the file in front.
use Rattle.std.proofs.Common.{◌≡◌, ℕ, ◌+◌, ◌≤◌, Bool, true, false, if◌then◌else◌, length, List, [], ◌∷◌, refl, sym, ap, ◌∙◌, subst, arith, Option, Some, Ok, Err}
use Rattle.texml_base.specs.Rising.{add_up}
use Rattle.texml_base.specs.Outside.{Shelf, IsClosed}
use Rattle.texml_token.specs.Numbers.{Table, token_at}
use Rattle.texml_token.specs.declared.tokens.Token.{Token as TokenCode}
use Rattle.texml_text.specs.Lines.{loaded}
use Rattle.texml_text.specs.Reader.{Touches, GivesLine, rows_left, first_size, past_line, block}
use Rattle.texml_text.specs.declared.reader.LineFault.TheVariants as line
use Rattle.texml_mouth.specs.Mouth.{Gives, Dry, Bad, bites}
use Rattle.texml_input.specs.Rest.{Text, Place, start, items_at}
use Rattle.texml_input.specs.Next.{Got, Invalid, NotUtf8, behind, bytes_of, taken, place_at, next}
use Rattle.texml_input.specs.Held.{Opened, Source, File, rows_of, page_of, rest_of, rest_at, aside_of, ids_of, AreHeld, file_room, room_of, front_size, AreLittle, AreLittlePast}
use Rattle.texml_input.specs.Keeping.{Holds}
use Rattle.texml_input.specs.declared.file.Found.TheVariants as found
use Rattle.texml_input.specs.Loading.{at_spot, spoiled, LoadsPage}
use Rattle.texml_input.proofs.Pages.{page_token, page_bad, page_dry, page_ended, page_line, page_not_text, page_bytes}
use Rattle.texml_input.proofs.Sources.{rest_read, aside_read, room_read, holds_read, rest_closed, aside_closed, room_closed, holds_closed, holds_trans}
use Rattle.texml_text.proofs.Cutting.{past_length}

-- the page of a line that was loaded
pub loads_line : (old new : Shelf) (f g : Opened) (end e : Option ℕ) (line : List ℕ) → f.ended ≡ false → g.ended ≡ false → g.spot ≡ start line → g.reader.number ≡ add_up f.reader.number 1 → e ≡ end
    → GivesLine e (rows_left old f.reader) (Ok (Some line)) (rows_left new g.reader) → LoadsPage end (page_of old f) (Ok found.Line) (page_of new g)
loads_line old new f g end e line fe ge spot number same l =
    let of : rows_of old f ≡ rows_left old f.reader = rw fe refl in
    let og : rows_of new g ≡ rows_left new g.reader = rw ge refl in (
      l.0,
      l.1,
      of ∙ l.2 ∙ ap (λ r. record { text = Some l.0; size = l.1 } ∷ r) (sym og),
      spot ∙ ap start (l.3 ∙ ap (λ k. loaded k l.0) same),
      number,
    )

-- a file stands in front, and is read or not
module _ (old new : Shelf) (f g : Opened) (more after : List Source) (is : after ≡ File g ∷ more) (held : AreHeld old.ids (ids_of (File f ∷ more)))
    (same : g.reader.id ≡ f.reader.id) (t : Touches old new f.reader.id) where
  rest_is : (texts : Table) → rest_at texts new after ≡ Text (page_of new g) ∷ rest_at texts old more
  rest_is texts = ap (rest_at texts new) is ∙ ap (λ l. Text (page_of new g) ∷ items_at texts l) (rest_read old new f g more held same t)

  pub aside_is : aside_of new after ≡ aside_of old more
  aside_is = ap (aside_of new) is ∙ aside_read old new f g more held same t

  pub room_is : room_of new after ≡ file_room new g + room_of old more
  room_is = ap (room_of new) is ∙ ap (λ n. file_room new g + n) (room_read old new f g more held same t)

  pub holds_is : Holds old new (File f ∷ more) after
  holds_is = subst (Holds old new (File f ∷ more)) (sym is) (holds_read old new f g more held same t)

  module _ (cats : ℕ → ℕ) (end : Option ℕ) (texts : Table) (place : Place) where
    -- its line gives a token
    pub turn_token : (tok : TokenCode) → page_of new g ≡ page_of old (at_spot f g) → bites cats f.spot ≡ Gives (token_at texts tok) g.spot
        → next cats end (rest_at texts old (File f ∷ more)) place ≡ Got (taken (token_at texts tok) false) (rest_at texts new after) place 0
    turn_token tok p b =
        page_token cats end (rest_at texts old more) (next cats end (rest_at texts old more)) f.name f.reader.number f.spot g.spot (rows_of old f) place (token_at texts tok) b
        ∙ ap (λ l. Got (taken (token_at texts tok) false) l place 0) (ap (λ q. Text q ∷ rest_at texts old more) (sym p) ∙ sym (rest_is texts))

    module _ (dry : f.spot.tail ≡ []) where
      -- its next line is loaded
      pub turn_loaded : g.name ≡ f.name → LoadsPage end (page_of old f) (Ok found.Line) (page_of new g) → (q : Place) → q ≡ place_at f.name g.reader.number
          → next cats end (rest_at texts old (File f ∷ more)) place ≡ behind (first_size (rows_of old f)) false (next cats end (rest_at texts new after) q)
      turn_loaded named l q at =
          page_line cats end (rest_at texts old more) (next cats end (rest_at texts old more)) (page_of old f) dry place (page_of new g) l.0 l.1 named l.2 l.3 l.4
          ∙ ap (λ p. behind (first_size (rows_of old f)) false (next cats end (Text (page_of new g) ∷ rest_at texts old more) p)) (ap (λ n. place_at n g.reader.number) named ∙ sym at)
          ∙ ap (λ l. behind (first_size (rows_of old f)) false (next cats end l q)) (sym (rest_is texts))

      -- its next line is not UTF-8
      pub turn_not_text : g.name ≡ f.name → LoadsPage end (page_of old f) (Err line.NotUtf8) (page_of new g) → (q : Place) → q ≡ place_at f.name g.reader.number
          → next cats end (rest_at texts old (File f ∷ more)) place ≡ NotUtf8 q (first_size (rows_of old f))
      turn_not_text named l q at =
          page_not_text cats end (rest_at texts old more) (next cats end (rest_at texts old more)) (page_of old f) dry place (page_of new g) l.0 named l.1 l.2
          ∙ ap (λ p. NotUtf8 p (first_size (rows_of old f))) (ap (λ n. place_at n g.reader.number) named ∙ sym at)

      -- the loading of its next line broke off
      pub turn_broken : rows_of new g ≡ rows_of old f → front_size new after ≤ bytes_of (next cats end (rest_at texts old (File f ∷ more)) place)
      turn_broken rows =
          subst (λ s. front_size new s ≤ bytes_of (next cats end (rest_at texts old (File f ∷ more)) place)) (sym is)
          (page_bytes cats end (rest_at texts old more) (next cats end (rest_at texts old more)) (page_of old f) dry place (rows_of new g) rows)

    -- nothing is left of its line, wherever that was seen
    pub turn_dry : (other : Opened) → other ≡ at_spot f other → bites cats f.spot ≡ Dry → other.spot.tail ≡ []
        → next cats end (rest_at texts old (File f ∷ more)) place ≡ next cats end (rest_at texts old (File other ∷ more)) place
    turn_dry other p b none =
        page_dry cats end (rest_at texts old more) (next cats end (rest_at texts old more)) f.name f.reader.number f.spot other.spot (rows_of old f) place b none
        ∙ ap (λ k. next cats end (Text (page_of old k) ∷ rest_at texts old more) place) (sym p)

    -- a character of its line may not stand there
    pub turn_invalid : (k c : ℕ) → k ≡ c → bites cats f.spot ≡ Bad c → next cats end (rest_at texts old (File f ∷ more)) place ≡ Invalid k place 0
    turn_invalid k c same b =
        page_bad cats end (rest_at texts old more) (next cats end (rest_at texts old more)) f.name f.reader.number f.spot (rows_of old f) place c b ∙ ap (λ n. Invalid n place 0) (sym same)

    -- a file that is read no further has no line
    pub turn_spoiled : g ≡ spoiled f → front_size new after ≤ bytes_of (next cats end (rest_at texts old (File f ∷ more)) place)
    turn_spoiled s =
        subst (λ k. front_size new k ≤ bytes_of (next cats end (rest_at texts old (File f ∷ more)) place)) (sym is)
        (subst (λ k. first_size (rows_of new k) ≤ bytes_of (next cats end (rest_at texts old (File f ∷ more)) place)) (sym s) (omega arith))

-- a file stands in front, has ended, and is closed
module _ (old mid new : Shelf) (f g : Opened) (more : List Source) (held : AreHeld old.ids (ids_of (File f ∷ more)))
    (same : g.reader.id ≡ f.reader.id) (t : Touches old mid f.reader.id) (c : IsClosed mid new g.reader.id) where
  held_mid : AreHeld mid.ids (ids_of (File g ∷ more))
  held_mid = (holds_read old mid f g more held same t).held

  rest_gone : rest_of new more ≡ rest_of old more
  rest_gone = rest_closed mid new g more held_mid c ∙ rest_read old mid f g more held same t

  pub aside_gone : aside_of new more ≡ aside_of old more
  aside_gone = aside_closed mid new g more held_mid c ∙ aside_read old mid f g more held same t

  pub room_gone : room_of new more ≡ room_of old more
  room_gone = room_closed mid new g more held_mid c ∙ room_read old mid f g more held same t

  pub holds_gone : Holds old new (File f ∷ more) more
  holds_gone = holds_trans old mid new (File f ∷ more) (File g ∷ more) more (holds_read old mid f g more held same t) (holds_closed mid new g more held_mid c)

  pub turn_ended : (cats : ℕ → ℕ) (end : Option ℕ) (texts : Table) (place : Place) → f.spot.tail ≡ [] → rows_of old f ≡ []
      → next cats end (rest_at texts old (File f ∷ more)) place ≡ behind 0 true (next cats end (rest_at texts new more) place)
  turn_ended cats end texts place dry rows =
      page_ended cats end (rest_at texts old more) (next cats end (rest_at texts old more)) (page_of old f) dry place rows
      ∙ ap (λ l. behind 0 true (next cats end (items_at texts l) place)) (sym rest_gone)

past_all : (ended : Bool) (held : List ℕ) → length held ≤ block → (if ended then length held else past_line held) ≤ block
past_all true held le = le
past_all false held le = omega (arith, le, past_length held)

-- little is held of the file in front
pub little_past : (g : Opened) (more after : List Source) → after ≡ File g ∷ more → AreLittle (File g ∷ more) → AreLittlePast after
little_past g more after is h = subst AreLittlePast (sym is) (past_all g.ended g.reader.held h.0, h.1)

pub little_broken : (g : Opened) (more after : List Source) → after ≡ File g ∷ more → g.ended ≡ false → past_line g.reader.held ≤ block → AreLittle more → AreLittlePast after
little_broken g more after is yet le h = subst AreLittlePast (sym is) (subst (λ e. (if e then length g.reader.held else past_line g.reader.held) ≤ block) (sym yet) le, h)
