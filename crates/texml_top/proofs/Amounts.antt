-- What a run reads of its files, in bytes. Of a file that holds little past the line that was being loaded all that it holds is little, beside that line.
use Rattle.std.proofs.Common.{◌≡◌, ◌+◌, ◌*◌, ◌≤◌, ◌==◌, ℕ, zero, suc, Bool, true, false, ◌&&◌, if◌then◌else◌, List, [], ◌∷◌, ◌++◌, length, length-append, drop, Option, Result, Ok, Err, refl, sym, ap, ◌∙◌, subst, arith}
use Rattle.std.specs.Str.Lines.{strip_carriage_return}
use Rattle.texml_base.specs.Outside.{Shelf}
use Rattle.texml_text.specs.Lines.{line_feed}
use Rattle.texml_text.specs.File.{Row, row, last_row, rows_behind, rows_of_rest, with_bytes, begins_with_mark}
use Rattle.texml_text.specs.Reader.{block, past_line, first_size, rows_left}
use Rattle.texml_text.proofs.Cutting.{past_length}
use Rattle.texml_base.specs.Rising.{add_up}
use Rattle.texml_input.specs.Rest.{Page}
use Rattle.texml_input.specs.Held.{Opened, Source, Plain, Marked, File, Fence, fresh_file, ids_of, ahead_of, AreLittle, AreLittlePast, front_size}
use Rattle.texml_expand.specs.declared.stop.Stop.{Stop}
use Rattle.texml_expand.specs.State.{State}
use Rattle.texml_expand.specs.Held.{Held, state_of}
use Rattle.texml_expand.specs.Spending.{AreLittleIf, SpentBy}
use Rattle.texml_expand.proofs.Readings.{decides_at}
use Rattle.texml_assign.specs.Loop.{loops}
use Rattle.texml_top.specs.Request.{Request}
use Rattle.texml_top.specs.Gather.{nothing_yet}
use Rattle.texml_top.specs.Digest.{digestion, digests}
use Rattle.texml_top.specs.Outcome.{main_text, first_state}
use Rattle.texml_top.specs.Start.{IsFirst, IsBefore}
use Rattle.texml_top.specs.Reading.{ReadsFrom, ReadsFirst, ReadsText, ReadsAsked}
use Rattle.texml_top.specs.declared.status.Status.{Status}
use Rattle.texml_top.proofs.Digesting.{lawful_digests}

-- a line has the bytes that stand before its end
size_last : (line : List ℕ) → length line ≤ first_size (last_row line)
size_last [] = omega arith
size_last (x ∷ line) = omega arith

size_if : (c : Bool) (line : List ℕ) (b : ℕ) (bytes : List ℕ) → length (line ++ b ∷ []) ≤ first_size (rows_behind (line ++ b ∷ []) bytes)
    → length line ≤ first_size (if c then row (strip_carriage_return line) (length line + 1) ∷ rows_behind [] bytes else rows_behind (line ++ b ∷ []) bytes)
size_if true line b bytes h = omega arith
size_if false line b bytes h = omega (arith, h, length-append line (b ∷ []))

size_behind : (bytes line : List ℕ) → length line ≤ first_size (rows_behind line bytes)
size_behind [] line = size_last line
size_behind (b ∷ bytes) line = size_if (b == line_feed) line b bytes (size_behind bytes (line ++ b ∷ []))

held_if : (c : Bool) (line : List ℕ) (b : ℕ) (held left : List ℕ) → length (line ++ b ∷ []) + length held ≤ past_line held + first_size (rows_behind (line ++ b ∷ []) (held ++ left))
    → length line + length (b ∷ held) ≤ (if c then length held else past_line held) + first_size (if c then row (strip_carriage_return line) (length line + 1) ∷ rows_behind [] (held ++ left) else rows_behind (line ++ b ∷ []) (held ++ left))
held_if true line b held left h = omega arith
held_if false line b held left h = omega (arith, h, length-append line (b ∷ []))

held_behind : (held line left : List ℕ) → length line + length held ≤ past_line held + first_size (rows_behind line (held ++ left))
held_behind [] line left = omega (arith, size_behind left line)
held_behind (b ∷ held) line left = held_if (b == line_feed) line b held left (held_behind held (line ++ b ∷ []) left)

-- past the first line of more bytes no fewer stand
past_if : (c : Bool) (bytes : List ℕ) → past_line bytes ≤ (if c then length bytes else past_line bytes)
past_if true bytes = past_length bytes
past_if false bytes = omega arith

past_more : (b : ℕ) (bytes : List ℕ) → past_line bytes ≤ past_line (b ∷ bytes)
past_more b bytes = past_if (b == line_feed) bytes

short_if : (c : Bool) (bytes : List ℕ) → (if c then length bytes else past_line bytes) ≤ length bytes
short_if true bytes = omega arith
short_if false bytes = past_length bytes

past_short : (b : ℕ) (bytes : List ℕ) → past_line (b ∷ bytes) ≤ length bytes
past_short b bytes = short_if (b == line_feed) bytes

-- a byte order mark is three bytes of the first line
marked_rows : (held : List ℕ) (rows : List Row) (short : ℕ) → past_line held ≤ short → short + 1 ≤ length held → length held ≤ past_line held + first_size rows → past_line held ≤ block → suc (suc (suc (length held))) ≤ block + first_size (with_bytes 3 rows)
marked_rows held [] short p s h le = absurd (omega (arith, p, s, h))
marked_rows held (r ∷ rows) short p s h le = omega (arith, h, le)

marked : (held left : List ℕ) → past_line held ≤ block → length held ≤ block + first_size (with_bytes 3 (rows_behind [] (drop 3 (held ++ left))))
marked [] left le = omega arith
marked (a ∷ []) left le = omega arith
marked (a ∷ b ∷ []) left le = omega arith
marked (a ∷ b ∷ c ∷ []) left le = omega arith
marked (a ∷ b ∷ c ∷ d ∷ held) left le =
    marked_rows (d ∷ held) (rows_behind [] (d ∷ held ++ left)) (length held) (past_short d held) (omega arith) (omega (arith, held_behind (d ∷ held) [] left))
    (omega (arith, le, past_more a (b ∷ c ∷ d ∷ held), past_more b (c ∷ d ∷ held), past_more c (d ∷ held)))

held_by : (c : Bool) (held left : List ℕ) → past_line held ≤ block → length held ≤ block + first_size (if c then with_bytes 3 (rows_behind [] (drop 3 (held ++ left))) else rows_behind [] (held ++ left))
held_by true held left le = marked held left le
held_by false held left le = omega (arith, le, held_behind held [] left)

pub held_little : (fresh : Bool) (held left : List ℕ) → past_line held ≤ block → length held ≤ block + first_size (rows_of_rest fresh (held ++ left))
held_little fresh held left le = held_by (fresh && begins_with_mark (held ++ left)) held left le

-- little is ahead of each file
pub ahead_little : (s : List Source) → AreLittle s → ahead_of s ≤ block * length (ids_of s)
ahead_little [] h = omega arith
ahead_little (Plain t ∷ s) h = ahead_little s h
ahead_little (Marked t ∷ s) h = ahead_little s h
ahead_little (File f ∷ s) h = omega (arith, h.0, ahead_little s h.1)
ahead_little (Fence ∷ s) h = ahead_little s h

-- What a run reads

-- the front file holds little beside the line that was being loaded
front_little : (shelf : Shelf) (f : Opened) (s : List Source) → AreLittlePast (File f ∷ s) → length f.reader.held ≤ block + front_size shelf (File f ∷ s)
front_little shelf f s h = at f.ended refl
  where
    at : (e : Bool) → f.ended ≡ e → length f.reader.held ≤ block + first_size (if f.ended then [] else rows_left shelf f.reader)
    at true e =
        let le = subst (λ (b : Bool). (if b then length f.reader.held else past_line f.reader.held) ≤ block) e h.0 in
        omega (arith, le)
    at false e =
        let le = subst (λ (b : Bool). (if b then length f.reader.held else past_line f.reader.held) ≤ block) e h.0 in
        subst (λ (b : Bool). length f.reader.held ≤ block + first_size (if b then [] else rows_left shelf f.reader)) (sym e) (held_little f.reader.fresh f.reader.held (shelf.left f.reader.id) le)

ahead_past_line : (shelf : Shelf) (s : List Source) → AreLittlePast s → ahead_of s ≤ front_size shelf s + block * length (ids_of s)
ahead_past_line shelf [] h = omega arith
ahead_past_line shelf (Plain t ∷ s) h = omega (arith, ahead_little s h)
ahead_past_line shelf (Marked t ∷ s) h = omega (arith, ahead_little s h)
ahead_past_line shelf (File f ∷ s) h = omega (arith, front_little shelf f s h, ahead_little s h.1)
ahead_past_line shelf (Fence ∷ s) h = omega (arith, ahead_little s h)

ahead_if : (breaks : Bool) (shelf : Shelf) (s : List Source) → AreLittleIf breaks s → ahead_of s ≤ (if breaks then front_size shelf s else 0) + block * length (ids_of s)
ahead_if true shelf s h = ahead_past_line shelf s h
ahead_if false shelf s h = omega (arith, ahead_little s h)

-- by what digestion does
pub reads_from : {B : Type 0} (r : Result B Stop) (s : State) (old new : Shelf) (a b : List Source) → SpentBy (λ n. loops digestion nothing_yet n s) r old new a b → ReadsFrom s a old new
reads_from r s old new a b p =
    let q = p.spent in
    let ahead = ahead_if q.breaks new b q.little in
    record { answer = p.answer; decides = p.given; given = q.given; total = q.total; few = omega (arith, q.within, q.files, q.balance, ahead) }

-- nothing is digested
pub reads_nothing : (s : State) (shelf : Shelf) (a : List Source) → AreLittle a → ReadsFrom s a shelf shelf
reads_nothing s shelf a little =
    let h = lawful_digests.settles s in
    record {
      answer = digests s h.at;
      decides = decides_at (λ n. loops digestion nothing_yet n s) h;
      given = 0;
      total = omega arith;
      few = omega (arith, ahead_little a little);
    }

pub is_before : (engine : Held) (id : ℕ) (name : List ℕ) → engine.input.sources ≡ File (fresh_file id name) ∷ [] → IsBefore engine
is_before engine id name e = record {
  little = subst AreLittle (sym e) (omega arith, tt);
  ahead = ap ahead_of e;
  one = ap (λ s. length (ids_of s)) e;
}

-- a run that has started
pub reads_started : (r : Result Request ℕ) (contents : List ℕ → Option (List ℕ)) (request : Request) (first old new last : Shelf) (engine : Held) → r ≡ Ok request
    → IsFirst contents request.file request.limit (main_text contents request.file) old engine → IsBefore engine → old.total ≡ first.total → ReadsFrom (state_of old engine) engine.input.sources old new → last.total ≡ new.total
    → ReadsAsked r contents first last
reads_started r contents request first old new last engine e start before same p closed =
    subst (λ r. ReadsAsked r contents first last) (sym e)
    (subst (λ text. ReadsText request contents text first last) (sym start.1)
    (subst (λ s. ReadsFirst s first last) start.2
    (record { answer = p.answer; decides = p.decides; given = p.given; total = closed ∙ p.total ∙ ap (λ n. add_up n p.given) same; few = omega (arith, p.few, before.ahead, before.one) })))

-- one that can't start
pub reads_not_text : (request : Request) (contents : List ℕ → Option (List ℕ)) (first last : Shelf) (text : Result Page Status) → last.total ≡ first.total → ReadsText request contents text first last
reads_not_text request contents first last (Ok text) e =
    let h = lawful_digests.settles (first_state contents request.file request.limit text) in
    record {
      answer = digests (first_state contents request.file request.limit text) h.at;
      decides = decides_at (λ n. loops digestion nothing_yet n (first_state contents request.file request.limit text)) h;
      given = 0;
      total = e ∙ omega arith;
      few = omega arith;
    }
reads_not_text request contents first last (Err s) e = e

pub reads_not : (r : Result Request ℕ) (contents : List ℕ → Option (List ℕ)) (first last : Shelf) → last.total ≡ first.total → ReadsAsked r contents first last
reads_not (Ok request) contents first last e = reads_not_text request contents first last (main_text contents request.file) e
reads_not (Err which) contents first last e = e
