-- Sources, and what they stand for as other files are read.
use Rattle.std.proofs.Common.{◌≡◌, ◌≢◌, ℕ, zero, suc, ◌+◌, ◌*◌, ◌≤◌, Bool, true, false, cond, ◌==◌, IsTrue, ◌<◌, List, [], ◌∷◌, ◌++◌, map, replicate, reverse, length, refl, sym, ap, ap₂, ◌∙◌, subst, arith, inl, inr, append-nil, append_assoc, length-append, take-append-drop, get_or, set, take, drop}
use Rattle.std.proofs.lemmas.Bool.{eq-eqb, ne_eqb, cases_eq, false≢true}
use Rattle.std.proofs.lemmas.List.{reverse-append, drop_more, take_more, take-set, drop-set-lt, get_or-set_same, length-set}
use Rattle.std.proofs.lemmas.List.Sums.{sum_by-cons}
use Rattle.std.proofs.lemmas.List.Elements.{All-cons, All-head, All-tail}
use Rattle.texml_base.specs.Outside.{Shelf, in_use, without, SameAt, IsClosed}
use Rattle.texml_base.proofs.Ids.{in_use-without}
use Rattle.texml_token.specs.Numbers.{Table, Extends, TokenWithin, TokensWithin}
use Rattle.texml_token.specs.declared.tokens.Token.{Token as TokenCode}
use Rattle.texml_token.proofs.Translation.{token_kept, token_more}
use Rattle.texml_text.specs.File.{rows_of_rest}
use Rattle.texml_text.specs.Reader.{Touches, Spends as ReaderSpends}
use Rattle.texml_input.specs.Rest.{Tok, Frozen, Text, page}
use Rattle.texml_input.specs.Held.{Opened, Source, Plain, Marked, File, Fence, page_of, rest_of, aside_of, rest_at, ids_of, fences_of, AreHeld, SourceWithin, SourcesWithin, file_room, room_of, ahead_of, AreLittle, AreSound, IsAtFence, end_first}
use Rattle.texml_input.specs.Keeping.{Holds, Spends, times}
use Rattle.texml_input.specs.Inside.{written, written_all, sources_of}
use Rattle.texml_input.specs.Turning.{TakesList}
use Rattle.texml_input.specs.declared.turning.Frame.{Frame}
use Rattle.texml_input.specs.declared.turning.Frame.TheVariants as frame
use Rattle.texml_input.specs.declared.turning.Turn.{Turn}
use Rattle.texml_input.specs.declared.turning.Turn.TheVariants as turn

-- frames

pub written_all-append : (fs gs : List Frame) → written_all (fs ++ gs) ≡ written_all fs ++ written_all gs
written_all-append [] gs = refl
written_all-append (f ∷ fs) gs = ap (λ l. written f ++ l) (written_all-append fs gs) ∙ sym (append_assoc (written f) (written_all fs) (written_all gs))

-- the last frame stands in front
pub sources_last : (frames popped : List Frame) (x : Frame) → frames ≡ popped ++ x ∷ [] → sources_of frames ≡ written x ++ sources_of popped
sources_last frames popped x e = ap sources_of e ∙ ap written_all (reverse-append popped (x ∷ []))

pub sources_none : (frames : List Frame) → length frames ≡ 0 → sources_of frames ≡ []
sources_none [] h = refl
sources_none (f ∷ frames) h = absurd (omega arith)

pub ruleset fronts = (sources_last, sources_none)

-- tokens

pub rest_put : (shelf : Shelf) (list : List TokenCode) (more : List Source) → rest_of shelf (map Plain list ++ more) ≡ map Tok list ++ rest_of shelf more
rest_put shelf [] more = refl
rest_put shelf (t ∷ list) more = ap (λ l. Tok t ∷ l) (rest_put shelf list more)

pub aside_put : (shelf : Shelf) (list : List TokenCode) (more : List Source) → aside_of shelf (map Plain list ++ more) ≡ aside_of shelf more
aside_put shelf [] more = refl
aside_put shelf (t ∷ list) more = aside_put shelf list more

pub ids_put : (list : List TokenCode) (more : List Source) → ids_of (map Plain list ++ more) ≡ ids_of more
ids_put [] more = refl
ids_put (t ∷ list) more = ids_put list more

pub fences_put : (list : List TokenCode) (more : List Source) → fences_of (map Plain list ++ more) ≡ fences_of more
fences_put [] more = refl
fences_put (t ∷ list) more = fences_put list more

pub room_put : (shelf : Shelf) (list : List TokenCode) (more : List Source) → room_of shelf (map Plain list ++ more) ≡ length list + room_of shelf more
room_put shelf [] more = omega arith
room_put shelf (t ∷ list) more = let h = room_put shelf list more in omega arith

pub ahead_put : (list : List TokenCode) (more : List Source) → ahead_of (map Plain list ++ more) ≡ ahead_of more
ahead_put [] more = refl
ahead_put (t ∷ list) more = ahead_put list more

pub sound_put : (list : List TokenCode) (more : List Source) → AreSound more → AreSound (map Plain list ++ more)
sound_put [] more h = h
sound_put (t ∷ list) more h = sound_put list more h

pub little_put : (list : List TokenCode) (more : List Source) → AreLittle more → AreLittle (map Plain list ++ more)
little_put [] more h = h
little_put (t ∷ list) more h = little_put list more h

pub within_put : (count : ℕ) (list : List TokenCode) (more : List Source) → TokensWithin count list → SourcesWithin count more → SourcesWithin count (map Plain list ++ more)
within_put count [] more h k = k
within_put count (t ∷ list) more h k =
    All-cons (SourceWithin count) (Plain t) (map Plain list ++ more) (All-head (TokenWithin count) t list h) (within_put count list more (All-tail (TokenWithin count) t list h) k)

-- names give what stands behind
within_more : (count : ℕ) (a b : List Source) → SourcesWithin count (a ++ b) → SourcesWithin count b
within_more count [] b h = h
within_more count (x ∷ a) b h = within_more count a b (All-tail (SourceWithin count) x (a ++ b) h)

pub within_behind : (count : ℕ) (all a b : List Source) → all ≡ a ++ b → SourcesWithin count all → SourcesWithin count b
within_behind count all a b e h = within_more count a b (subst (SourcesWithin count) e h)

-- the first token of a list is taken, or the list has ended
pub within_taken : (count : ℕ) (all : List Source) (list : List TokenCode) (more : List Source) (turn : Turn) (after : List Source) → all ≡ map Plain list ++ more → TakesList list more turn after
    → SourcesWithin count all → SourcesWithin count after
within_taken count all list more (turn.Token t frozen) after e k h =
    subst (SourcesWithin count) (sym k.3) (within_behind count all (Plain t ∷ []) (map Plain k.0 ++ more) (e ∙ ap (λ l. map Plain l ++ more) k.1) h)
within_taken count all list more turn.Again after e k h =
    subst (SourcesWithin count) (sym k.1) (within_behind count all (map Plain list) more e h)
within_taken count all list more turn.Loaded after e k h = absurd k
within_taken count all list more turn.Ended after e k h = absurd k
within_taken count all list more turn.End after e k h = absurd k

-- the table of names grows

source_more : (m n : ℕ) → m ≤ n → (x : Source) → SourceWithin m x → SourceWithin n x
source_more m n le (Plain t) h = token_more m n le t h
source_more m n le (Marked t) h = token_more m n le t h
source_more m n le (File f) h = tt
source_more m n le Fence h = tt

pub sources_more : (m n : ℕ) → m ≤ n → (s : List Source) → SourcesWithin m s → SourcesWithin n s
sources_more m n le s h = λ k d lt. source_more m n le _ (h k d lt)

pub rest_grown : (old new : Table) (shelf : Shelf) → Extends old new → (s : List Source) → SourcesWithin (length old) s → rest_at new shelf s ≡ rest_at old shelf s
rest_grown old new shelf g [] h = refl
rest_grown old new shelf g (Plain t ∷ s) h =
    ap₂ (λ a b. Tok a ∷ b) (token_kept old new g t (All-head (SourceWithin (length old)) (Plain t) s h)) (rest_grown old new shelf g s (All-tail (SourceWithin (length old)) (Plain t) s h))
rest_grown old new shelf g (Marked t ∷ s) h =
    ap₂ (λ a b. Frozen a ∷ b) (token_kept old new g t (All-head (SourceWithin (length old)) (Marked t) s h)) (rest_grown old new shelf g s (All-tail (SourceWithin (length old)) (Marked t) s h))
rest_grown old new shelf g (File f ∷ s) h = ap (λ b. Text (page_of shelf f) ∷ b) (rest_grown old new shelf g s (All-tail (SourceWithin (length old)) (File f) s h))
rest_grown old new shelf g (Fence ∷ s) h = refl

-- files that are as before

abbrev pub SameAll : Shelf → Shelf → List Source → Type 0
SameAll old new s = (id : ℕ) → in_use (ids_of s) id ≡ true → SameAt old new id

pub self_used : (id : ℕ) (ids : List ℕ) → in_use (id ∷ ids) id ≡ true
self_used id ids = rw (eq-eqb id id refl) refl

pub behind_used : (id x : ℕ) (ids : List ℕ) → in_use ids x ≡ true → in_use (id ∷ ids) x ≡ true
behind_used id x ids h = by (id == x)
  where
    by : (b : Bool) → cond b true (in_use ids x) ≡ true
    by true = refl
    by false = h

page_same : (old new : Shelf) (f : Opened) → SameAt old new f.reader.id → page_of new f ≡ page_of old f
page_same old new f same = ap (λ l. page f.name f.reader.number f.spot (cond f.ended [] (rows_of_rest f.reader.fresh (f.reader.held ++ l)))) same.left

file_room_same : (old new : Shelf) (f : Opened) → SameAt old new f.reader.id → file_room new f ≡ file_room old f
file_room_same old new f same = ap (λ n. 1 + length f.spot.tail + cond f.ended 0 (3 * length f.reader.held + 4 * n)) same.number

module _ (old new : Shelf) where
  pub rest_same : (s : List Source) → SameAll old new s → rest_of new s ≡ rest_of old s
  rest_same [] h = refl
  rest_same (Plain t ∷ s) h = ap (λ l. Tok t ∷ l) (rest_same s h)
  rest_same (Marked t ∷ s) h = ap (λ l. Frozen t ∷ l) (rest_same s h)
  rest_same (File f ∷ s) h =
      ap₂ (λ p l. Text p ∷ l) (page_same old new f (h f.reader.id (self_used f.reader.id (ids_of s)))) (rest_same s (λ x u. h x (behind_used f.reader.id x (ids_of s) u)))
  rest_same (Fence ∷ s) h = refl

  pub aside_same : (s : List Source) → SameAll old new s → aside_of new s ≡ aside_of old s
  aside_same [] h = refl
  aside_same (Plain t ∷ s) h = aside_same s h
  aside_same (Marked t ∷ s) h = aside_same s h
  aside_same (File f ∷ s) h = aside_same s (λ x u. h x (behind_used f.reader.id x (ids_of s) u))
  aside_same (Fence ∷ s) h = ap₂ (λ a b. a ∷ b) (rest_same s h) (aside_same s h)

  pub room_same : (s : List Source) → SameAll old new s → room_of new s ≡ room_of old s
  room_same [] h = refl
  room_same (Plain t ∷ s) h = ap (λ n. 1 + n) (room_same s h)
  room_same (Marked t ∷ s) h = ap (λ n. 1 + n) (room_same s h)
  room_same (File f ∷ s) h =
      ap₂ (λ a b. a + b) (file_room_same old new f (h f.reader.id (self_used f.reader.id (ids_of s)))) (room_same s (λ x u. h x (behind_used f.reader.id x (ids_of s) u)))
  room_same (Fence ∷ s) h = room_same s h

-- ids that are held

pub used_not : (id : ℕ) (ids : List ℕ) (x : ℕ) → in_use ids id ≡ false → in_use ids x ≡ true → x ≢ id
used_not id ids x none used e = false≢true (sym none ∙ subst (λ k. in_use ids k ≡ true) e used)

apart_not : (id x : ℕ) (ids : List ℕ) → in_use (id ∷ ids) x ≡ false → x ≢ id
apart_not id x ids none e = false≢true (sym none ∙ subst (λ k. in_use (id ∷ ids) k ≡ true) (sym e) (self_used id ids))

apart_behind : (id x : ℕ) (ids : List ℕ) → in_use (id ∷ ids) x ≡ false → in_use ids x ≡ false
apart_behind id x ids none = by (id == x) none
  where
    by : (b : Bool) → cond b true (in_use ids x) ≡ false → in_use ids x ≡ false
    by true h = cc
    by false h = h

held_along : (ids ids' xs : List ℕ) → ((x : ℕ) → in_use xs x ≡ true → IsTrue (in_use ids x) → IsTrue (in_use ids' x)) → AreHeld ids xs → AreHeld ids' xs
held_along ids ids' [] go h = tt
held_along ids ids' (x ∷ xs) go h = (go x (self_used x xs) h.0, h.1, held_along ids ids' xs (λ y u. go y (behind_used x y xs u)) h.2)

held_without : (id : ℕ) (ids xs : List ℕ) → in_use xs id ≡ false → AreHeld ids xs → AreHeld (without id ids) xs
held_without id ids xs none = held_along ids (without id ids) xs (λ x used is. subst IsTrue (sym (in_use-without id x ids (used_not id xs x none used))) is)

-- an id that is taken away stands once less
times_more : (id x : ℕ) (xs : List ℕ) → times id (x ∷ xs) ≡ cond (x == id) 1 0 + times id xs
times_more id x xs = sum_by-cons (λ y. cond (y == id) 1 0) x xs

times_without : (k id : ℕ) (ids : List ℕ) → in_use ids k ≡ true → cond (k == id) 1 0 + times id (without k ids) ≡ times id ids
times_without k id [] h = cc
times_without k id (x ∷ ids) h =
    elim (cases_eq x k) [
      | inl e ↦ rw (eq-eqb x k e) (ap (λ y. cond (y == id) 1 0 + times id ids) (sym e) ∙ sym (times_more id x ids))
      | inr ne ↦ let h2 : in_use ids k ≡ true = rw (ne_eqb x k ne) at h in
          rw (ne_eqb x k ne) (omega (arith, times_without k id ids h2, times_more id x ids, times_more id x (without k ids)))
    ]

-- nothing is done with files
pub holds_refl : (s : Shelf) (a : List Source) → AreHeld s.ids (ids_of a) → Holds s s a a
holds_refl s a h = record {
  tells = refl;
  contents = refl;
  held = h;
  exact = λ e. e;
  closed = λ id. refl;
  fewer = λ id n. n;
  uses = λ id n. refl;
  others = λ id n. record { given = refl; left = refl; number = refl };
}

pub holds_trans : (s t u : Shelf) (a b c : List Source) → Holds s t a b → Holds t u b c → Holds s u a c
holds_trans s t u a b c p q = record {
  tells = q.tells ∙ p.tells;
  contents = q.contents ∙ p.contents;
  held = q.held;
  exact = λ e. q.exact (p.exact e);
  closed = λ id. let x = p.closed id in let y = q.closed id in omega arith;
  fewer = λ id n. q.fewer id (p.fewer id n);
  uses = λ id n. q.uses id (p.fewer id n) ∙ p.uses id n;
  others = λ id n.
      let x = p.others id n in
      let y = q.others id (p.fewer id n) in
      record { given = y.given ∙ x.given; left = y.left ∙ x.left; number = y.number ∙ x.number };
}

-- the same files
pub holds_same : (s t : Shelf) (a b c d : List Source) → ids_of b ≡ ids_of a → ids_of d ≡ ids_of c → Holds s t b d → Holds s t a c
holds_same s t a b c d p q h = record {
  tells = h.tells;
  contents = h.contents;
  held = subst (AreHeld t.ids) q h.held;
  exact = λ e. h.exact (e ∙ sym p) ∙ q;
  closed = λ id. let x = h.closed id in let y = ap (times id) p in let z = ap (times id) q in omega arith;
  fewer = λ id n. subst (λ l. in_use l id ≡ false) q (h.fewer id (subst (λ l. in_use l id ≡ false) (sym p) n));
  uses = λ id n. h.uses id (subst (λ l. in_use l id ≡ false) (sym p) n);
  others = λ id n. h.others id (subst (λ l. in_use l id ≡ false) (sym p) n);
}

-- the file in front is read
module _ (old new : Shelf) (f g : Opened) (more : List Source) (held : AreHeld old.ids (ids_of (File f ∷ more))) (same : g.reader.id ≡ f.reader.id) (t : Touches old new f.reader.id) where
  apart : SameAll old new more
  apart id used = t.others id (used_not f.reader.id (ids_of more) id held.1 used)

  pub rest_read : rest_of new more ≡ rest_of old more
  rest_read = rest_same old new more apart

  pub aside_read : aside_of new more ≡ aside_of old more
  aside_read = aside_same old new more apart

  pub room_read : room_of new more ≡ room_of old more
  room_read = room_same old new more apart

  ids_read : ids_of (File g ∷ more) ≡ ids_of (File f ∷ more)
  ids_read = ap (λ id. id ∷ ids_of more) same

  pub holds_read : Holds old new (File f ∷ more) (File g ∷ more)
  holds_read = record {
    tells = t.tells;
    contents = t.contents;
    held = subst (λ ids. AreHeld ids (ids_of (File g ∷ more))) (sym t.ids) (subst (AreHeld old.ids) (sym ids_read) held);
    exact = λ e. t.ids ∙ e ∙ sym ids_read;
    closed = λ id. let x = ap (times id) t.ids in let y = ap (times id) ids_read in omega arith;
    fewer = λ id n. subst (λ l. in_use l id ≡ false) (sym ids_read) n;
    uses = λ id n. ap (λ l. in_use l id) t.ids;
    others = λ id n. t.others id (apart_not f.reader.id id (ids_of more) n);
  }

  pub spends_read : (n : ℕ) → ReaderSpends old new (length f.reader.held) n (length g.reader.held) → Spends old new (File f ∷ more) (File g ∷ more) n
  spends_read n s = record {
    given = s.given;
    total = s.total;
    balance =
        let b = s.balance in
        let e = ap length ids_read in
        omega arith;
  }

-- the file in front is closed
module _ (old new : Shelf) (f : Opened) (more : List Source) (held : AreHeld old.ids (ids_of (File f ∷ more))) (c : IsClosed old new f.reader.id) where
  apart_closed : SameAll old new more
  apart_closed id used = c.others id (used_not f.reader.id (ids_of more) id held.1 used)

  pub rest_closed : rest_of new more ≡ rest_of old more
  rest_closed = rest_same old new more apart_closed

  pub aside_closed : aside_of new more ≡ aside_of old more
  aside_closed = aside_same old new more apart_closed

  pub room_closed : room_of new more ≡ room_of old more
  room_closed = room_same old new more apart_closed

  pub holds_closed : Holds old new (File f ∷ more) more
  holds_closed = record {
    tells = c.tells;
    contents = c.contents;
    held = subst (λ ids. AreHeld ids (ids_of more)) (sym c.ids) (held_without f.reader.id old.ids (ids_of more) held.1 held.2);
    closed = λ id. let x = ap (times id) c.ids in let y = times_without f.reader.id id old.ids held.0 in let z = times_more id f.reader.id (ids_of more) in omega arith;
    exact = λ e. c.ids ∙ ap (without f.reader.id) e ∙ (rw (eq-eqb f.reader.id f.reader.id refl) refl);
    fewer = λ id n. apart_behind f.reader.id id (ids_of more) n;
    uses = λ id n. ap (λ l. in_use l id) c.ids ∙ in_use-without f.reader.id id old.ids (apart_not f.reader.id id (ids_of more) n);
    others = λ id n. c.others id (apart_not f.reader.id id (ids_of more) n);
  }

  pub spends_closed : length f.reader.held ≤ 4096 → Spends old new (File f ∷ more) more 0
  spends_closed le = record { given = 0; total = c.total ∙ (omega arith); balance = omega arith }

-- sources behind others

pub ids_of-append : (a b : List Source) → ids_of (a ++ b) ≡ ids_of a ++ ids_of b
ids_of-append [] b = refl
ids_of-append (Plain t ∷ a) b = ids_of-append a b
ids_of-append (Marked t ∷ a) b = ids_of-append a b
ids_of-append (File f ∷ a) b = ap (λ l. f.reader.id ∷ l) (ids_of-append a b)
ids_of-append (Fence ∷ a) b = ids_of-append a b

pub sound_append : (a b : List Source) → AreSound a → AreSound b → AreSound (a ++ b)
sound_append [] b h k = k
sound_append (Plain t ∷ a) b h k = sound_append a b h k
sound_append (Marked t ∷ a) b h k = sound_append a b h k
sound_append (File f ∷ a) b h k = (h.0, sound_append a b h.1 k)
sound_append (Fence ∷ a) b h k = sound_append a b h k

pub sound_plain : (list : List TokenCode) → AreSound (map Plain list)
sound_plain [] = tt
sound_plain (t ∷ list) = sound_plain list

pub ids_plain : (list : List TokenCode) → ids_of (map Plain list) ≡ []
ids_plain [] = refl
ids_plain (t ∷ list) = ids_plain list

-- a frame is put in front
pub sound_pushed : (frames new : List Frame) (x : Frame) → new ≡ frames ++ x ∷ [] → AreSound (written x) → AreSound (sources_of frames) → AreSound (sources_of new)
sound_pushed frames new x e h k = subst AreSound (sym (sources_last new frames x e)) (sound_append (written x) (sources_of frames) h k)

pub ids_pushed : (frames new : List Frame) (x : Frame) → new ≡ frames ++ x ∷ [] → length (ids_of (sources_of new)) ≡ length (ids_of (written x)) + length (ids_of (sources_of frames))
ids_pushed frames new x e =
    ap (λ s. length (ids_of s)) (sources_last new frames x e) ∙ ap length (ids_of-append (written x) (sources_of frames)) ∙ length-append (ids_of (written x)) (ids_of (sources_of frames))

-- a list at a fence is empty
pub at_fence : (list : List TokenCode) (more : List Source) → IsAtFence (map Plain list ++ more) → more ≡ map Plain list ++ more
at_fence [] more h = refl
at_fence (t ∷ list) more h = absurd h

-- the first file of sources of which the first have none
pub end_first_behind : (a b : List Source) (f : Opened) → ids_of a ≡ [] → end_first (a ++ File f ∷ b) ≡ a ++ File (record f { ended = true }) ∷ b
end_first_behind [] b f h = refl
end_first_behind (Plain t ∷ a) b f h = ap (λ l. Plain t ∷ l) (end_first_behind a b f h)
end_first_behind (Marked t ∷ a) b f h = ap (λ l. Marked t ∷ l) (end_first_behind a b f h)
end_first_behind (File g ∷ a) b f h = cc
end_first_behind (Fence ∷ a) b f h = ap (λ l. Fence ∷ l) (end_first_behind a b f h)

pub end_first_none : (a : List Source) → ids_of a ≡ [] → end_first a ≡ a
end_first_none [] h = refl
end_first_none (Plain t ∷ a) h = ap (λ l. Plain t ∷ l) (end_first_none a h)
end_first_none (Marked t ∷ a) h = ap (λ l. Marked t ∷ l) (end_first_none a h)
end_first_none (File f ∷ a) h = cc
end_first_none (Fence ∷ a) h = ap (λ l. Fence ∷ l) (end_first_none a h)

-- a frame in the middle
pub sources_at : (frames : List Frame) (i : ℕ) (x : Frame) → i < length frames → x ≡ get_or frames i x
    → sources_of frames ≡ sources_of (drop (i + 1) frames) ++ (written x ++ sources_of (take i frames))
sources_at frames i x lt is =
    ap sources_of (sym (take-append-drop i frames) ∙ ap (λ d. take i frames ++ d) (drop_more frames i x lt ∙ ap (λ y. y ∷ drop (i + 1) frames) (sym is)))
    ∙ ap written_all (reverse-append (take i frames) (x ∷ drop (i + 1) frames))
    ∙ ap (λ r. written_all (r ++ reverse (take i frames))) (reverse-append (x ∷ []) (drop (i + 1) frames))
    ∙ written_all-append (reverse (drop (i + 1) frames) ++ x ∷ []) (reverse (take i frames))
    ∙ ap (λ l. l ++ sources_of (take i frames)) (written_all-append (reverse (drop (i + 1) frames)) (x ∷ []))
    ∙ append_assoc (sources_of (drop (i + 1) frames)) (written x ++ []) (sources_of (take i frames))
    ∙ ap (λ w. sources_of (drop (i + 1) frames) ++ (w ++ sources_of (take i frames))) (append-nil (written x))

pub none_behind : (frames : List Frame) (i : ℕ) (x : Frame) → i < length frames → x ≡ get_or frames i x → ids_of (written x) ≡ [] → ids_of (sources_of (drop (i + 1) frames)) ≡ []
    → ids_of (sources_of (drop i frames)) ≡ []
none_behind frames i x lt is none rest =
    ap (λ l. ids_of (sources_of l)) (drop_more frames i x lt ∙ ap (λ y. y ∷ drop (i + 1) frames) (sym is))
    ∙ ap (λ r. ids_of (written_all r)) (reverse-append (x ∷ []) (drop (i + 1) frames))
    ∙ ap ids_of (written_all-append (reverse (drop (i + 1) frames)) (x ∷ []))
    ∙ ids_of-append (sources_of (drop (i + 1) frames)) (written x ++ [])
    ∙ ap₂ (λ a b. a ++ b) rest (ap ids_of (append-nil (written x)) ∙ none)

-- one frame more is counted
pub ids_taken : (frames : List Frame) (i : ℕ) (x : Frame) → i < length frames → x ≡ get_or frames i x
    → length (ids_of (sources_of (take (i + 1) frames))) ≡ length (ids_of (sources_of (take i frames))) + length (ids_of (written x))
ids_taken frames i x lt is =
    let e = ids_pushed (take i frames) (take (i + 1) frames) x (take_more frames i x lt ∙ ap (λ y. take i frames ++ y ∷ []) (sym is)) in
    omega arith

-- the first file is ended
pub ended_at : (frames : List Frame) (i : ℕ) (f g : Opened) → i < length frames → frame.File f ≡ get_or frames i (frame.File f) → ids_of (sources_of (drop (i + 1) frames)) ≡ []
    → g ≡ record f { ended = true } → sources_of (set frames i (frame.File g)) ≡ end_first (sources_of frames)
ended_at frames i f g lt is none e =
    sources_at (set frames i (frame.File g)) i (frame.File g) (rw length-set lt) (sym (get_or-set_same frames i (frame.File g) (frame.File g) lt))
    ∙ ap₂ (λ a b. sources_of a ++ File g ∷ sources_of b) (drop-set-lt (i + 1) frames i (frame.File g) (omega arith)) (take-set frames i (frame.File g))
    ∙ ap (λ k. sources_of (drop (i + 1) frames) ++ File k ∷ sources_of (take i frames)) e
    ∙ sym (end_first_behind (sources_of (drop (i + 1) frames)) (sources_of (take i frames)) f none)
    ∙ ap end_first (sym (sources_at frames i (frame.File f) lt is))

-- a frame that is no file has no id
pub no_file : (x : Frame) → ((f : Opened) → x ≡ frame.File f → ⊥) → ids_of (written x) ≡ []
no_file (frame.Token t) n = refl
no_file (frame.Frozen t) n = refl
no_file (frame.List list) n = ids_plain list
no_file (frame.Macro list) n = ids_plain list
no_file (frame.File f) n = absurd (n f refl)
no_file frame.Fence n = refl

-- a file that is ended has no fault
pub sound_ended : (a : List Source) → AreSound a → AreSound (end_first a)
sound_ended [] h = h
sound_ended (Plain t ∷ a) h = sound_ended a h
sound_ended (Marked t ∷ a) h = sound_ended a h
sound_ended (File f ∷ a) h = h
sound_ended (Fence ∷ a) h = sound_ended a h

pub sound_fences : (n : ℕ) → AreSound (replicate n Fence)
sound_fences zero = tt
sound_fences (suc n) = sound_fences n
