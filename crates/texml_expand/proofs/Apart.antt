-- What an engine stands for where tokens are read alone, and where a text is ended.
use Rattle.std.proofs.Common.{◌≡◌, ◌≤◌, ℕ, Bool, true, false, if◌then◌else◌, List, [], ◌∷◌, ◌++◌, map, length, Result, Ok, Err, OnOk, OnErr, refl, ap, ap₂, sym, subst, ◌∙◌, arith, append-nil}
use Rattle.std.proofs.lemmas.List.Elements.{All-cons, All-head, All-tail}
use Rattle.texml_base.specs.Outside.{Shelf}
use Rattle.texml_token.specs.declared.tokens.Token.{Token as TokenCode}
use Rattle.texml_token.specs.Numbers.{Table, tokens_at, TokensWithin}
use Rattle.texml_token.proofs.Table.{extends_refl}
use Rattle.texml_input.specs.Rest.{Item, Tok, Frozen, Text, item_at, items_at, has_text, end_text, end_rests}
use Rattle.texml_input.specs.Held.{Held as HeldInput, Source, Plain, Marked, File, Fence, rest_of, aside_of, ids_of, room_of, SourceWithin, SourcesWithin, end_first}
use Rattle.texml_input.proofs.Sources.{aside_put, ids_put, room_put, within_put}
use Rattle.texml_input.proofs.Standing.{rest_tokens, rests_ended}
use Rattle.texml_expand.specs.State.{State}
use Rattle.texml_expand.specs.Include.{alone, with_rests, text_ended}
use Rattle.texml_expand.specs.Held.{Held, state_of, Sound, Kept, readers_of, SameFiles, Puts}
use Rattle.texml_expand.proofs.Putting.{with_sources, readers_put}

kept_with : (h : Held) (s : List Source) → Sound h → SourcesWithin (length h.names) s → Kept h (with_sources h s)
kept_with h s k w = record { grows = extends_refl h.names; sound = record { numbered = k.numbered; sources = w; ready = k.ready; kept = k.kept; scope = k.scope; budget = k.budget } }

-- Tokens before a fence

module _ (h : Held) (list : List TokenCode) where
  abbrev pub set_apart : Held
  set_apart = with_sources h (map Plain list ++ Fence ∷ h.input.sources)

  pub state_apart : (shelf : Shelf) → state_of shelf set_apart ≡ alone (tokens_at h.names list) (state_of shelf h)
  state_apart shelf =
      let P : List (Item _) → List (List (Item _)) → State = λ r l. record (state_of shelf h) { rest = r; aside = l } in
      ap (λ r. P r (map (items_at h.names) (aside_of shelf (map Plain list ++ Fence ∷ h.input.sources))))
      (rest_tokens h.names shelf list (Fence ∷ h.input.sources) ∙ append-nil (map Tok (tokens_at h.names list)))
      ∙ ap (λ l. P (map Tok (tokens_at h.names list)) (map (items_at h.names) l)) (aside_put shelf list (Fence ∷ h.input.sources))

  pub kept_apart : Sound h → TokensWithin (length h.names) list → Kept h set_apart
  kept_apart s w =
      kept_with h (map Plain list ++ Fence ∷ h.input.sources) s
      (within_put (length h.names) list (Fence ∷ h.input.sources) w (All-cons (SourceWithin (length h.names)) Fence h.input.sources tt s.sources))

  pub puts_apart : Puts (length list) h set_apart
  puts_apart = record { limit = refl; nesting = refl; begun = refl; room = λ shelf. omega (arith, room_put shelf list (Fence ∷ h.input.sources)) }

  pub files_apart : SameFiles h set_apart
  files_apart = record { ids = ids_put list (Fence ∷ h.input.sources); readers = readers_put list (Fence ∷ h.input.sources) }

-- a fence, and tokens before it unless memory is refused
pub files_fenced : {E : Type 0} (r : Result (Unit {0}) E) (h : Held) (list : List TokenCode) (mid new : HeldInput) → mid ≡ record h.input { sources = Fence ∷ h.input.sources }
    → OnOk r (new ≡ record mid { sources = map Plain list ++ mid.sources }) → OnErr r (new ≡ mid) → SameFiles h (record h { input = new })
files_fenced (Ok v) h list mid new e ok err =
    subst (λ i. SameFiles h (record h { input = i })) (sym (ok ∙ ap (λ (i : HeldInput). record i { sources = map Plain list ++ i.sources }) e)) (files_apart h list)
files_fenced (Err x) h list mid new e ok err = subst (λ i. SameFiles h (record h { input = i })) (sym (err ∙ e)) (record { ids = refl; readers = refl })

-- The first text is ended

text_at : (names : Table) (rest : List (Item TokenCode)) → end_text (items_at names rest) ≡ items_at names (end_text rest)
text_at names [] = refl
text_at names (Tok t ∷ rest) = ap (λ l. item_at names (Tok t) ∷ l) (text_at names rest)
text_at names (Frozen t ∷ rest) = ap (λ l. item_at names (Frozen t) ∷ l) (text_at names rest)
text_at names (Text p ∷ rest) = refl

has_at : (names : Table) (rest : List (Item TokenCode)) → has_text (items_at names rest) ≡ has_text rest
has_at names [] = refl
has_at names (Tok t ∷ rest) = has_at names rest
has_at names (Frozen t ∷ rest) = has_at names rest
has_at names (Text p ∷ rest) = refl

rests_at : (names : Table) (rests : List (List (Item TokenCode))) → end_rests (map (items_at names) rests) ≡ map (items_at names) (end_rests rests)
rests_at names [] = refl
rests_at names (rest ∷ rests) =
    ap₂ (λ r b. r ∷ (if b then map (items_at names) rests else end_rests (map (items_at names) rests))) (text_at names rest) (has_at names rest)
    ∙ ap (λ l. items_at names (end_text rest) ∷ l) (by (has_text rest) (rests_at names rests))
  where
    by : (b : Bool) → end_rests (map (items_at names) rests) ≡ map (items_at names) (end_rests rests)
        → (if b then map (items_at names) rests else end_rests (map (items_at names) rests)) ≡ map (items_at names) (if b then rests else end_rests rests)
    by true e = refl
    by false e = e

within_ended : (count : ℕ) (s : List Source) → SourcesWithin count s → SourcesWithin count (end_first s)
within_ended count [] w = w
within_ended count (Plain t ∷ s) w = All-cons (SourceWithin count) (Plain t) (end_first s) (All-head (SourceWithin count) (Plain t) s w) (within_ended count s (All-tail (SourceWithin count) (Plain t) s w))
within_ended count (Marked t ∷ s) w = All-cons (SourceWithin count) (Marked t) (end_first s) (All-head (SourceWithin count) (Marked t) s w) (within_ended count s (All-tail (SourceWithin count) (Marked t) s w))
within_ended count (File f ∷ s) w = All-cons (SourceWithin count) (File (record f { ended = true })) s tt (All-tail (SourceWithin count) (File f) s w)
within_ended count (Fence ∷ s) w = All-cons (SourceWithin count) Fence (end_first s) tt (within_ended count s (All-tail (SourceWithin count) Fence s w))

ids_ended : (s : List Source) → ids_of (end_first s) ≡ ids_of s
ids_ended [] = refl
ids_ended (Plain t ∷ s) = ids_ended s
ids_ended (Marked t ∷ s) = ids_ended s
ids_ended (File f ∷ s) = refl
ids_ended (Fence ∷ s) = ids_ended s

room_ended : (shelf : Shelf) (s : List Source) → room_of shelf (end_first s) ≤ room_of shelf s
room_ended shelf [] = omega arith
room_ended shelf (Plain t ∷ s) = omega (arith, room_ended shelf s)
room_ended shelf (Marked t ∷ s) = omega (arith, room_ended shelf s)
room_ended shelf (File f ∷ s) = omega arith
room_ended shelf (Fence ∷ s) = room_ended shelf s

readers_ended : (s : List Source) → readers_of (end_first s) ≡ readers_of s
readers_ended [] = refl
readers_ended (Plain t ∷ s) = readers_ended s
readers_ended (Marked t ∷ s) = readers_ended s
readers_ended (File f ∷ s) = refl
readers_ended (Fence ∷ s) = readers_ended s

module _ (h : Held) where
  abbrev pub with_ended : Held
  with_ended = with_sources h (end_first h.input.sources)

  pub state_ended : (shelf : Shelf) → text_ended (state_of shelf h) ≡ state_of shelf with_ended
  state_ended shelf =
      ap (λ rests. with_rests rests (state_of shelf h))
      (rests_at h.names (rest_of shelf h.input.sources ∷ aside_of shelf h.input.sources) ∙ ap (map (items_at h.names)) (sym (rests_ended shelf h.input.sources)))

  pub kept_ended : Sound h → Kept h with_ended
  kept_ended s = kept_with h (end_first h.input.sources) s (within_ended (length h.names) h.input.sources s.sources)

  pub puts_ended : Puts 0 h with_ended
  puts_ended = record { limit = refl; nesting = refl; begun = refl; room = λ shelf. omega (arith, room_ended shelf h.input.sources) }

  pub files_ended : SameFiles h with_ended
  files_ended = record { ids = ids_ended h.input.sources; readers = readers_ended h.input.sources }
