-- The name of a file, step by step.
use Rattle.std.proofs.Common.{◌≡◌, ℕ, length, List, [], ◌∷◌, Option, None, Result, Ok, Err, refl, sym, ap, subst, Bool, arith}
use Rattle.std.proofs.lemmas.List.Elements.{All-tail}
use Rattle.texml_base.specs.Outside.{Shelf}
use Rattle.texml_token.specs.Token.{Token}
use Rattle.texml_input.specs.Next.{Taken}
use Rattle.texml_input.specs.Held.{Source, Plain, Marked, File, Fence, IsAtFence, unfenced, ids_of, room_of, SourceWithin, SourcesWithin}
use Rattle.texml_watch.specs.declared.record.Record.{Record}
use Rattle.texml_expand.specs.declared.stop.Stop.{Stop}
use Rattle.texml_expand.specs.declared.gathering.Gathering.TheVariants.{FileName, All}
use Rattle.texml_expand.specs.State.{Done, nothing, give}
use Rattle.texml_expand.specs.Include.{taken_up, argument_alone, all_left, bytes_of, characters, name_argument, plain_name, peeked, begins_group, name_by, file_name}
use Rattle.texml_expand.specs.Expand.{level}
use Rattle.texml_expand.specs.Contract.{Outside}
use Rattle.texml_expand.specs.Held.{Held, readers_of, state_of, Sound, Kept, Owns, Shrinks}
use Rattle.texml_expand.specs.Doing.{Does}
use Rattle.texml_expand.proofs.Lawful.{lawful_give, lawful_gather}
use Rattle.texml_expand.proofs.Including.{lawful_peeked, name_behind, lawful_name_behind, lawful_argument_alone, up_with, lawful_up_with, lawful_all_left, lawful_characters, characters_left, lawful_characters_left}
use Rattle.texml_token.proofs.Table.{extends_refl}
use Rattle.texml_expand.proofs.Doing.{does_silent, does_stop, does_then}

module _ {T : Type 0} (hear part : T → Record → T → Type 0) where
  -- what comes behind spaces
  pub name_unseen : (e : Stop) (old new : Held) (f g : Outside) (a b : T) → Does hear part (λ n. peeked) (Err e) old new f g a b → Does hear part (λ n. file_name (level n)) (Err e) old new f g a b
  name_unseen e old new f g a b d = does_stop hear part (λ c. peeked) name_behind lawful_peeked lawful_name_behind e old new f g a b d

  pub name_seen : (t : Option Taken) (x : Bool) (r : Result (List ℕ) Stop) (old mid new : Held) (f g h : Outside) (a b c : T) → x ≡ begins_group t → Does hear part (λ n. peeked) (Ok t) old mid f g a b → Does hear part (λ n. name_by (level n) x) r mid new g h b c
      → Does hear part (λ n. file_name (level n)) r old new f h a c
  name_seen t x r old mid new f g h a b c e d k =
      does_then hear part (λ c. peeked) name_behind lawful_peeked lawful_name_behind t r old mid new f g h a b c d (subst (λ y. Does hear part (λ n. name_by (level n) y) r mid new g h b c) e k)

  -- characters
  pub plain_stops : (e : Stop) (old new : Held) (f g : Outside) (a b : T) → Does hear part (λ n. (level n).gather FileName []) (Err e) old new f g a b → Does hear part (λ n. plain_name (level n)) (Err e) old new f g a b
  plain_stops e old new f g a b d = does_stop hear part (λ c. c.gather FileName []) (λ list c. give (bytes_of list)) (lawful_gather FileName) (λ list. lawful_give (bytes_of list)) e old new f g a b d

  pub plain_does : (list : List Token) (r : Result (List ℕ) Stop) (old mid new : Held) (f g h : Outside) (a b c : T) → Does hear part (λ n. (level n).gather FileName []) (Ok list) old mid f g a b → Does hear part (λ n. give (bytes_of list)) r mid new g h b c
      → Does hear part (λ n. plain_name (level n)) r old new f h a c
  plain_does list r old mid new f g h a b c d k = does_then hear part (λ c. c.gather FileName []) (λ list c. give (bytes_of list)) (lawful_gather FileName) (λ list. lawful_give (bytes_of list)) list r old mid new f g h a b c d k

  -- an argument
  pub argument_stops : (e : Stop) (old new : Held) (f g : Outside) (a b : T) → Does hear part (λ n. argument_alone) (Err e) old new f g a b → Does hear part (λ n. name_argument (level n)) (Err e) old new f g a b
  argument_stops e old new f g a b d = does_stop hear part (λ c. argument_alone) (λ v. characters_left) lawful_argument_alone (λ v. lawful_characters_left) e old new f g a b d

  argument_then : (r : Result (List ℕ) Stop) (old mid new : Held) (f g h : Outside) (a b c : T) → Does hear part (λ n. argument_alone) (Ok tt) old mid f g a b → Does hear part (λ n. characters_left (level n)) r mid new g h b c
      → Does hear part (λ n. name_argument (level n)) r old new f h a c
  argument_then r old mid new f g h a b c d k = does_then hear part (λ c. argument_alone) (λ v. characters_left) lawful_argument_alone (λ v. lawful_characters_left) tt r old mid new f g h a b c d k

  pub argument_unread : (e : Stop) (old mid new : Held) (f g h : Outside) (a b c : T) → Does hear part (λ n. argument_alone) (Ok tt) old mid f g a b → Does hear part (λ n. all_left (level n)) (Err e) mid new g h b c → Does hear part (λ n. name_argument (level n)) (Err e) old new f h a c
  argument_unread e old mid new f g h a b c d k = argument_then (Err e) old mid new f g h a b c d (does_stop hear part all_left (λ list c. characters list) lawful_all_left lawful_characters e mid new g h b c k)

  pub argument_does : (list : List Token) (r : Result (List ℕ) Stop) (old mid now new : Held) (f g h i : Outside) (a b c d : T) → Does hear part (λ n. argument_alone) (Ok tt) old mid f g a b → Does hear part (λ n. all_left (level n)) (Ok list) mid now g h b c
      → Does hear part (λ n. characters list) r now new h i c d → Does hear part (λ n. name_argument (level n)) r old new f i a d
  argument_does list r old mid now new f g h i a b c d x y z =
      argument_then r old mid new f g i a b d x (does_then hear part all_left (λ list c. characters list) lawful_all_left lawful_characters list r mid now new g h i b c d y z)

  -- all that is left
  pub left_stops : (e : Stop) (old new : Held) (f g : Outside) (a b : T) → Does hear part (λ n. (level n).gather All []) (Err e) old new f g a b → Does hear part (λ n. all_left (level n)) (Err e) old new f g a b
  left_stops e old new f g a b d = does_stop hear part (λ c. c.gather All []) (λ list c. up_with list) (lawful_gather All) lawful_up_with e old new f g a b d

  pub left_does : (list : List Token) (r : Result (List Token) Stop) (old mid new : Held) (f g h : Outside) (a b c : T) → Does hear part (λ n. (level n).gather All []) (Ok list) old mid f g a b → Does hear part (λ n. up_with list) r mid new g h b c
      → Does hear part (λ n. all_left (level n)) r old new f h a c
  left_does list r old mid new f g h a b c d k = does_then hear part (λ c. c.gather All []) (λ list c. up_with list) (lawful_gather All) lawful_up_with list r old mid new f g h a b c d k

-- What was set aside is read again

abbrev pub with_sources : List Source → Held → Held
with_sources s h = record h { input = record h.input { sources = s } }

pub unfenced_state : (shelf : Shelf) (h : Held) (s : List Source) → IsAtFence s → state_of shelf (with_sources (unfenced s) h) ≡ taken_up (state_of shelf (with_sources s h))
unfenced_state shelf h [] at = refl
unfenced_state shelf h (Fence ∷ s) at = refl
unfenced_state shelf h (Plain t ∷ s) at = absurd at
unfenced_state shelf h (Marked t ∷ s) at = absurd at
unfenced_state shelf h (File f ∷ s) at = absurd at

pub unfenced_ids : (s : List Source) → IsAtFence s → ids_of (unfenced s) ≡ ids_of s
unfenced_ids [] at = refl
unfenced_ids (Fence ∷ s) at = refl
unfenced_ids (Plain t ∷ s) at = absurd at
unfenced_ids (Marked t ∷ s) at = absurd at
unfenced_ids (File f ∷ s) at = absurd at

pub unfenced_readers : (s : List Source) → IsAtFence s → readers_of (unfenced s) ≡ readers_of s
unfenced_readers [] at = refl
unfenced_readers (Fence ∷ s) at = refl
unfenced_readers (Plain t ∷ s) at = absurd at
unfenced_readers (Marked t ∷ s) at = absurd at
unfenced_readers (File f ∷ s) at = absurd at

pub unfenced_room : (shelf : Shelf) (s : List Source) → IsAtFence s → room_of shelf (unfenced s) ≡ room_of shelf s
unfenced_room shelf [] at = refl
unfenced_room shelf (Fence ∷ s) at = refl
unfenced_room shelf (Plain t ∷ s) at = absurd at
unfenced_room shelf (Marked t ∷ s) at = absurd at
unfenced_room shelf (File f ∷ s) at = absurd at

pub unfenced_within : (count : ℕ) (s : List Source) → IsAtFence s → SourcesWithin count s → SourcesWithin count (unfenced s)
unfenced_within count [] at w = w
unfenced_within count (Fence ∷ s) at w = All-tail (SourceWithin count) Fence s w
unfenced_within count (Plain t ∷ s) at w = absurd at
unfenced_within count (Marked t ∷ s) at w = absurd at
unfenced_within count (File f ∷ s) at w = absurd at

unfenced_kept : (h : Held) → IsAtFence h.input.sources → Sound h → Kept h (with_sources (unfenced h.input.sources) h)
unfenced_kept h at s = record {
  grows = extends_refl h.names;
  sound = record { numbered = s.numbered; sources = unfenced_within (length h.names) h.input.sources at s.sources; ready = s.ready; kept = s.kept; scope = s.scope; budget = s.budget };
}

pub unfenced_shrinks : (k : ℕ) (a b : Shelf) (old mid : Held) → IsAtFence mid.input.sources → Shrinks k a old b mid → Shrinks k a old b (with_sources (unfenced mid.input.sources) mid)
unfenced_shrinks k a b old mid at s = record {
  limit = s.limit;
  nesting = s.nesting;
  begun = s.begun;
  room = λ e. let same = unfenced_room b mid.input.sources at in let less = s.room e in omega (arith, same, less);
  within = s.within;
}

module _ {T : Type 0} (hear part : T → Record → T → Type 0) where
  pub up_does : (list : List Token) (h : Held) (f : Outside) (a : T) → IsAtFence h.input.sources → Sound h → h.stop ≡ None → Owns f.shelf h → Does hear part (λ n. up_with list) (Ok list) h (with_sources (unfenced h.input.sources) h) f f a a
  up_does list h f a at sound running owns =
      does_silent hear part (λ c. up_with list) (lawful_up_with list) (Ok list) h (with_sources (unfenced h.input.sources) h) f a (ap (λ s. Done list s nothing) (sym (unfenced_state f.shelf h h.input.sources at))) running tt
      (unfenced_kept h at sound) (record { names = extends_refl h.names; begun = omega arith; within = λ b. b; limit = refl; writes = omega arith }) (record { ids = unfenced_ids h.input.sources at; readers = unfenced_readers h.input.sources at }) owns
