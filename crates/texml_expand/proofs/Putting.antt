-- What an engine stands for when tokens are put before its rest.
use Rattle.std.proofs.Common.{◌≡◌, ◌-◌, ◌++◌, ◌∷◌, Bool, true, false, List, [], map, length, refl, ap, ◌∙◌, arith}
use Rattle.texml_base.specs.Outside.{Shelf}
use Rattle.texml_token.specs.declared.tokens.Token.{Token as TokenCode}
use Rattle.texml_token.specs.Numbers.{token_at, tokens_at, TokenWithin, TokensWithin}
use Rattle.texml_token.proofs.Table.{extends_refl}
use Rattle.texml_input.specs.Rest.{Tok, items_at}
use Rattle.texml_input.specs.Held.{Source, Plain, back_source, aside_of, rest_at, SourcesWithin}
use Rattle.texml_input.proofs.Sources.{aside_put, ids_put, room_put, within_put}
use Rattle.texml_input.proofs.Standing.{rest_tokens, within_back}
use Rattle.texml_expand.specs.State.{State}
use Rattle.texml_expand.specs.Expand.{put, back, finished}
use Rattle.texml_expand.specs.Held.{Held, state_of, Sound, Kept, readers_of, SameFiles, Puts}

-- other sources are in front
abbrev pub with_sources : Held → List Source → Held
with_sources h s = record h { input = record h.input { sources = s } }

-- what is set aside stays where only the front changes
stands : (h : Held) (shelf : Shelf) (s : List Source) → aside_of shelf s ≡ aside_of shelf h.input.sources
    → state_of shelf (with_sources h s) ≡ record (state_of shelf h) { rest = rest_at h.names shelf s }
stands h shelf s e = ap (λ a. record (state_of shelf h) { rest = rest_at h.names shelf s; aside = map (items_at h.names) a }) e

pub state_put : (h : Held) (list : List TokenCode) (shelf : Shelf) → state_of shelf (with_sources h (map Plain list ++ h.input.sources)) ≡ put (tokens_at h.names list) (state_of shelf h)
state_put h list shelf =
    stands h shelf (map Plain list ++ h.input.sources) (aside_put shelf list h.input.sources) ∙ ap (λ rest. record (state_of shelf h) { rest = rest }) (rest_tokens h.names shelf list h.input.sources)

pub state_back : (h : Held) (t : TokenCode) (frozen : Bool) (shelf : Shelf) → state_of shelf (with_sources h (back_source t frozen ∷ h.input.sources)) ≡ back (token_at h.names t) frozen (state_of shelf h)
state_back h t true shelf = refl
state_back h t false shelf = refl

sound_put : (h : Held) (s : List Source) → Sound h → SourcesWithin (length h.names) s → Sound (with_sources h s)
sound_put h s k w = record { numbered = k.numbered; sources = w; ready = k.ready; kept = k.kept; scope = k.scope; budget = k.budget }

pub kept_put : (h : Held) (list : List TokenCode) → Sound h → TokensWithin (length h.names) list → Kept h (with_sources h (map Plain list ++ h.input.sources))
kept_put h list s w = record { grows = extends_refl h.names; sound = sound_put h _ s (within_put (length h.names) list h.input.sources w s.sources) }

pub kept_back : (h : Held) (t : TokenCode) (frozen : Bool) → Sound h → TokenWithin (length h.names) t → Kept h (with_sources h (back_source t frozen ∷ h.input.sources))
kept_back h t frozen s w = record { grows = extends_refl h.names; sound = sound_put h _ s (within_back (length h.names) t frozen h.input.sources w s.sources) }

pub puts_put : (h : Held) (list : List TokenCode) → Puts (length list) h (with_sources h (map Plain list ++ h.input.sources))
puts_put h list = record { limit = refl; nesting = refl; begun = refl; room = λ shelf. omega (arith, room_put shelf list h.input.sources) }

pub puts_back : (h : Held) (t : TokenCode) (frozen : Bool) → Puts 1 h (with_sources h (back_source t frozen ∷ h.input.sources))
puts_back h t true = record { limit = refl; nesting = refl; begun = refl; room = λ shelf. omega arith }
puts_back h t false = record { limit = refl; nesting = refl; begun = refl; room = λ shelf. omega arith }

pub readers_put : (list : List TokenCode) (s : List Source) → readers_of (map Plain list ++ s) ≡ readers_of s
readers_put [] s = refl
readers_put (t ∷ list) s = readers_put list s

pub files_put : (h : Held) (list : List TokenCode) → SameFiles h (with_sources h (map Plain list ++ h.input.sources))
files_put h list = record { ids = ids_put list h.input.sources; readers = readers_put list h.input.sources }

pub files_back : (h : Held) (t : TokenCode) (frozen : Bool) → SameFiles h (with_sources h (back_source t frozen ∷ h.input.sources))
files_back h t true = record { ids = refl; readers = refl }
files_back h t false = record { ids = refl; readers = refl }

-- the end of an expansion, before it is told of
pub state_finished : (h : Held) (list : List TokenCode) (shelf : Shelf)
    → state_of shelf (record h { input = record h.input { sources = map Plain list ++ h.input.sources }; nesting = h.nesting - 1 }) ≡ finished (map Tok (tokens_at h.names list)) (state_of shelf h)
state_finished h list shelf = ap (λ (s : State). record s { nesting = h.nesting - 1 }) (state_put h list shelf)

pub files_finished : (h new : Held) (list : List TokenCode) → SameFiles (record h { input = record h.input { sources = map Plain list ++ h.input.sources }; nesting = h.nesting - 1 }) new → SameFiles h new
files_finished h new list same = record { ids = same.ids ∙ ids_put list h.input.sources; readers = same.readers ∙ readers_put list h.input.sources }
