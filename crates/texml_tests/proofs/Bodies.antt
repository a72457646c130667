-- What is pushed into an input is within the names.
use Rattle.std.proofs.Common.{◌≡◌, ℕ, List, [], ◌++◌, map, get_or, subst, sym, ◌∙◌}
use Rattle.std.specs.List.{All}
use Rattle.texml_token.specs.Numbers.{TokenWithin, TokensWithin, BodyTokenWithin, BodyWithin}
use Rattle.texml_token.specs.declared.tokens.Token.{Token}
use Rattle.texml_token.specs.declared.tokens.Token.TheVariants as tokens
use Rattle.texml_input.specs.Put.{put_code}
use Rattle.texml_input.specs.Held.{Held, Plain, ids_of, SourcesWithin}
use Rattle.texml_input.proofs.Sources.{ids_put}
use Rattle.texml_input.proofs.Standing.{within_macro}

body_token : (count slots : ℕ) (t : Token) → TokenWithin count t → BodyTokenWithin count slots t
body_token count slots (tokens.Char c category) h = h
body_token count slots (tokens.Active c) h = h
body_token count slots (tokens.Param n) h = absurd h
body_token count slots (tokens.Named name) h = h

-- a list without the place of a parameter is a body
pub is_body : (count slots : ℕ) (list : List Token) → TokensWithin count list → BodyWithin count slots list
is_body count slots list h k d lt = body_token count slots (get_or list k d) (h k d lt)

-- a body is put in front
pub pushed : (count slots : ℕ) (old new : Held) (args : List (List Token)) (body : List Token) → new ≡ record old { sources = map Plain (put_code args body) ++ old.sources }
    → All (TokensWithin count) args → BodyWithin count slots body → ids_of old.sources ≡ [] → SourcesWithin count old.sources → (ids_of new.sources ≡ []) × SourcesWithin count new.sources
pushed count slots old new args body e a b none within =
    subst (λ (h : Held). (ids_of h.sources ≡ []) × SourcesWithin count h.sources) (sym e) (ids_put (put_code args body) old.sources ∙ none, within_macro count slots args body old.sources a b within)
