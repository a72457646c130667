-- Tokens are taken and put back, and what a token means (The TeXbook, chapters 20 and 24).
use Rattle.std.specs.Prelude.{ℕ, Bool, true, false, ◌&&◌, List, [], ◌∷◌, ◌++◌, map, Option, Some, None, pos, encode_utf8_all}
use Rattle.std.specs.Option.{unwrap_or}
use Rattle.texml_token.specs.Token.{Token, Char, Active, Param, Named, Fixed}
use Rattle.texml_token.specs.declared.fault_code.TheConstants.{FILE_ENDED, INVALID_CHAR, NOT_UTF8}
use Rattle.texml_token.specs.Spelling.{spelled}
use Rattle.texml_scope.specs.declared.values.KeyOf.TheVariants.{Name}
use Rattle.texml_scope.specs.Texts.{Meaning, World}
use Rattle.texml_scope.specs.Values.{meaning_in}
use Rattle.texml_scope.specs.declared.values.KeyOf.TheVariants.{Active as ActiveKey}
use Rattle.texml_scope.specs.declared.values.MeaningOf.TheVariants.{Undefined, Builtin, Char as CharMeaning}
use Rattle.texml_scope.specs.declared.builtins.TheConstants.{RELAX}
use Rattle.texml_input.specs.Rest.{Tok, back_as}
use Rattle.texml_input.specs.Next.{Taken, Given, Got, AtEnd, Invalid, NotUtf8, next}
use Rattle.texml_input.specs.Codes.{cats_of, end_of}
use Rattle.texml_expand.specs.State.{State, Tex, fault_at, some_bytes, loads, Done, Ended, Reading}

-- Taking

-- a token, for which so many bytes were loaded, unless a file has ended on the way to it which may not end there: that is fault 4
abbrev pub take_token : Bool → Taken → ℕ → Reading (Option Taken)
take_token true t bytes s = Ended (Tex (fault_at FILE_ENDED [] s.place)) (loads (some_bytes bytes))
take_token false t bytes s = Done (Some t) s (loads (some_bytes bytes))

-- the token that stands at the front of the rest, or the end; a character that may not stand there is fault 15, and a line that is not UTF-8
-- fault 20
abbrev pub take_given : Given → Reading (Option Taken)
take_given (Got t rest place bytes) s = take_token (s.absorbing && t.crossed) t bytes (record s { rest = rest; place = place })
take_given (AtEnd place bytes) s = Done None (record s { rest = []; place = place }) (loads (some_bytes bytes))
take_given (Invalid c place bytes) s = Ended (Tex (fault_at INVALID_CHAR [] place)) (loads (some_bytes bytes))
take_given (NotUtf8 place bytes) s = Ended (Tex (fault_at NOT_UTF8 [] place)) (loads (some_bytes bytes))

abbrev pub take : Reading (Option Taken)
take s = take_given (next (cats_of s.world) (end_of s.world) s.rest s.place) s

-- a token goes back before the rest, perhaps kept from being expanded
abbrev pub back : Token → Bool → State → State
back t frozen s = record s { rest = back_as t frozen ∷ s.rest }

-- tokens are put before the rest
abbrev pub put : List Token → State → State
put list s = record s { rest = map Tok list ++ s.rest }

-- Meanings

-- what a token means, if it is a name or an active character
abbrev pub meaning_of : World → Token → Option Meaning
meaning_of w (Char c category) = None
meaning_of w (Active c) = Some (meaning_in (w.top (ActiveKey c)))
meaning_of w (Param n) = None
meaning_of w (Named text) = Some (meaning_in (w.top (Name text)))
meaning_of w Fixed = None

-- what a token that has no key means by itself: a character that character, and the fixed \relax what \relax means at first
abbrev pub own_meaning : Token → Meaning
own_meaning (Char c category) = CharMeaning c category
own_meaning Fixed = Builtin RELAX
own_meaning t = Undefined

-- what each token means
abbrev pub means : World → Token → Meaning
means w t = unwrap_or (meaning_of w t) (own_meaning t)

-- how a token is spelled in faults and records: with the escape character \
abbrev pub spelling : Token → List ℕ
spelling t = encode_utf8_all (spelled (pos 92) t)
