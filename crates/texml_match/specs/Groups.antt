-- Groups in lists of tokens (The TeXbook, chapter 20).
use Rattle.std.specs.Prelude.{ℕ, zero, suc, ◌+◌, ◌-◌, ◌==◌, Bool, false, ◌&&◌, List, [], ◌∷◌, length, take, Option, None, Some, is_none, if◌then◌else◌}
use Rattle.std.specs.Option.{option_and_then, unwrap_or}
use Rattle.texml_token.specs.Token.{Token, has_category}
use Rattle.texml_token.specs.declared.category.TheConstants.{BEGIN_GROUP, END_GROUP}

-- how many groups are open behind the end of one, where so many are before it
abbrev pub behind_end : ℕ → Option ℕ
behind_end zero = None
behind_end (suc n) = Some n

abbrev pub behind_token : ℕ → Token → Option ℕ
behind_token n t =
    if has_category BEGIN_GROUP t then Some (n + 1)
    else if has_category END_GROUP t then behind_end n
    else Some n

-- how many groups are open behind tokens, where so many are before them; none where a group ends that hasn't begun
abbrev pub open_behind : ℕ → List Token → Option ℕ
open_behind n [] = Some n
open_behind n (t ∷ ts) = option_and_then (λ k. open_behind k ts) (behind_token n t)

abbrev pub is_none_open : Option ℕ → Bool
is_none_open None = false
is_none_open (Some n) = n == 0

-- each group that begins in it ends in it, and none else ends
abbrev pub is_balanced : List Token → Bool
is_balanced list = is_none_open (open_behind 0 list)

-- a group ends that hasn't begun
abbrev pub ends_unbegun : List Token → Bool
ends_unbegun list = is_none (open_behind 0 list)

-- the last token, if there is one, passes
abbrev pub last_is : (Token → Bool) → List Token → Bool
last_is p [] = false
last_is p (t ∷ []) = p t
last_is p (t ∷ u ∷ ts) = last_is p (u ∷ ts)

-- the tokens but the last
abbrev pub but_last : List Token → List Token
but_last list = take (length list - 1) list

-- a balanced list with the end of a group behind it
abbrev pub closes : List Token → Bool
closes list = last_is (has_category END_GROUP) list && is_balanced (but_last list)

-- what is inside exactly one group, between its begin and its end
abbrev pub inside : List Token → Option (List Token)
inside [] = None
inside (t ∷ ts) = if has_category BEGIN_GROUP t && closes ts then Some (but_last ts) else None

-- a list without its braces, where it is exactly one group
abbrev pub unbraced : List Token → List Token
unbraced list = unwrap_or (inside list) list
