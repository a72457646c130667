-- Readings by the least number of next tokens that decide, unexpanded (The TeXbook, chapter 20).
use Rattle.std.specs.Prelude.{ℕ, zero, suc, ◌+◌, Bool, true, false, List, [], ◌∷◌, ◌++◌, Option, None, Some, if◌then◌else◌}
use Rattle.texml_token.specs.Token.{Token}
use Rattle.texml_token.specs.declared.fault_code.TheConstants.{FILE_ENDED}
use Rattle.texml_expand.specs.declared.feeding.Verdict.{Verdict}
use Rattle.texml_expand.specs.declared.feeding.Verdict.TheVariants.{TooShort, Yields, Refuses}
use Rattle.texml_input.specs.Next.{Taken}
use Rattle.texml_expand.specs.State.{room, nothing, Answer, Done, Ended, Unfinished, Reading, ◌>>=◌, give, fail}
use Rattle.texml_expand.specs.Take.{take}

-- a token inside a text: no text may have ended before it, and there must be one
abbrev pub inside_if : Bool → Token → Reading Token
inside_if true t = fail FILE_ENDED []
inside_if false t = give t

abbrev pub inside : Option Taken → Reading Token
inside None = fail FILE_ENDED []
inside (Some t) = inside_if t.crossed t.token

abbrev pub inner_token : Reading Token
inner_token = do
  o ← take
  inside o

-- the next k tokens
abbrev pub next_tokens : ℕ → Reading (List Token)
next_tokens zero = give []
next_tokens (suc k) = do
  list ← next_tokens k
  t ← inner_token
  give (list ++ t ∷ [])

-- the least number below a bound for which a test holds, or else the bound
abbrev pub least : ℕ → (ℕ → Bool) → ℕ
least zero holds = zero
least (suc bound) holds = if holds zero then zero else suc (least bound (λ k. holds (suc k)))

abbrev pub decides : {A : Type 0} → Verdict A → Bool
decides TooShort = false
decides (Yields v) = true
decides (Refuses code) = true

-- what was decided; a list that is too short never ends a reading
abbrev pub decided : {A : Type 0} → Verdict A → Reading A
decided TooShort s = Unfinished nothing
decided (Yields v) s = give v s
decided (Refuses code) s = fail code [] s

module _ {A : Type 0} (decide : List Token → Verdict A) where
  -- so many tokens are enough: they decide, or there are no more
  abbrev pub is_enough : Answer (List Token) → Bool
  is_enough (Done list s gains) = decides (decide list)
  is_enough (Ended e gains) = true
  is_enough (Unfinished gains) = true

  -- what the next k tokens decide
  abbrev pub by_tokens : ℕ → Reading A
  by_tokens k = do
    list ← next_tokens k
    decided (decide list)

  -- what the least number of next tokens decides that is enough. No more tokens can stand there than the state has room for
  abbrev pub by_least : Reading A
  by_least s = by_tokens (least (room s + 1) (λ k. is_enough (next_tokens k s))) s
