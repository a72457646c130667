-- A loop over tokens, or over what is known of each: it is given to a turn, which goes on or is over; at the end of what is to be read something else is done.
use Rattle.std.specs.Prelude.{ℕ, zero, suc, Option, None, Some}
use Rattle.texml_token.specs.Token.{Token}
use Rattle.texml_expand.specs.State.{nothing, Unfinished, Reading, ◌>>=◌, give}
pub use Rattle.texml_expand.specs.Expand.{ByDepth}

-- the loop goes on with this, or is over with that
pub data Next (S A : Type 0) : Type 0 where
  On : S → Next S A
  Over : A → Next S A

-- where the tokens come from, what is done with each, and what is done at the end
pub record LoopOver (X S A : Type 0) : Type 0 where
  pub source : ByDepth (Option X)
  pub turn : S → X → ByDepth (Next S A)
  pub end : S → Reading A

abbrev pub Loop : Type 0 → Type 0 → Type 0
Loop = LoopOver Token

abbrev pub looped : {S A : Type 0} → (S → Reading A) → Next S A → Reading A
looped more (On seen) = more seen
looped more (Over a) = give a

abbrev pub turned : {X S A : Type 0} → LoopOver X S A → (S → Reading A) → ℕ → S → Option X → Reading A
turned loop more n seen None = loop.end seen
turned loop more n seen (Some t) = do
  next ← loop.turn seen t n
  looped more next

abbrev pub loops : {X S A : Type 0} → LoopOver X S A → S → ByDepth A
loops loop seen zero = λ s. Unfinished nothing
loops loop seen (suc n) = do
  o ← loop.source n
  turned loop (λ more. loops loop more n) n seen o
