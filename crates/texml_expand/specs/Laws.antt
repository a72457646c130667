-- What holds of fetching, expanding and reading from every state.
use Rattle.std.specs.Prelude.{◌≡◌, ◌≢◌, ◌<◌, ℕ, Bool, List}
use Rattle.texml_token.specs.Token.{Token}
use Rattle.texml_expand.specs.declared.variables.Index.{Index}
use Rattle.texml_expand.specs.declared.variables.Variable.{Variable}
use Rattle.texml_expand.specs.Branches.{Sought}
use Rattle.texml_expand.specs.State.{State, Gains, Done, IsDecided, room, chain}
use Rattle.texml_expand.specs.Take.{take}
use Rattle.texml_expand.specs.Least.{next_tokens}
use Rattle.texml_expand.specs.Arguments.{past_space, behind_spaces}
use Rattle.texml_expand.specs.Conditionals.{skipped, met_word, seek}
use Rattle.texml_expand.specs.Expand.{ByDepth, fetch, look, expand_once, read_int, read_dimen, read_glue, read_keyword, read_index, read_key}
use Rattle.texml_expand.specs.Absorb.{absorb}

-- from each state some depth decides
abbrev pub Decides : {A : Type 0} → ByDepth A → Type 0
Decides reading = (s : State) → (n : ℕ) × IsDecided (reading n s)

-- and all depths that decide give the same
abbrev pub Agrees : {A : Type 0} → ByDepth A → Type 0
Agrees reading = (s : State) (n m : ℕ) → IsDecided (reading n s) → IsDecided (reading m s) → reading n s ≡ reading m s

pub record AlwaysDecide : Type 0 where
  pub fetch : Decides fetch
  pub look : Decides look
  pub expand : (t : Token) → Decides (expand_once t)
  pub int : Decides read_int
  pub dimen : Decides read_dimen
  pub glue : Decides read_glue
  pub keyword : (word : List ℕ) → Decides (read_keyword word)
  pub index : (i : Index) → Decides (read_index i)
  pub variable : (v : Variable) → Decides (read_key v)
  pub absorb : (expanding : Bool) → Decides (absorb expanding)

pub record DecideOnce : Type 0 where
  pub fetch : Agrees fetch
  pub look : Agrees look
  pub expand : (t : Token) → Agrees (expand_once t)
  pub int : Agrees read_int
  pub dimen : Agrees read_dimen
  pub glue : Agrees read_glue
  pub keyword : (word : List ℕ) → Agrees (read_keyword word)
  pub index : (i : Index) → Agrees (read_index i)
  pub variable : (v : Variable) → Agrees (read_key v)
  pub absorb : (expanding : Bool) → Agrees (absorb expanding)

-- The readings that are written with a bound on their turns are what they would be without one
pub record NeedNoBound : Type 0 where
  -- behind spaces: a token is taken, and where it is a space what stands behind spaces from there on
  pub spaces : (s : State) → behind_spaces s ≡ chain (take s) (past_space behind_spaces)
  -- a word is reached, and where it isn't the one that is sought the seeking goes on from there
  pub seeking : (at : ℕ) (sought : Sought) (s : State) → seek at sought s ≡ chain (skipped s) (met_word (seek at) at sought)
  -- and no more tokens can be next than a state has room for
  pub few : (s : State) (k : ℕ) → room s < k → (list : List Token) (t : State) (gains : Gains) → next_tokens k s ≢ Done list t gains
