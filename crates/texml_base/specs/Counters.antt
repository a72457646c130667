-- An allowance that is used up.
use Rattle.std.specs.Prelude.{◌≡◌, ℕ, ◌+◌, ◌<◌, Bool, true, false}

-- how many may be begun, and how many were
pub record Allowance : Type 0 where
  pub limit : ℕ
  pub begun : ℕ

-- one more was begun; or the limit is reached, and nothing changed
abbrev pub BeginsOne : Allowance → Bool → Allowance → Type 0
BeginsOne old true new = (old.begun < old.limit) × (new ≡ record { limit = old.limit; begun = old.begun + 1 })
BeginsOne old false new = (old.begun ≡ old.limit) × (new ≡ old)
