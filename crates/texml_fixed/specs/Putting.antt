-- What the private functions of `digits.rt` do to a text.
use Rattle.std.specs.Prelude.{◌≡◌, ℕ, ◌+◌, List, ◌++◌, length, take, drop}

-- these bytes were put into a text, from one place up to another, and nothing else changed
pub record Puts (old new : List ℕ) (from to : ℕ) (bytes : List ℕ) : Type 0 where
  pub end : to ≡ from + length bytes
  pub text : take to new ≡ take from old ++ bytes
  pub rest : drop to new ≡ drop to old
