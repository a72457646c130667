-- Names that were given.
use Rattle.std.proofs.Common.{◌≡◌, ◌≤◌, ℕ, zero, suc, List, ap, arith}
use Rattle.texml_token.specs.Token.{Named}
use Rattle.texml_token.specs.Numbers.{Table, text_at, name_at}
use Rattle.texml_token.proofs.Table.{extends_refl}

-- a number that is given for a text is the name with this text
pub name_is : (texts : Table) (n : ℕ) (text : List ℕ) → 1 ≤ n → text_at texts n ≡ text → name_at texts n ≡ Named text
name_is texts zero text le is = absurd (omega arith)
name_is texts (suc n) text le is = ap Named is

pub ruleset naming = (name_is, extends_refl)
