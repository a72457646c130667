-- The names of faults.
use Rattle.std.proofs.Common.{◌≡◌, ◌≤◌, ℕ, []}
use Rattle.std.proofs.lemmas.List.{get_or_past}
use Rattle.texml_token.specs.Faults.{fault_name, fault_names}

pub no_fault : (code : ℕ) → 26 ≤ code → fault_name code ≡ []
no_fault code h = get_or_past fault_names code [] h
