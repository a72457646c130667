-- Only contracts of private functions need these: looking at tokens, as the code does it.
use Rattle.std.specs.Prelude.{◌≡◌, ℕ, Bool, true, false, List, [], ◌∷◌, map, Option, None, Some}
use Rattle.texml_token.specs.Numbers.{Table, token_at, TokenWithin}
use Rattle.texml_scan.specs.declared.looks.Look.{Look}
use Rattle.texml_scan.specs.Grammar.{Remainder, Decided}
use Rattle.texml_expand.specs.declared.engine.expanding.Seen.{Seen as SeenCode}
use Rattle.texml_expand.specs.declared.machine.Machine.{Machine}
use Rattle.texml_expand.specs.declared.machine.Scanned.{Scanned}
use Rattle.texml_expand.specs.declared.machine.Scanned.TheVariants as scanned
use Rattle.texml_expand.specs.Calls.{Seen}
use Rattle.texml_expand.specs.Machine.{scanned_as, GoesOn, machine_rest}

abbrev pub seen_at : Table → SeenCode → Seen
seen_at texts x = record { token = token_at texts x.token; look = x.look }

abbrev pub all_seen_at : Table → List SeenCode → List Seen
all_seen_at texts = map (seen_at texts)

abbrev pub SeenWithin : ℕ → SeenCode → Type 0
SeenWithin count x = TokenWithin count x.token

-- which token is wanted next, where one is
abbrev pub raw_in : Scanned → Option Bool
raw_in scanned.Expanded = Some false
raw_in scanned.Raw = Some true
raw_in scanned.Asked = None
raw_in (scanned.Decided v n) = None
raw_in (scanned.Faulty f) = None

-- some looks decide on this value
pub record MayGive {V : Type 0} (rest : Remainder V) (value : V) : Type 0 where
  pub looks : List Look
  pub back : ℕ
  pub is : rest looks ≡ Decided value back

-- a scanner turned at one more look
pub record Turned (old : Machine) (look : Look) (scanned : Scanned) (new : Machine) : Type 0 where
  pub is : machine_rest old (look ∷ []) ≡ scanned_as scanned
  pub on : GoesOn scanned ((more : List Look) → machine_rest old (look ∷ more) ≡ machine_rest new more)
