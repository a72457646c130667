-- A token behind spaces is looked at, and what goes back is what was taken.
use Rattle.std.proofs.Common.{◌≡◌, length, Option, None, Some, Ok, Err, refl, sym, ap, subst}
use Rattle.std.specs.Option.{option_map}
use Rattle.texml_token.specs.Numbers.{Table, Extends, OptionWithin}
use Rattle.texml_token.proofs.Translation.{token_kept}
use Rattle.texml_input.specs.Next.{Taken}
use Rattle.texml_input.specs.declared.fault.Read.{Read}
use Rattle.texml_expand.specs.declared.stop.Stop.{Stop}
use Rattle.texml_expand.specs.State.{Reading, ◌>>=◌, chain, give, change}
use Rattle.texml_expand.specs.Arguments.{behind_spaces}
use Rattle.texml_expand.specs.Include.{returned, peeked}
use Rattle.texml_expand.specs.Contract.{Local, Outside}
use Rattle.texml_expand.specs.Held.{Held, Kept, Progress, IsAtLimit, SameFiles, read_at, ReadWithin}
use Rattle.texml_expand.specs.Doing.{Gets}
use Rattle.texml_expand.proofs.Getting.{gets_then, gets_stop, gets_local}

-- what was read stands for the same by the grown table
pub reads_kept : (old new : Table) (o : Option Read) → Extends old new → OptionWithin (ReadWithin (length old)) o → option_map (read_at new) o ≡ option_map (read_at old) o
reads_kept old new None g w = refl
reads_kept old new (Some r) g w = ap (λ t. Some (record { token = t; frozen = r.frozen; crossed = r.crossed })) (token_kept old new g r.token w)

-- it goes back and is answered
abbrev stays : Option Taken → Reading (Option Taken)
stays o = change (returned o) >>= (λ _. give o)

module _ (old mid new : Held) (read : Option Read) (f g : Outside) (d : Gets behind_spaces (Ok (option_map (read_at mid.names) read)) old mid f g) where
  abbrev o : Option Taken
  o = option_map (read_at mid.names) read

  pub peeked_gets : OptionWithin (ReadWithin (length mid.names)) read → Local (change (returned o)) (Ok tt) mid new → new.stop ≡ None → Kept mid new → Progress mid new → SameFiles mid new
      → Gets peeked (Ok (option_map (read_at new.names) read)) old new f g
  peeked_gets within h running keeps progress files =
      subst (λ (t : Option Taken). Gets peeked (Ok t) old new f g) (sym (reads_kept mid.names new.names read keeps.grows within))
      (gets_then behind_spaces stays o (Ok o) old mid new f g g d
      (gets_local (stays o) (Ok o) mid new g (λ shelf. ap (λ a. chain a (λ _. give o)) (h shelf)) running tt keeps progress files d.holds.owns))

  pub peeked_stops : (e : Stop) → Local (change (returned o)) (Err e) mid new → new.stop ≡ Some e → IsAtLimit {A = Unit {0}} (Err e) new → Progress mid new → SameFiles mid new → Gets peeked (Err e) old new f g
  peeked_stops e h stopped limit progress files =
      gets_then behind_spaces stays o (Err e) old mid new f g g d
      (gets_stop (change (returned o)) (λ _. give o) e mid new g g (gets_local (change (returned o)) (Err e) mid new g h stopped limit tt progress files d.holds.owns))
