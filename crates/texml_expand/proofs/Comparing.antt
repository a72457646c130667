-- An engine that compares two tokens by their meanings.
use Rattle.std.proofs.Common.{◌≡◌, Bool, Some, Ok, Err, sym, ap, ◌∙◌, length}
use Rattle.texml_token.specs.Token.{Token}
use Rattle.texml_token.specs.Numbers.{token_at, TokenWithin}
use Rattle.texml_token.specs.declared.tokens.Token.{Token as TokenCode}
use Rattle.texml_token.proofs.Translation.{token_kept}
use Rattle.texml_scope.specs.Equality.{meaning_eq}
use Rattle.texml_expand.specs.declared.stop.Stop.{Stop}
use Rattle.texml_expand.specs.declared.stop.Stop.TheVariants as stop
use Rattle.texml_expand.specs.State.{Reading, chain, nothing, Done, give}
use Rattle.texml_expand.specs.Take.{means}
use Rattle.texml_expand.specs.Expansion.{one_token}
use Rattle.texml_expand.specs.Conditionals.{same_meaning, same_meanings}
use Rattle.texml_expand.specs.Contract.{Outside}
use Rattle.texml_expand.specs.Held.{Held, world_in, state_of}
use Rattle.texml_expand.specs.Doing.{Gets}
use Rattle.texml_expand.proofs.Getting.{gets_as, gets_then, gets_stop, gets_now, gets_out}

-- what follows the first token
abbrev behind_one : Token → Reading Bool
behind_one a s = chain (one_token s) (same_meaning a)

module _ (old mid new : Held) (f g h : Outside) (t : TokenCode) (given : TokenWithin (length mid.names) t) (d : Gets one_token (Ok (token_at mid.names t)) old mid f g) where
  pub second_stops : (e : Stop) → Gets one_token (Err e) mid new g h → Gets same_meanings (Err e) old new f h
  second_stops e k = gets_then one_token behind_one (token_at mid.names t) (Err e) old mid new f g h d (gets_stop one_token (same_meaning (token_at mid.names t)) e mid new g h k)

  module _ (u : TokenCode) (k : Gets one_token (Ok (token_at new.names u)) mid new g h) where
    pub are_compared : (same : Bool) → same ≡ meaning_eq (means (world_in new) (token_at new.names t)) (means (world_in new) (token_at new.names u)) → Gets same_meanings (Ok same) old new f h
    are_compared same e =
        let first = token_kept mid.names new.names k.keeps.grows t given in
        let is = ap (λ x. meaning_eq (means (world_in new) x) (means (world_in new) (token_at new.names u))) (sym first) ∙ sym e in
        gets_then one_token behind_one (token_at mid.names t) (Ok same) old mid new f g h d
        (gets_then one_token (same_meaning (token_at mid.names t)) (token_at new.names u) (Ok same) mid new new g h h k
        (gets_as (give same) (same_meaning (token_at mid.names t) (token_at new.names u)) (Ok same) new new h h (ap (λ b. Done b (state_of h.shelf new) nothing) is) (gets_now same new h k.keeps.sound k.stops.kept k.holds.owns)))

    pub comparing_out : (e : Stop) (after : Held) → e ≡ stop.NoMemory → after ≡ record new { stop = Some stop.NoMemory } → Gets same_meanings (Err e) old after f h
    comparing_out e after lack is =
        gets_then one_token behind_one (token_at mid.names t) (Err e) old mid after f g h d
        (gets_then one_token (same_meaning (token_at mid.names t)) (token_at new.names u) (Err e) mid new after g h h k
        (gets_out (same_meaning (token_at mid.names t) (token_at new.names u)) e new after h lack is k.holds.owns))
