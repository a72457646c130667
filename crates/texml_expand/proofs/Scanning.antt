-- Tokens that were looked at, by numbers of names and by their texts.
use Rattle.std.proofs.Common.{◌≡◌, ◌-◌, ℕ, List, [], ◌∷◌, map, take, drop, length, arith, Result, Ok, Err, refl, sym, ap, ◌∙◌, subst}
use Rattle.std.specs.List.{All}
use Rattle.std.specs.Result.{MatchResult}
use Rattle.std.proofs.lemmas.List.{drop-map, length-map, length-drop, take_all}
use Rattle.std.proofs.lemmas.List.Elements.{All-map}
use Rattle.texml_base.specs.Outside.{Shelf}
use Rattle.texml_token.specs.Token.{Token}
use Rattle.texml_token.specs.declared.tokens.Token.{Token as TokenCode}
use Rattle.texml_token.specs.Numbers.{Table, token_at, tokens_at, TokenWithin, TokensWithin}
use Rattle.texml_expand.specs.declared.stop.Stop.{Stop}
use Rattle.texml_expand.specs.declared.stop.Stop.TheVariants as stop
use Rattle.texml_expand.specs.declared.engine.expanding.Seen.{Seen as SeenCode}
use Rattle.texml_expand.specs.Calls.{Seen}
use Rattle.texml_expand.specs.State.{State, nothing, Done, chain, change, give}
use Rattle.texml_expand.specs.Take.{put}
use Rattle.texml_scan.specs.Grammar.{Verdict, Decided}
use Rattle.texml_expand.specs.Quantities.{decided_on}
use Rattle.texml_expand.specs.Scanning.{seen_at, all_seen_at, SeenWithin}
use Rattle.texml_expand.specs.Held.{Held, state_of}
use Rattle.texml_expand.specs.Contract.{Silent, Local}

abbrev pub codes_of : List SeenCode → List TokenCode
codes_of = map (λ x. x.token)

abbrev pub tokens_of : List Seen → List Token
tokens_of = map (λ x. x.token)

pub codes_at : (texts : Table) (seen : List SeenCode) → tokens_at texts (codes_of seen) ≡ tokens_of (all_seen_at texts seen)
codes_at texts [] = refl
codes_at texts (x ∷ seen) = ap (λ l. token_at texts x.token ∷ l) (codes_at texts seen)

pub codes_within : (count : ℕ) (seen : List SeenCode) → All (SeenWithin count) seen → TokensWithin count (codes_of seen)
codes_within count seen h = All-map (TokenWithin count) (λ (x : SeenCode). x.token) seen h

-- tokens are put back
pub local_put : (old new : Held) (list : List Token) (r : Result (Unit {0}) Stop) (P : Stop → Type 0) → MatchResult r (λ _. (shelf : Shelf) → state_of shelf new ≡ put list (state_of shelf old)) (λ st. (st ≡ stop.NoMemory) × P st)
    → Local (change (put list)) r old new
local_put old new list (Ok v) P h = λ shelf. ap (λ t. Done tt t nothing) (sym (h shelf))
local_put old new list (Err e) P h = λ shelf. subst (λ (st : Stop). Silent (change (put list) (state_of shelf old)) (Err st) (state_of shelf new)) (sym h.0) tt

-- the last ones that were looked at
pub last_seen : (texts : Table) (seen : List SeenCode) (from n : ℕ) → from ≡ length seen - n → tokens_of (all_seen_at texts (drop from seen)) ≡ tokens_of (drop (length (all_seen_at texts seen) - n) (all_seen_at texts seen))
last_seen texts seen from n e =
    ap tokens_of (sym (drop-map (seen_at texts) from seen) ∙ ap (λ k. drop k (all_seen_at texts seen)) (e ∙ ap (λ l. l - n) (sym (length-map seen (seen_at texts)))))

pub decides_back : {V : Type 0} (texts : Table) (seen : List SeenCode) (from n : ℕ) (v : V) (verdict : Verdict V) (s new : State) → verdict ≡ Decided v n → from ≡ length seen - n
    → change (put (tokens_of (all_seen_at texts (take (length seen - from) (drop from seen))))) s ≡ Done tt new nothing → decided_on (all_seen_at texts seen) verdict s ≡ Done v new nothing
decides_back texts seen from n v verdict s new is e h =
    ap (λ x. decided_on (all_seen_at texts seen) x s) is
    ∙ ap (λ list. chain (change (put list) s) (λ _. give v)) (sym (ap (λ l. tokens_of (all_seen_at texts l)) (take_all (length seen - from) (drop from seen) (let k = length-drop from seen in omega arith)) ∙ last_seen texts seen from n e)) ∙ ap (λ a. chain a (λ _. give v)) h
