-- The call of a macro, and what commands read: they decide, and leave less to be read.
use Rattle.std.proofs.Common.{◌≡◌, ◌+◌, ℕ, zero, suc, Bool, true, false, if◌then◌else◌, List, [], ◌∷◌, ◌++◌, length, Option, Some, None, arith}
use Rattle.texml_token.specs.Token.{Token}
use Rattle.texml_scope.specs.Texts.{MacroText}
use Rattle.texml_match.specs.Reading.{Reader}
use Rattle.texml_match.specs.Shape.{shape_of}
use Rattle.texml_match.specs.Arguments.{argument, reading}
use Rattle.texml_input.specs.Rest.{Item, Tok, Frozen, back_as, size}
use Rattle.texml_expand.specs.declared.feeding.Verdict.{Verdict}
use Rattle.texml_input.specs.Next.{Taken}
use Rattle.texml_expand.specs.State.{State, room, Answer, Reading, chain, IsDecided, give}
use Rattle.texml_expand.specs.Take.{take, back}
use Rattle.texml_expand.specs.Arguments.{decided_by, read_by, is_space, past_space, past_spaces, behind_spaces, is_sign, no_sign, sign_or_back, sign, open_bracket, close_bracket, behind_bracket, optional, first_argument, macro_arguments, filled, called}
use Rattle.texml_expand.specs.Contract.{Lower}
use Rattle.texml_expand.proofs.Items.{size-cons}
use Rattle.texml_expand.proofs.Leading.{Leads, leads_chain, leads_weaker, count, lower_none, lower_then, lower_less}
use Rattle.texml_expand.proofs.Deciding.{any, chain_decided, take_decided}
use Rattle.texml_expand.proofs.Least.{Takes, takes_then, take_takes, Decides, by_least_leads, by_least_decided}

-- spaces
if_leads : (b : Bool) (x : Taken) (next : Reading (Option Taken)) → ((s : State) → Leads (λ o t. Takes (count o) s t) (next s)) → (s t : State) → Takes 1 s t
    → Leads (λ o u. Takes (count o) s u) ((if b then next else give (Some x)) t)
if_leads true x next h s t g = leads_weaker (λ o u. Takes (count o) t u) (λ o u. Takes (count o) s u) (next t) (λ o u k. takes_then 1 (count o) (count o) s t u g k (omega arith)) (h t)
if_leads false x next h s t g = g

past_leads : (next : Reading (Option Taken)) → ((s : State) → Leads (λ o t. Takes (count o) s t) (next s)) → (o : Option Taken) (s t : State) → Takes (count o) s t → Leads (λ o u. Takes (count o) s u) (past_space next o t)
past_leads next h None s t g = g
past_leads next h (Some x) s t g = if_leads (is_space t.world x.token) x next h s t g

pub spaces_leads : (n : ℕ) (s : State) → Leads (λ o t. Takes (count o) s t) (past_spaces n s)
spaces_leads zero s = take_takes s
spaces_leads (suc n) s =
    leads_chain (λ o t. Takes (count o) s t) (λ o t. Takes (count o) s t) (take s) (past_space (past_spaces n)) (take_takes s) (λ o t g. past_leads (past_spaces n) (spaces_leads n) o s t g)

if_space_decided : (b : Bool) (x : Taken) (next : Reading (Option Taken)) → ((s : State) → IsDecided (next s)) → (t : State) → IsDecided ((if b then next else give (Some x)) t)
if_space_decided true x next h t = h t
if_space_decided false x next h t = tt

past_decided : (next : Reading (Option Taken)) → ((s : State) → IsDecided (next s)) → (o : Option Taken) (t : State) → IsDecided (past_space next o t)
past_decided next h None t = tt
past_decided next h (Some x) t = if_space_decided (is_space t.world x.token) x next h t

pub spaces_decided : (n : ℕ) (s : State) → IsDecided (past_spaces n s)
spaces_decided zero s = take_decided s
spaces_decided (suc n) s = chain_decided (λ o t. Unit {0}) (take s) (past_space (past_spaces n)) (take_decided s) (any (take s)) (λ o t _. past_decided (past_spaces n) (spaces_decided n) o t)

-- a sign
back_size : (t : Token) (frozen : Bool) (rest : List (Item Token)) → size (back_as t frozen ∷ rest) ≡ size rest + 1
back_size t true rest = omega (arith, size-cons (Frozen t) rest)
back_size t false rest = omega (arith, size-cons (Tok t) rest)

-- a token that was taken goes back
pub back_lower : (t : Token) (frozen : Bool) (s u : State) → Lower 1 s u → Lower 0 s (back t frozen u)
back_lower t frozen s u l = record {
  limit = l.limit;
  nesting = l.nesting;
  begun = l.begun;
  size = λ e. let less = l.size e in omega (arith, less, back_size t frozen u.rest);
  within = l.within;
}

if_sign_leads : (b : Bool) (x : Taken) (s t : State) → Takes 1 s t → Leads (λ found u. Lower 0 s u) ((if b then give true else no_sign x) t)
if_sign_leads true x s t g = lower_less 1 s t g.lower
if_sign_leads false x s t g = back_lower x.token false s t g.lower

sign_back_leads : (code : ℕ) (s : State) (o : Option Taken) (t : State) → Takes (count o) s t → Leads (λ found u. Lower 0 s u) (sign_or_back code o t)
sign_back_leads code s None t g = g.lower
sign_back_leads code s (Some x) t g = if_sign_leads (is_sign code x.token) x s t g

pub sign_leads : (code : ℕ) (s : State) → Leads (λ found t. Lower 0 s t) (sign code s)
sign_leads code s = leads_chain (λ o t. Takes (count o) s t) (λ found t. Lower 0 s t) (behind_spaces s) (sign_or_back code) (spaces_leads (room s) s) (sign_back_leads code s)

if_sign_decided : (b : Bool) (x : Taken) (t : State) → IsDecided ((if b then give true else no_sign x) t)
if_sign_decided true x t = tt
if_sign_decided false x t = tt

sign_back_decided : (code : ℕ) (o : Option Taken) (t : State) → IsDecided (sign_or_back code o t)
sign_back_decided code None t = tt
sign_back_decided code (Some x) t = if_sign_decided (is_sign code x.token) x t

pub sign_decided : (code : ℕ) (s : State) → IsDecided (sign code s)
sign_decided code s = chain_decided (λ o t. Unit {0}) (behind_spaces s) (sign_or_back code) (spaces_decided (room s) s) (any (behind_spaces s)) (λ o t _. sign_back_decided code o t)

-- what is read by the least number of tokens
module _ {A : Type 0} (reader : Reader A) where
  abbrev decide : List Token → Verdict A
  decide list = decided_by (reader list)

  pub read_leads : (s : State) → Leads (Decides decide s) (read_by reader s)
  read_leads s = by_least_leads decide s

  read_lower : (s : State) → Leads (λ a t. Lower 0 s t) (read_by reader s)
  read_lower s = leads_weaker (Decides decide s) (λ a t. Lower 0 s t) (read_by reader s) (λ a t d. lower_less (length d.list) s t d.lower) (read_leads s)

  pub read_decided : (s : State) → IsDecided (read_by reader s)
  read_decided s = by_least_decided decide s

-- an argument in brackets
behind_decided : (long found : Bool) (t : State) → IsDecided (behind_bracket long found t)
behind_decided long false t = tt
behind_decided long true t =
    chain_decided (λ a u. Unit {0}) (read_by (argument long (close_bracket ∷ [])) t) (λ a. give (Some a)) (read_decided (argument long (close_bracket ∷ [])) t) (any (read_by (argument long (close_bracket ∷ [])) t)) (λ a u _. tt)

pub optional_decided : (long : Bool) (s : State) → IsDecided (optional long s)
optional_decided long s = chain_decided (λ found t. Unit {0}) (sign open_bracket s) (behind_bracket long) (sign_decided open_bracket s) (any (sign open_bracket s)) (λ found t _. behind_decided long found t)

first_decided : (long : Bool) (default : Option (List Token)) (s : State) → IsDecided (first_argument long default s)
first_decided long None s = tt
first_decided long (Some default) s = chain_decided (λ o t. Unit {0}) (optional long s) _ (optional_decided long s) (any (optional long s)) (λ o t _. tt)

abbrev others : MacroText → Reading (List (List Token))
others m = read_by (reading (shape_of m.long m.params))

arguments_decided : (m : MacroText) (s : State) → IsDecided (macro_arguments m s)
arguments_decided m s =
    chain_decided (λ first t. Unit {0}) (first_argument m.long m.params.default s) _ (first_decided m.long m.params.default s) (any (first_argument m.long m.params.default s))
    (λ first t _. chain_decided (λ rest u. Unit {0}) (others m t) (λ rest. give (first ++ rest)) (read_decided (reading (shape_of m.long m.params)) t) (any (others m t)) (λ rest u _. tt))

pub called_decided : (m : MacroText) (s : State) → IsDecided (called m s)
called_decided m s = chain_decided (λ args t. Unit {0}) (macro_arguments m s) (λ args. give (filled args m.body)) (arguments_decided m s) (any (macro_arguments m s)) (λ args t _. tt)

-- less is left to be read behind them
led : {B : Type 0} (s t : State) (a : Answer B) → Lower 0 s t → Leads (λ v u. Lower 0 t u) a → Leads (λ v u. Lower 0 s u) a
led s t a g h = leads_weaker (λ v u. Lower 0 t u) (λ v u. Lower 0 s u) a (λ v u l. lower_then 0 0 0 s t u g l (omega arith)) h

behind_leads : (long found : Bool) (t : State) → Leads (λ o u. Lower 0 t u) (behind_bracket long found t)
behind_leads long false t = lower_none t
behind_leads long true t = leads_chain (λ a u. Lower 0 t u) (λ o u. Lower 0 t u) (read_by (argument long (close_bracket ∷ [])) t) (λ a. give (Some a)) (read_lower (argument long (close_bracket ∷ [])) t) (λ a u l. l)

optional_leads : (long : Bool) (s : State) → Leads (λ o t. Lower 0 s t) (optional long s)
optional_leads long s = leads_chain (λ found t. Lower 0 s t) (λ o t. Lower 0 s t) (sign open_bracket s) (behind_bracket long) (sign_leads open_bracket s) (λ found t l. led s t (behind_bracket long found t) l (behind_leads long found t))

first_leads : (long : Bool) (default : Option (List Token)) (s : State) → Leads (λ first t. Lower 0 s t) (first_argument long default s)
first_leads long None s = lower_none s
first_leads long (Some default) s = leads_chain (λ o t. Lower 0 s t) (λ first t. Lower 0 s t) (optional long s) _ (optional_leads long s) (λ o t l. l)

others_leads : (m : MacroText) (first : List (List Token)) (t : State) → Leads (λ args u. Lower 0 t u) (chain (others m t) (λ rest. give (first ++ rest)))
others_leads m first t = leads_chain (λ rest u. Lower 0 t u) (λ args u. Lower 0 t u) (others m t) (λ rest. give (first ++ rest)) (read_lower (reading (shape_of m.long m.params)) t) (λ rest u l. l)

pub arguments_leads : (m : MacroText) (s : State) → Leads (λ args t. Lower 0 s t) (macro_arguments m s)
arguments_leads m s =
    leads_chain (λ first t. Lower 0 s t) (λ args t. Lower 0 s t) (first_argument m.long m.params.default s) (λ first t. chain (others m t) (λ rest. give (first ++ rest))) (first_leads m.long m.params.default s)
    (λ first t l. led s t (chain (others m t) (λ rest. give (first ++ rest))) l (others_leads m first t))

pub called_leads : (m : MacroText) (s : State) → Leads (λ list t. Lower 0 s t) (called m s)
called_leads m s = leads_chain (λ args t. Lower 0 s t) (λ list t. Lower 0 s t) (macro_arguments m s) (λ args. give (filled args m.body)) (arguments_leads m s) (λ args t l. l)
