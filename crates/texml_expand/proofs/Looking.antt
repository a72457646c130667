-- What is read by looking at tokens is lawful.
use Rattle.std.proofs.Common.{◌≡◌, ◌+◌, ◌-◌, ◌≤◌, ℕ, ℤ, pos, negsuc, Bool, true, false, if◌then◌else◌, List, [], ◌∷◌, ◌++◌, map, drop, length, length-drop, Option, Some, None, refl, sym, subst, arith}
use Rattle.std.specs.Option.{option_map}
use Rattle.std.proofs.lemmas.List.{length-map}
use Rattle.texml_token.specs.Token.{Token}
use Rattle.texml_token.specs.declared.fault_code.TheConstants.{BAD_CODE, FILE_ENDED, MISSING_NUMBER}
use Rattle.texml_scope.specs.Texts.{Key, Meaning}
use Rattle.texml_scope.specs.declared.values.MeaningOf.TheVariants as meanings
use Rattle.texml_scan.specs.declared.looks.Look.{Look}
use Rattle.texml_scan.specs.declared.looks.Held.TheVariants as held
use Rattle.texml_scan.specs.Grammar.{Expanded, Raw, Asked, Verdict, Wanting, Decided, Faulty, Remainder}
use Rattle.texml_scan.specs.Looked.{look_of}
use Rattle.texml_expand.specs.declared.variables.Variable.{Variable}
use Rattle.texml_expand.specs.declared.variables.Index.{Index}
use Rattle.texml_expand.specs.declared.variables.Index.TheVariants.{Alone, Character, Register}
use Rattle.texml_input.specs.Next.{Taken}
use Rattle.texml_expand.specs.State.{State, room, chain, IsDecided, give, fail}
use Rattle.texml_expand.specs.Take.{take, means}
use Rattle.texml_expand.specs.Variables.{variable_at, index_of, key_of, among, a_character, a_register, Internal, Number, internal_in, value_of}
use Rattle.texml_expand.specs.Calls.{Seen, looks, Calls}
use Rattle.texml_expand.specs.Quantities.{int_text, Looked, looked_at, as_it_counts, as_itself, expanded, unexpanded, next_looked, read_index, read_key, internal_of, internal, held_of, look_by, look, put_last, needed, shown, internal_now, next_internal, the}
use Rattle.texml_expand.specs.Contract.{Lower}
use Rattle.texml_expand.proofs.Items.{size_put}
use Rattle.texml_expand.proofs.Leading.{Leads, leads_chain, leads_weaker, count, lower_less, take_leads}
use Rattle.texml_expand.proofs.Deciding.{chain_decided, any, take_decided}
use Rattle.texml_expand.proofs.Lawful.{By, CallsFall, Lawful, lawful_silent, lawful_give, lawful_fail, lawful_by, lawful_then, lawful_fetch, lawful_scan}

-- Tokens

count_map : {A B : Type 0} (f : A → B) (o : Option A) → count (option_map f o) ≡ count o
count_map f None = refl
count_map f (Some x) = refl

abbrev pub counts : Option Taken → By (Option Looked)
counts o c = as_it_counts o

pub lawful_counts : (o : Option Taken) → Lawful (counts o)
lawful_counts o = lawful_by (λ s. s.world) (λ w c. give (option_map (looked_at w) o)) (λ w. lawful_give (option_map (looked_at w) o))

pub lawful_expanded : Lawful expanded
lawful_expanded = lawful_then (λ c. c.fetch) counts lawful_fetch lawful_counts

pub expanded_leads : (c : Calls) → CallsFall c → (s : State) → Leads (λ o t. Lower (count o) s t) (expanded c s)
expanded_leads c f s = leads_chain (λ o t. Lower (count o) s t) (λ o t. Lower (count o) s t) (c.fetch s) as_it_counts (f.fetch s) (λ o t low. subst (λ k. Lower k s t) (sym (count_map (looked_at t.world) o)) low)

pub lawful_take : Lawful (λ c. take)
lawful_take = lawful_silent take take_decided (λ s. leads_weaker (λ o t. Lower (count o) s t) (λ o t. Lower 0 s t) (take s) (λ o t. lower_less (count o) s t) (take_leads s))

pub unexpanded_decided : (s : State) → IsDecided (unexpanded s)
unexpanded_decided s = chain_decided (λ o t. Unit {0}) (take s) (λ o. give (option_map as_itself o)) (take_decided s) (any (take s)) (λ o t _. tt)

unexpanded_leads : (s : State) → Leads (λ o t. Lower (count o) s t) (unexpanded s)
unexpanded_leads s = leads_chain (λ o t. Lower (count o) s t) (λ o t. Lower (count o) s t) (take s) (λ o. give (option_map as_itself o)) (take_leads s) (λ o t low. subst (λ k. Lower k s t) (sym (count_map as_itself o)) low)

abbrev pub raw_token : By (Option Looked)
raw_token c = unexpanded

pub lawful_unexpanded : Lawful raw_token
lawful_unexpanded = lawful_silent unexpanded unexpanded_decided (λ s. leads_weaker (λ o t. Lower (count o) s t) (λ o t. Lower 0 s t) (unexpanded s) (λ o t. lower_less (count o) s t) (unexpanded_leads s))

pub lawful_looked : (raw : Bool) → Lawful (λ c. next_looked c raw)
lawful_looked true = lawful_unexpanded
lawful_looked false = lawful_expanded

pub looked_leads : (c : Calls) → CallsFall c → (raw : Bool) (s : State) → Leads (λ o t. Lower (count o) s t) (next_looked c raw s)
looked_leads c f true s = unexpanded_leads s
looked_leads c f false s = expanded_leads c f s

-- Internal quantities

lawful_among_if : (b : Bool) (n : ℕ) → Lawful (λ c. if b then give n else fail BAD_CODE [])
lawful_among_if true n = lawful_give n
lawful_among_if false n = lawful_fail ℕ BAD_CODE []

lawful_among : (fits : ℕ → Bool) (i : ℤ) → Lawful (λ c. among fits i)
lawful_among fits (pos n) = lawful_among_if (fits n) n
lawful_among fits (negsuc n) = lawful_fail ℕ BAD_CODE []

pub lawful_character : (i : ℤ) → Lawful (λ c. a_character i)
lawful_character i = lawful_among _ i

pub lawful_register : (i : ℤ) → Lawful (λ c. a_register i)
lawful_register i = lawful_among _ i

pub lawful_index : (i : Index) → Lawful (λ c. read_index c i)
lawful_index Alone = lawful_give 0
lawful_index Character = lawful_then (λ c. c.scan int_text []) (λ i c. a_character i) (lawful_scan int_text) lawful_character
lawful_index Register = lawful_then (λ c. c.scan int_text []) (λ i c. a_register i) (lawful_scan int_text) lawful_register

pub lawful_key : (v : Variable) → Lawful (λ c. read_key c v)
lawful_key v = lawful_then (λ c. read_index c (index_of v)) (λ n c. give (key_of v n)) (lawful_index (index_of v)) (λ n. lawful_give (key_of v n))

abbrev pub value : Key → By Internal
value k c = value_of k

pub lawful_value : (k : Key) → Lawful (value k)
lawful_value k = lawful_by (λ s. internal_in k (s.world.top k)) (λ q c. give q) lawful_give

pub lawful_internal_of : (v : Option Variable) → Lawful (λ c. internal_of c v)
lawful_internal_of None = lawful_fail Internal MISSING_NUMBER []
lawful_internal_of (Some v) = lawful_then (λ c. read_key c v) value (lawful_key v) lawful_value

pub lawful_internal : (m : Meaning) → Lawful (λ c. internal c m)
lawful_internal (meanings.Number n) = lawful_give (Number (pos n))
lawful_internal (meanings.Quantity k) = lawful_value k
lawful_internal (meanings.Builtin place) = lawful_internal_of (variable_at place)
lawful_internal m = lawful_fail Internal MISSING_NUMBER []

-- Looks

abbrev pub look_asked : Token → Meaning → By Look
look_asked t m c s = chain (internal c m s) (λ q. give (look_of t m (held_of q)))

lawful_asked : (t : Token) (m : Meaning) → Lawful (look_asked t m)
lawful_asked t m = lawful_then (λ c. internal c m) (λ q c. give (look_of t m (held_of q))) (lawful_internal m) (λ q. lawful_give (look_of t m (held_of q)))

lawful_look_by : {V : Type 0} (t : Token) (m : Meaning) (v : Verdict V) → Lawful (λ c. look_by c t m v)
lawful_look_by t m (Wanting Asked) = lawful_asked t m
lawful_look_by t m (Wanting Expanded) = lawful_give (look_of t m held.Nothing)
lawful_look_by t m (Wanting Raw) = lawful_give (look_of t m held.Nothing)
lawful_look_by t m (Decided v n) = lawful_give (look_of t m held.Nothing)
lawful_look_by t m (Faulty f) = lawful_give (look_of t m held.Nothing)

pub lawful_look : {V : Type 0} (g : Remainder V) (seen : List Seen) (t : Token) → Lawful (λ c. look c g seen t)
lawful_look g seen t =
    lawful_by (λ s. means s.world t) (λ m c. look_by c t m (g (looks seen ++ look_of t m held.Nothing ∷ [])))
    (λ m. lawful_look_by t m (g (looks seen ++ look_of t m held.Nothing ∷ [])))

-- What \the gives

pub lawful_needed : {A : Type 0} (o : Option A) → Lawful (λ c. needed o)
lawful_needed {A = A} None = lawful_fail A FILE_ENDED []
lawful_needed (Some x) = lawful_give x

pub lawful_internal_now : (t : Token) → Lawful (λ c. internal_now c t)
lawful_internal_now t = lawful_by (λ s. means s.world t) (λ m c. internal c m) lawful_internal

abbrev pub internal_behind : Option Looked → By Internal
internal_behind o c s = chain (needed o s) (λ x. internal_now c x.counts)

pub lawful_internal_behind : (o : Option Looked) → Lawful (internal_behind o)
lawful_internal_behind o = lawful_then (λ c. needed o) (λ x c. internal_now c x.counts) (lawful_needed o) (λ x. lawful_internal_now x.counts)

pub lawful_next_internal : Lawful next_internal
lawful_next_internal = lawful_then expanded internal_behind lawful_expanded lawful_internal_behind

pub lawful_the : Lawful the
lawful_the = lawful_then next_internal (λ q c. give (shown q)) lawful_next_internal (λ q. lawful_give (shown q))

-- Tokens that go back

pub put_room : (n : ℕ) (seen : List Seen) (s : State) → room (put_last n seen s) ≤ room s + length seen
put_room n seen s =
    let last = drop (length seen - n) seen in
    let fewer = length-drop (length seen - n) seen in
    omega (arith, fewer, length-map last (λ (x : Seen). x.token), size_put (map (λ (x : Seen). x.token) last) s.rest)
