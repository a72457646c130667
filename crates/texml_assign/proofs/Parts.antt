-- The parts of commands: each has one answer, and leaves no more to be read.
use Rattle.std.proofs.Common.{◌≡◌, ◌+◌, ℕ, zero, suc, Bool, true, false, ◌&&◌, if◌then◌else◌, List, [], ◌∷◌, length, ◌++◌, ◌≤◌, Option, Some, None, Ok, Err, refl, sym, ap, ◌∙◌, arith}
use Rattle.std.specs.List.{sum_by}
use Rattle.std.proofs.lemmas.List.Sums.{sum_by-cons}
use Rattle.texml_token.specs.Token.{Token, Active, Named}
use Rattle.texml_scope.specs.declared.values.FaultOf.TheVariants.{WrongGroup}
use Rattle.texml_scope.specs.Groups.{Open, begin_group, end_in}
use Rattle.texml_scope.specs.Texts.{Key, Kind, Value, Meaning, key_eq, kind_eq}
use Rattle.texml_scope.specs.declared.values.MeaningOf.TheVariants.{Macro}
use Rattle.texml_scope.specs.declared.values.ValueOf.TheVariants.{Means}
use Rattle.texml_input.specs.Next.{Taken, Given, Got, AtEnd, Invalid, NotUtf8, next}
use Rattle.texml_input.specs.Codes.{cats_of, end_of}
use Rattle.texml_expand.specs.Absorb.{absorbed, absorb}
use Rattle.texml_expand.specs.Least.{inside_if, inside, inner_token, next_tokens, least, is_enough, decided, by_least}
use Rattle.texml_expand.specs.declared.feeding.Verdict.{Verdict}
use Rattle.texml_expand.specs.declared.feeding.Verdict.TheVariants.{TooShort, Yields, Refuses}
use Rattle.texml_expand.proofs.Least.{Decides, by_least_decided, by_least_leads}
use Rattle.texml_expand.specs.State.{State, nothing, room, Done, Reading, chain, IsDecided, give, change}
use Rattle.texml_expand.specs.Expand.{take_given, take, put}
use Rattle.texml_expand.specs.Contract.{Lower}
use Rattle.texml_expand.proofs.Items.{size_put}
use Rattle.texml_expand.proofs.Leading.{Leads, leads_chain, leads_weaker, lower_none, lower_then, count, take_leads}
use Rattle.texml_expand.proofs.Deciding.{any, chain_decided, take_decided}
use Rattle.texml_assign.specs.Loop.{ByDepth, On, Over}
use Rattle.texml_expand.specs.Take.{take_token, means}
use Rattle.texml_expand.specs.Arguments.{means_space}
use Rattle.texml_assign.specs.Operands.{needed, next_token, token_of, token_or_end, key_of, next_key, space_turn, spaces_loop, behind_spaces, is_equals, behind_space, behind_sign, behind_equals, meaning_now, meant, with_token}
use Rattle.texml_assign.specs.Parameters.{Head, text_of, body_of}
use Rattle.texml_assign.specs.Define.{parameter_text, needed_body, body_said, next_body, macro_of, defined, assigned}
use Rattle.texml_assign.specs.Sets.{set, assign, begin_kind, ended, end_kind, read_after, keep_token}
use Rattle.texml_expand.proofs.Public.{lawful_absorb_expanded}
use Rattle.texml_assign.proofs.Rooms.{below_room, keep_room}
use Rattle.texml_assign.proofs.Readings.{IsUnlimited, unlimited_chain, Lawful, Plain, lawful_calls, lawful_plain, lawful_then, plain_by, plain_give, plain_fail, plain_change, plain_if, plain_then}
use Rattle.texml_assign.proofs.Looping.{LawfulLoop, lawful_loop}

-- a state of which no more is to be read
pub same_room : (s t : State) → t.limit ≡ s.limit → t.nesting ≡ s.nesting → t.begun ≡ s.begun → room t ≤ room s → Lower 0 s t
same_room s t limit nesting begun less = record { limit = limit; nesting = nesting; begun = omega arith; size = λ _. omega arith; within = λ w. omega arith }

-- Tokens

token_unlimited : (b : Bool) (t : Taken) (bytes : ℕ) (s : State) → IsUnlimited (take_token b t bytes s)
token_unlimited true t bytes s = tt
token_unlimited false t bytes s = tt

given_unlimited : (s : State) (g : Given) → IsUnlimited (take_given g s)
given_unlimited s (Got t rest place bytes) = token_unlimited (s.absorbing && t.crossed) t bytes (record s { rest = rest; place = place })
given_unlimited s (AtEnd place bytes) = tt
given_unlimited s (Invalid c place bytes) = tt
given_unlimited s (NotUtf8 place bytes) = tt

pub plain_take : Plain take
plain_take = record { decided = take_decided; unlimited = λ s. given_unlimited s (next (cats_of s.world) (end_of s.world) s.rest s.place); falls = λ s. leads_weaker (λ o t. Lower (count o) s t) (λ o t. Lower 0 s t) (take s) (λ o t g. lower_then (count o) 0 0 s t t g (lower_none t) (omega arith)) (take_leads s) }

pub plain_token_or_end : Plain token_or_end
plain_token_or_end = plain_then take (λ o. give (token_of o)) plain_take (λ o. plain_give (token_of o))

pub plain_needed : (o : Option Token) → Plain (needed o)
plain_needed None = plain_fail _ _ _
plain_needed (Some t) = plain_give t

pub plain_next : Plain next_token
plain_next = plain_then token_or_end needed plain_token_or_end plain_needed

pub plain_key_of : (t : Token) → Plain (key_of t)
plain_key_of (Active c) = plain_give _
plain_key_of (Named t) = plain_give _
plain_key_of t = plain_fail _ _ _

pub plain_next_key : Plain next_key
plain_next_key = plain_then next_token key_of plain_next plain_key_of

count_of : (o : Option Taken) → count (token_of o) ≡ count o
count_of None = refl
count_of (Some t) = refl

token_lowers : (s : State) → Leads (λ o t. Lower (count o) s t) (token_or_end s)
token_lowers s = leads_chain (λ o t. Lower (count o) s t) (λ o t. Lower (count o) s t) (take s) (λ o. give (token_of o)) (take_leads s) (λ o t low. rw (count_of o) low)

-- Spaces

pub plain_space_turn : (seen : Unit {0}) (t : Token) → Plain (λ s. space_turn seen t 0 s)
plain_space_turn seen t = plain_by (λ s. means s.world t) (λ m. give (if means_space m then On tt else Over t)) (λ m. plain_give _)

pub space_is : (b : Bool) (t : Token) (s : State) → means_space (means s.world t) ≡ b → space_turn tt t 0 s ≡ Done (if b then On tt else Over t) s nothing
space_is b t s e = ap (λ x. Done (if x then On tt else Over t) s nothing) e

pub spaces_laws : LawfulLoop spaces_loop
spaces_laws = record {
  source = lawful_plain token_or_end plain_token_or_end;
  lowers = λ n s. token_lowers s;
  turn = λ seen t. lawful_plain (λ s. space_turn seen t 0 s) (plain_space_turn seen t);
  end = λ seen. plain_fail _ _ _;
}

pub lawful_spaces : Lawful behind_spaces
lawful_spaces = lawful_loop spaces_loop spaces_laws tt

pub plain_behind_space : (t : Token) → Plain (behind_space t)
plain_behind_space t = plain_by (λ s. means s.world t) (λ m. if means_space m then next_token else give t) (λ m. plain_if (means_space m) next_token (give t) plain_next (plain_give t))

pub plain_behind_sign : Plain behind_sign
plain_behind_sign = plain_then next_token behind_space plain_next plain_behind_space

pub plain_behind_equals : (t : Token) → Plain (behind_equals t)
plain_behind_equals t = plain_if (is_equals t) behind_sign (give t) plain_behind_sign (plain_give t)

pub plain_meaning_now : (t : Token) → Plain (meaning_now t)
plain_meaning_now t = plain_by (λ s. means s.world t) give plain_give

-- what is meant behind spaces
abbrev pub meant_behind : Token → Reading Meaning
meant_behind t s = chain (behind_equals t s) meaning_now

pub plain_meant_behind : (t : Token) → Plain (meant_behind t)
plain_meant_behind t = plain_then (behind_equals t) meaning_now (plain_behind_equals t) plain_meaning_now

pub lawful_meant : Lawful meant
lawful_meant = lawful_then behind_spaces (λ t n. meant_behind t) lawful_spaces (λ t. lawful_plain (meant_behind t) (plain_meant_behind t))

-- Sets

pub plain_set : (global : Bool) (k : Key) (v : Value) → Plain (change (set global k v))
plain_set global k v = plain_change (set global k v) (λ s. by global s)
  where
    by : (global : Bool) (s : State) → Lower 0 s (set global k v s)
    by true s = same_room s (set true k v s) refl refl refl (let e = below_room key_eq k v s.world.groups in omega arith)
    by false s = same_room s (set false k v s) refl refl refl (omega arith)

pub plain_assign : (global : Bool) (k : Key) (m : Meaning) → Plain (change (assign global k m))
plain_assign global k m = plain_set global k (Means m)

-- what follows a name, and what follows its meaning
abbrev pub key_taken : Bool → ByDepth Meaning → Key → ByDepth (Unit {0})
key_taken global meaning k n s = chain (meaning n s) (λ m. change (assign global k m))

pub lawful_key_taken : (global : Bool) (meaning : ByDepth Meaning) → Lawful meaning → (k : Key) → Lawful (key_taken global meaning k)
lawful_key_taken global meaning l k = lawful_then meaning (λ m n. change (assign global k m)) l (λ m. lawful_plain (change (assign global k m)) (plain_assign global k m))

pub lawful_assigned : (global : Bool) (meaning : ByDepth Meaning) → Lawful meaning → Lawful (assigned global meaning)
lawful_assigned global meaning l = lawful_then (λ n. next_key) (key_taken global meaning) (lawful_plain next_key plain_next_key) (lawful_key_taken global meaning l)

-- a token that is read after a group, and one that is read after an assignment
needed_one : (o : Option Token) (s t : State) → Lower (count o) s t → Leads (λ x u. Lower 1 s u) (needed o t)
needed_one None s t low = tt
needed_one (Some x) s t low = low

next_lowers : (s : State) → Leads (λ t u. Lower 1 s u) (next_token s)
next_lowers s = leads_chain (λ o t. Lower (count o) s t) (λ t u. Lower 1 s u) (token_or_end s) needed (token_lowers s) (λ o t low. needed_one o s t low)

pub kept_lower : (s t u : State) → Lower 1 s t → u.limit ≡ t.limit → u.nesting ≡ t.nesting → u.begun ≡ t.begun → room u ≤ room t + 1 → Lower 0 s u
kept_lower s t u low limit nesting begun more = record {
  limit = limit ∙ low.limit;
  nesting = nesting ∙ low.nesting;
  begun = let b = low.begun in omega arith;
  size = λ e. let l = low.size (sym begun ∙ e) in omega arith;
  within = λ w. let b = low.within (omega arith) in omega arith;
}

-- a token that is taken, and then kept somewhere
pub plain_with_token : (f : Token → State → State) → ((t : Token) (s : State) → (f t s).limit ≡ s.limit) → ((t : Token) (s : State) → (f t s).nesting ≡ s.nesting) → ((t : Token) (s : State) → (f t s).begun ≡ s.begun)
    → ((t : Token) (s : State) → room (f t s) ≤ room s + 1) → Plain (with_token f)
plain_with_token f limit nesting begun more = record {
  decided = λ s. chain_decided (λ t u. Unit {0}) (next_token s) (λ t. change (f t)) (plain_next.decided s) (any (next_token s)) (λ t u _. tt);
  unlimited = λ s. unlimited_chain (next_token s) (λ t. change (f t)) (plain_next.unlimited s) (λ t u. tt);
  falls = λ s. leads_chain (λ t u. Lower 1 s u) (λ v u. Lower 0 s u) (next_token s) (λ t. change (f t)) (next_lowers s)
      (λ t u low. kept_lower s u (f t u) low (limit t u) (nesting t u) (begun t u) (more t u));
}

pub plain_after_group : Plain (with_token read_after)
plain_after_group = plain_with_token read_after (λ t s. refl) (λ t s. refl) (λ t s. refl) (λ t s. let k = keep_room t s.world.groups in omega arith)

pub plain_after_assignment : Plain (with_token keep_token)
plain_after_assignment = plain_with_token keep_token (λ t s. refl) (λ t s. refl) (λ t s. refl) (λ t s. omega arith)

-- Groups

begin_room : (kind : Kind) (s : State) → room (record s { world = begin_group kind s.world }) ≡ room s
begin_room kind s = let e = sum_by-cons (λ (g : Open Key Value Token Kind). length g.after) (record { kind = kind; after = []; below = s.world.top }) s.world.groups in omega (arith, e)

pub plain_begin : (kind : Kind) → Plain (begin_kind kind)
plain_begin kind = plain_change (λ s. record s { world = begin_group kind s.world }) (λ s. same_room s (record s { world = begin_group kind s.world }) refl refl refl (let e = begin_room kind s in omega arith))

end_room : (s : State) (g : Open Key Value Token Kind) (gs : List (Open Key Value Token Kind)) → s.world.groups ≡ g ∷ gs
    → room (put g.after (record s { world = record { top = g.below; groups = gs } })) ≡ room s
end_room s g gs e =
    let all = ap (sum_by (λ (o : Open Key Value Token Kind). length o.after)) e in
    omega (arith, all, sum_by-cons (λ (o : Open Key Value Token Kind). length o.after) g gs, size_put g.after s.rest)

by_kind : (s : State) (g : Open Key Value Token Kind) (gs : List (Open Key Value Token Kind)) (b : Bool) → s.world.groups ≡ g ∷ gs
    → IsDecided (ended (if b then (record { top = g.below; groups = gs }, Ok g.after) else (s.world, Err (WrongGroup g.kind))) s)
    × Leads (λ v t. Lower 0 s t) (ended (if b then (record { top = g.below; groups = gs }, Ok g.after) else (s.world, Err (WrongGroup g.kind))) s)
    × IsUnlimited (ended (if b then (record { top = g.below; groups = gs }, Ok g.after) else (s.world, Err (WrongGroup g.kind))) s)
by_kind s g gs true e = (tt, same_room s (put g.after (record s { world = record { top = g.below; groups = gs } })) refl refl refl (let r = end_room s g gs e in omega arith), tt)
by_kind s g gs false e = (tt, tt, tt)

by_groups : (kind : Kind) (s : State) (gs : List (Open Key Value Token Kind)) → s.world.groups ≡ gs
    → IsDecided (ended (end_in kind_eq kind s.world gs) s) × Leads (λ v t. Lower 0 s t) (ended (end_in kind_eq kind s.world gs) s) × IsUnlimited (ended (end_in kind_eq kind s.world gs) s)
by_groups kind s [] e = (tt, tt, tt)
by_groups kind s (g ∷ gs) e = by_kind s g gs (kind_eq g.kind kind) e

pub plain_end : (kind : Kind) → Plain (end_kind kind)
plain_end kind = record { decided = λ s. (by_groups kind s s.world.groups refl).0; falls = λ s. (by_groups kind s s.world.groups refl).1; unlimited = λ s. (by_groups kind s s.world.groups refl).2 }

-- Definitions

inside_if_unlimited : (b : Bool) (t : Token) (s : State) → IsUnlimited (inside_if b t s)
inside_if_unlimited true t s = tt
inside_if_unlimited false t s = tt

inside_unlimited : (o : Option Taken) (s : State) → IsUnlimited (inside o s)
inside_unlimited None s = tt
inside_unlimited (Some t) s = inside_if_unlimited t.crossed t.token s

tokens_unlimited : (k : ℕ) (s : State) → IsUnlimited (next_tokens k s)
tokens_unlimited zero s = tt
tokens_unlimited (suc k) s =
    unlimited_chain (next_tokens k s) _ (tokens_unlimited k s) (λ list t.
    unlimited_chain (inner_token t) (λ x. give (list ++ x ∷ [])) (unlimited_chain (take t) inside (plain_take.unlimited t) inside_unlimited) (λ x u. tt))

verdict_unlimited : {A : Type 0} (v : Verdict A) (s : State) → IsUnlimited (decided v s)
verdict_unlimited TooShort s = tt
verdict_unlimited (Yields v) s = tt
verdict_unlimited (Refuses code) s = tt

-- a reading by the least number of next tokens
pub plain_by_least : {A : Type 0} (decide : List Token → Verdict A) → Plain (by_least decide)
plain_by_least decide = record {
  decided = by_least_decided decide;
  falls = λ s. leads_weaker (Decides decide s) (λ v t. Lower 0 s t) (by_least decide s) (λ v t g. lower_then (length g.list) 0 0 s t t g.lower (lower_none t) (omega arith)) (by_least_leads decide s);
  unlimited = λ s.
      let k = least (room s + 1) (λ k. is_enough decide (next_tokens k s)) in
      unlimited_chain (next_tokens k s) (λ list. decided (decide list)) (tokens_unlimited k s) (λ list t. verdict_unlimited (decide list) t);
}

pub lawful_absorb : (expanding : Bool) → Lawful (absorb expanding)
lawful_absorb false = lawful_plain (by_least absorbed) (plain_by_least absorbed)
lawful_absorb true = lawful_calls _ lawful_absorb_expanded

pub plain_parameter_text : Plain parameter_text
plain_parameter_text = plain_by_least text_of

pub plain_needed_body : (o : Option (List Token)) → Plain (needed_body o)
plain_needed_body None = plain_fail _ _ _
plain_needed_body (Some body) = plain_give body

pub plain_body_said : (slots : ℕ) (list : List Token) → Plain (body_said slots list)
plain_body_said slots list = plain_needed_body (body_of slots list)

pub lawful_body_said : (slots : ℕ) (list : List Token) → Lawful (λ n. body_said slots list)
lawful_body_said slots list = lawful_plain (body_said slots list) (plain_body_said slots list)

pub lawful_next_body : (expanding : Bool) (slots : ℕ) → Lawful (next_body expanding slots)
lawful_next_body expanding slots = lawful_then (absorb expanding) (λ list n. body_said slots list) (lawful_absorb expanding) (lawful_body_said slots)

-- what follows a body, and what follows a parameter text
abbrev pub body_taken : Bool → Head Token → List Token → Reading Meaning
body_taken long h body = give (Macro (macro_of long h body))

pub lawful_body_taken : (long : Bool) (h : Head Token) (body : List Token) → Lawful (λ n. body_taken long h body)
lawful_body_taken long h body = lawful_plain (body_taken long h body) (plain_give _)

abbrev pub head_taken : Bool → Bool → Head Token → ByDepth Meaning
head_taken expanding long h n s = chain (next_body expanding h.slots n s) (body_taken long h)

pub lawful_head_taken : (expanding long : Bool) (h : Head Token) → Lawful (head_taken expanding long h)
lawful_head_taken expanding long h = lawful_then (next_body expanding h.slots) (λ body n. body_taken long h body) (lawful_next_body expanding h.slots) (lawful_body_taken long h)

pub lawful_defined : (expanding long : Bool) → Lawful (defined expanding long)
lawful_defined expanding long = lawful_then (λ n. parameter_text) (head_taken expanding long) (lawful_plain parameter_text plain_parameter_text) (lawful_head_taken expanding long)
