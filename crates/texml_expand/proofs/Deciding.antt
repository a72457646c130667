-- Readings that decide.
use Rattle.std.proofs.Common.{◌≡◌, ℕ, Bool, true, false, ◌&&◌, refl}
use Rattle.texml_input.specs.Next.{Taken, Given, Got, AtEnd, Invalid, NotUtf8, next}
use Rattle.texml_expand.specs.State.{State, Gains, Answer, Done, Ended, Unfinished, Reading, nothing, after, chain, IsDecided}
use Rattle.texml_input.specs.Codes.{cats_of, end_of}
use Rattle.texml_expand.specs.Take.{take_token, take_given, take}
use Rattle.texml_expand.proofs.Leading.{Leads}

pub after_decided : {A : Type 0} (gains : Gains) (a : Answer A) → IsDecided (after gains a) → IsDecided a
after_decided gains (Done v s more) d = tt
after_decided gains (Ended e more) d = tt
after_decided gains (Unfinished more) d = d

pub decided_after : {A : Type 0} (gains : Gains) (a : Answer A) → IsDecided a → IsDecided (after gains a)
decided_after gains (Done v s more) d = tt
decided_after gains (Ended e more) d = tt
decided_after gains (Unfinished more) d = d

pub after_nothing : {A : Type 0} (a : Answer A) → after nothing a ≡ a
after_nothing (Done v s gains) = refl
after_nothing (Ended e gains) = refl
after_nothing (Unfinished gains) = refl

-- a chain decides where its first part does, and its second part behind each value that the first may give
pub chain_decided : {A B : Type 0} (P : A → State → Type 0) (a : Answer A) (f : A → Reading B) → IsDecided a → Leads P a → ((v : A) (t : State) → P v t → IsDecided (f v t))
    → IsDecided (chain a f)
chain_decided P (Done v t gains) f d h go = decided_after gains (f v t) (go v t h)
chain_decided P (Ended e gains) f d h go = tt
chain_decided P (Unfinished gains) f d h go = d

pub any : {A : Type 0} (a : Answer A) → Leads (λ v t. Unit {0}) a
any (Done v t gains) = tt
any (Ended e gains) = tt
any (Unfinished gains) = tt

token_decided : (b : Bool) (t : Taken) (bytes : ℕ) (s : State) → IsDecided (take_token b t bytes s)
token_decided true t bytes s = tt
token_decided false t bytes s = tt

given_decided : (g : Given) (s : State) → IsDecided (take_given g s)
given_decided (Got t rest place bytes) s = token_decided (s.absorbing && t.crossed) t bytes (record s { rest = rest; place = place })
given_decided (AtEnd place bytes) s = tt
given_decided (Invalid c place bytes) s = tt
given_decided (NotUtf8 place bytes) s = tt

pub take_decided : (s : State) → IsDecided (take s)
take_decided s = given_decided (next (cats_of s.world) (end_of s.world) s.rest s.place) s
