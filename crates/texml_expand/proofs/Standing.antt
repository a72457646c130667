-- What stands at the front: it is decided, and less is left to be read behind it.
use Rattle.std.proofs.Common.{ℕ, Bool, true, false, if◌then◌else◌, Option, Some, None}
use Rattle.texml_scope.specs.Texts.{Meaning}
use Rattle.texml_scope.specs.declared.values.MeaningOf.TheVariants.{Undefined}
use Rattle.texml_input.specs.Next.{Taken}
use Rattle.texml_expand.specs.State.{State, IsDecided, give}
use Rattle.texml_expand.specs.Take.{take, meaning_of}
use Rattle.texml_expand.specs.Calls.{Expandable, expandable}
use Rattle.texml_expand.specs.Front.{Front, Nothing, Plain, Expands, front_of, front_by, front_taken, front}
use Rattle.texml_expand.specs.Contract.{Lower}
use Rattle.texml_expand.proofs.Leading.{Leads, leads_chain, leads_weaker, count, lower_less, take_leads}
use Rattle.texml_expand.proofs.Deciding.{chain_decided, any, take_decided}
use Rattle.texml_expand.proofs.Lawful.{Lawful, lawful_silent}

abbrev pub front_count : Front → ℕ
front_count Nothing = 0
front_count (Plain t) = 1
front_count (Expands t e) = 1

abbrev pub FrontLeads : State → Front → State → Type 0
FrontLeads s f t = Lower (front_count f) s t

of_leads : (s t : State) (x : Taken) (e : Option Expandable) → Lower 1 s t → FrontLeads s (front_of x e) t
of_leads s t x None h = h
of_leads s t x (Some e) h = h

by_leads : (s t : State) (x : Taken) (m : Option Meaning) → Lower 1 s t → Leads (FrontLeads s) (front_by x m t)
by_leads s t x (Some Undefined) h = tt
by_leads s t x m h = of_leads s t x (expandable m) h

frozen_leads : (s t : State) (frozen : Bool) (x : Taken) (m : Option Meaning) → Lower 1 s t → Leads (FrontLeads s) ((if frozen then give (Plain x) else front_by x m) t)
frozen_leads s t true x m h = h
frozen_leads s t false x m h = by_leads s t x m h

taken_leads : (s : State) (o : Option Taken) (t : State) → Lower (count o) s t → Leads (FrontLeads s) (front_taken o t)
taken_leads s None t h = h
taken_leads s (Some x) t h = frozen_leads s t x.frozen x (meaning_of t.world x.token) h

pub front_leads : (s : State) → Leads (FrontLeads s) (front s)
front_leads s = leads_chain (λ o t. Lower (count o) s t) (FrontLeads s) (take s) front_taken (take_leads s) (taken_leads s)

by_decided : (x : Taken) (m : Option Meaning) (s : State) → IsDecided (front_by x m s)
by_decided x (Some Undefined) s = tt
by_decided x m s = tt

frozen_decided : (b : Bool) (x : Taken) (m : Option Meaning) (s : State) → IsDecided ((if b then give (Plain x) else front_by x m) s)
frozen_decided true x m s = tt
frozen_decided false x m s = by_decided x m s

taken_decided : (o : Option Taken) (s : State) → IsDecided (front_taken o s)
taken_decided None s = tt
taken_decided (Some x) s = frozen_decided x.frozen x (meaning_of s.world x.token) s

pub front_decided : (s : State) → IsDecided (front s)
front_decided s = chain_decided (λ v t. Unit {0}) (take s) front_taken (take_decided s) (any (take s)) (λ o t _. taken_decided o t)

pub lawful_front : Lawful (λ c. front)
lawful_front = lawful_silent front front_decided (λ s. leads_weaker (FrontLeads s) (λ f t. Lower 0 s t) (front s) (λ f t. lower_less (front_count f) s t) (front_leads s))
