-- What is fetched and expanded, as it is said outside, is lawful.
use Rattle.std.proofs.Common.{Bool, true, false, List, [], length, Option, Some, None}
use Rattle.std.specs.Option.{option_map}
use Rattle.texml_token.specs.Token.{Token}
use Rattle.texml_expand.specs.declared.gathering.Gathering.TheVariants.{Group}
use Rattle.texml_expand.specs.State.{State, Reading, chain, give, change}
use Rattle.texml_expand.specs.Take.{meaning_of}
use Rattle.texml_expand.specs.Least.{by_least}
use Rattle.texml_expand.specs.Absorb.{absorbed, absorbs, absorb_expanded}
use Rattle.texml_expand.specs.Calls.{Expandable, expandable}
use Rattle.texml_expand.specs.Quantities.{Looked, expanded}
use Rattle.texml_expand.specs.Expand.{counted, fetched, expand_as, expand_token}
use Rattle.texml_expand.specs.Contract.{Lower}
use Rattle.texml_expand.proofs.Leading.{leads_weaker, lower_none, lower_less}
use Rattle.texml_expand.proofs.Least.{Decides, by_least_leads, by_least_decided}
use Rattle.texml_expand.proofs.Lawful.{By, Lawful, lawful_silent, lawful_give, lawful_by, lawful_then, lawful_change, lawful_expand, lawful_gather}
use Rattle.texml_expand.proofs.Looking.{lawful_expanded}

abbrev pub as_counted : Option Looked → By (Option Token)
as_counted o c = counted o

pub lawful_counted : (o : Option Looked) → Lawful (as_counted o)
lawful_counted o = lawful_give (option_map (λ x. x.counts) o)

pub lawful_fetched : Lawful fetched
lawful_fetched = lawful_then expanded as_counted lawful_expanded lawful_counted

lawful_expand_as : (t : Token) (e : Option Expandable) → Lawful (λ c. expand_as c t e)
lawful_expand_as t None = lawful_give tt
lawful_expand_as t (Some e) = lawful_expand t e

pub lawful_expand_token : (t : Token) → Lawful (λ c. expand_token c t)
lawful_expand_token t = lawful_by (λ s. expandable (meaning_of s.world t)) (λ e c. expand_as c t e) (lawful_expand_as t)

-- the tokens of a group, expanded

pub absorbs_lower : (b : Bool) (s : State) → Lower 0 s (absorbs b s)
absorbs_lower b s = let l = lower_none s in record { limit = l.limit; nesting = l.nesting; begun = l.begun; size = l.size; within = l.within }

pub lawful_absorbs : (b : Bool) → Lawful (λ c. change (absorbs b))
lawful_absorbs b = lawful_change (absorbs b) (absorbs_lower b)

-- what follows the tokens, and what follows the beginning
abbrev pub no_longer : List Token → Reading (List Token)
no_longer list s = chain (change (absorbs false) s) (λ _. give list)

pub lawful_no_longer : (list : List Token) → Lawful (λ c. no_longer list)
lawful_no_longer list = lawful_then (λ c. change (absorbs false)) (λ v c. give list) (lawful_absorbs false) (λ v. lawful_give list)

abbrev pub group_expanded : By (List Token)
group_expanded c s = chain (c.gather Group [] s) no_longer

pub lawful_group_expanded : Lawful group_expanded
lawful_group_expanded = lawful_then (λ c. c.gather Group []) (λ list c. no_longer list) (lawful_gather Group) lawful_no_longer

pub lawful_absorb_expanded : Lawful absorb_expanded
lawful_absorb_expanded = lawful_then (λ c. change (absorbs true)) (λ v. group_expanded) (lawful_absorbs true) (λ v. lawful_group_expanded)

-- as they stand or expanded
abbrev pub absorbing : Bool → By (List Token)
absorbing false c = by_least absorbed
absorbing true c = absorb_expanded c

pub lawful_absorbing : (expanding : Bool) → Lawful (absorbing expanding)
lawful_absorbing false =
    lawful_silent (by_least absorbed) (by_least_decided absorbed) (λ s. leads_weaker (Decides absorbed s) (λ v t. Lower 0 s t) (by_least absorbed s) (λ v t d. lower_less (length d.list) s t d.lower) (by_least_leads absorbed s))
lawful_absorbing true = lawful_absorb_expanded
