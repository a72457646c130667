-- What \input and \endinput read and give is lawful.
use Rattle.std.proofs.Common.{◌≡◌, ◌≤◌, ℕ, Bool, true, false, nat_le, if◌then◌else◌, List, [], ◌∷◌, length, map, Option, Some, None, refl, ap, arith}
use Rattle.std.specs.Prelude.{sum_by}
use Rattle.std.specs.List.{list_all}
use Rattle.std.proofs.lemmas.List.Sums.{sum_by-cons}
use Rattle.texml_token.specs.Token.{Token}
use Rattle.texml_token.specs.declared.fault_code.TheConstants.{DEPTH, MISSING_ENDCSNAME}
use Rattle.texml_match.specs.Arguments.{argument}
use Rattle.texml_input.specs.Rest.{Item, Tok, Frozen, Text, ended, size, has_text, end_text, end_rests}
use Rattle.texml_input.specs.Next.{Taken}
use Rattle.texml_input.specs.Searching.{names_tried, first_there}
use Rattle.texml_expand.specs.declared.engine.including.TheConstants.{MOST_FILES}
use Rattle.texml_expand.specs.declared.gathering.Gathering.TheVariants.{FileName, All}
use Rattle.texml_expand.specs.State.{State, room, Answer, Reading, chain, IsDecided, give, fail, change}
use Rattle.texml_expand.specs.Arguments.{decided_by, behind_spaces, read_argument}
use Rattle.texml_expand.specs.Calls.{Gift, Puts}
use Rattle.texml_expand.specs.Include.{with_rests, alone, taken_up, argument_alone, all_left, is_char, bytes_of, characters, name_argument, plain_name, returned, peeked, begins_group, name_by, file_name, open_texts, found, opened, include, text_ended, end_input}
use Rattle.texml_expand.specs.Contract.{Lower}
use Rattle.texml_expand.proofs.Items.{size-cons}
use Rattle.texml_expand.proofs.Leading.{Leads, leads_chain, leads_weaker, count, lower_none, lower_then}
use Rattle.texml_expand.proofs.Deciding.{any, chain_decided}
use Rattle.texml_expand.proofs.Least.{Takes, Decides, by_least_leads, by_least_decided}
use Rattle.texml_expand.proofs.Lengths.{argument_fits, yields_fits}
use Rattle.texml_expand.proofs.Calling.{back_lower, spaces_leads, spaces_decided}
use Rattle.texml_expand.proofs.Lawful.{By, Lawful, lawful_silent, lawful_give, lawful_fail, lawful_then, lawful_change, lawful_gather}

-- The next token, which stays

pub returned_lower : (o : Option Taken) (s t : State) → Lower (count o) s t → Lower 0 s (returned o t)
returned_lower None s t l = l
returned_lower (Some x) s t l = back_lower x.token false s t l

-- it goes back, and is known
abbrev pub known : Option Taken → Reading (Option Taken)
known o s = chain (change (returned o) s) (λ _. give o)

pub peeked_leads : (s : State) → Leads (λ o t. Lower 0 s t) (peeked s)
peeked_leads s = leads_chain (λ o t. Takes (count o) s t) (λ o t. Lower 0 s t) (behind_spaces s) known (spaces_leads (room s) s) (λ o t g. returned_lower o s t g.lower)

pub peeked_decided : (s : State) → IsDecided (peeked s)
peeked_decided s = chain_decided (λ o t. Unit {0}) (behind_spaces s) known (spaces_decided (room s) s) (any (behind_spaces s)) (λ o t _. tt)

pub lawful_peeked : Lawful (λ c. peeked)
lawful_peeked = lawful_silent peeked peeked_decided peeked_leads

-- An argument alone

size_tokens : (list : List Token) → size (map Tok list) ≡ length list
size_tokens [] = refl
size_tokens (t ∷ list) = omega (arith, size-cons (Tok t) (map Tok list), size_tokens list)

pub alone_lower : (list : List Token) (s t : State) → Lower (length list) s t → Lower 0 s (alone list t)
alone_lower list s t l = record {
  limit = l.limit;
  nesting = l.nesting;
  begun = l.begun;
  size = λ e. let less = l.size e in omega (arith, less, size_tokens list, sum_by-cons size t.rest t.aside);
  within = l.within;
}

up_by : (aside : List (List (Item Token))) (s : State) → s.aside ≡ aside → Lower 0 s (with_rests aside s)
up_by [] s e = lower_none s
up_by (rest ∷ more) s e = record {
  limit = refl;
  nesting = refl;
  begun = omega arith;
  size = λ _. let all = ap (λ (rests : List (List (Item Token))). sum_by size rests) e in omega (arith, all, sum_by-cons size rest more);
  within = λ lt. absurd (omega (arith, lt));
}

pub taken_up_lower : (s : State) → Lower 0 s (taken_up s)
taken_up_lower s = up_by s.aside s refl

-- an argument is no longer than what is read for it
pub argument_leads : (s : State) → Leads (λ list t. Lower (length list) s t) (read_argument s)
argument_leads s =
    let decide = λ (list : List Token). decided_by (argument true [] list) in
    leads_weaker (Decides decide s) (λ list t. Lower (length list) s t) (read_argument s)
    (λ list t d. lower_then (length d.list) 0 (length list) s t t d.lower (lower_none t) (let le = yields_fits (length d.list) (argument true [] d.list) list (argument_fits true [] d.list) d.is in omega (arith, le)))
    (by_least_leads decide s)

pub argument_decided : (s : State) → IsDecided (read_argument s)
argument_decided s = by_least_decided (λ (list : List Token). decided_by (argument true [] list)) s

pub alone_leads : (s : State) → Leads (λ v t. Lower 0 s t) (argument_alone s)
alone_leads s = leads_chain (λ list t. Lower (length list) s t) (λ v t. Lower 0 s t) (read_argument s) (λ list. change (alone list)) (argument_leads s) (λ list t l. alone_lower list s t l)

pub alone_decided : (s : State) → IsDecided (argument_alone s)
alone_decided s = chain_decided (λ list t. Unit {0}) (read_argument s) (λ list. change (alone list)) (argument_decided s) (any (read_argument s)) (λ list t _. tt)

pub lawful_argument_alone : Lawful (λ c. argument_alone)
lawful_argument_alone = lawful_silent argument_alone alone_decided alone_leads

-- what was set aside last is read again, behind these tokens
abbrev pub up_with : List Token → Reading (List Token)
up_with list s = chain (change taken_up s) (λ _. give list)

pub lawful_up_with : (list : List Token) → Lawful (λ c. up_with list)
lawful_up_with list = lawful_then (λ c. change taken_up) (λ v c. give list) (lawful_change taken_up taken_up_lower) (λ v. lawful_give list)

pub lawful_all_left : Lawful all_left
lawful_all_left = lawful_then (λ c. c.gather All []) (λ list c. up_with list) (lawful_gather All) lawful_up_with

-- The name of a file

characters_if : (b : Bool) (list : List Token) → Lawful (λ c. if b then give (bytes_of list) else fail MISSING_ENDCSNAME [])
characters_if true list = lawful_give (bytes_of list)
characters_if false list = lawful_fail (List ℕ) MISSING_ENDCSNAME []

pub lawful_characters : (list : List Token) → Lawful (λ c. characters list)
lawful_characters list = characters_if (list_all is_char list) list

abbrev pub characters_left : By (List ℕ)
characters_left c s = chain (all_left c s) characters

pub lawful_characters_left : Lawful characters_left
lawful_characters_left = lawful_then all_left (λ list c. characters list) lawful_all_left lawful_characters

pub lawful_name_argument : Lawful name_argument
lawful_name_argument = lawful_then (λ c. argument_alone) (λ v. characters_left) lawful_argument_alone (λ v. lawful_characters_left)

pub lawful_plain_name : Lawful plain_name
lawful_plain_name = lawful_then (λ c. c.gather FileName []) (λ list c. give (bytes_of list)) (lawful_gather FileName) (λ list. lawful_give (bytes_of list))

pub lawful_name_by : (b : Bool) → Lawful (λ c. name_by c b)
lawful_name_by true = lawful_name_argument
lawful_name_by false = lawful_plain_name

abbrev pub name_behind : Option Taken → By (List ℕ)
name_behind o c = name_by c (begins_group o)

pub lawful_name_behind : (o : Option Taken) → Lawful (name_behind o)
lawful_name_behind o = lawful_name_by (begins_group o)

pub lawful_file_name : Lawful file_name
lawful_file_name = lawful_then (λ c. peeked) name_behind lawful_peeked lawful_name_behind

-- Files

found_decided : (name : List ℕ) (o : Option (List ℕ)) (s : State) → IsDecided (found name o s)
found_decided name None s = tt
found_decided name (Some there) s = tt

found_leads : (name : List ℕ) (o : Option (List ℕ)) (s : State) → Leads (λ v t. Lower 0 s t) (found name o s)
found_leads name None s = tt
found_leads name (Some there) s = lower_none s

abbrev opened_if : Bool → List ℕ → Option (List ℕ) → State → Answer Gift
opened_if b name o s = if b then fail DEPTH [] s else found name o s

if_decided : (b : Bool) (name : List ℕ) (o : Option (List ℕ)) (s : State) → IsDecided (opened_if b name o s)
if_decided true name o s = tt
if_decided false name o s = found_decided name o s

if_leads : (b : Bool) (name : List ℕ) (o : Option (List ℕ)) (s : State) → Leads (λ v t. Lower 0 s t) (opened_if b name o s)
if_leads true name o s = tt
if_leads false name o s = found_leads name o s

pub opened_decided : (name : List ℕ) (s : State) → IsDecided (opened name s)
opened_decided name s = if_decided (nat_le MOST_FILES (open_texts s)) name (first_there s.contents (names_tried name)) s

pub opened_leads : (name : List ℕ) (s : State) → Leads (λ v t. Lower 0 s t) (opened name s)
opened_leads name s = if_leads (nat_le MOST_FILES (open_texts s)) name (first_there s.contents (names_tried name)) s

pub lawful_opened : (name : List ℕ) → Lawful (λ c. opened name)
lawful_opened name = lawful_silent (opened name) (opened_decided name) (opened_leads name)

pub lawful_include : Lawful include
lawful_include = lawful_then file_name (λ name c. opened name) lawful_file_name lawful_opened

-- Texts that end

ended_less : (rest : List (Item Token)) → size (end_text rest) ≤ size rest
ended_less [] = omega arith
ended_less (Tok t ∷ rest) = omega (arith, size-cons (Tok t) rest, size-cons (Tok t) (end_text rest), ended_less rest)
ended_less (Frozen t ∷ rest) = omega (arith, size-cons (Frozen t) rest, size-cons (Frozen t) (end_text rest), ended_less rest)
ended_less (Text p ∷ rest) = omega (arith, size-cons (Text p) rest, size-cons (Text (ended p)) rest)

-- the rests behind one, where it may have a text
abbrev others_ended : Bool → List (List (Item Token)) → List (List (Item Token))
others_ended b rests = if b then rests else end_rests rests

if_less : (b : Bool) (rests : List (List (Item Token))) → sum_by size (end_rests rests) ≤ sum_by size rests → sum_by size (others_ended b rests) ≤ sum_by size rests
if_less true rests le = omega arith
if_less false rests le = le

rests_less : (rests : List (List (Item Token))) → sum_by size (end_rests rests) ≤ sum_by size rests
rests_less [] = omega arith
rests_less (rest ∷ rests) =
    let others = if_less (has_text rest) rests (rests_less rests) in
    omega (arith, others, ended_less rest, sum_by-cons size rest rests, sum_by-cons size (end_text rest) (others_ended (has_text rest) rests))

pub text_ended_lower : (s : State) → Lower 0 s (text_ended s)
text_ended_lower s = record {
  limit = refl;
  nesting = refl;
  begun = omega arith;
  size = λ _. let others = if_less (has_text s.rest) s.aside (rests_less s.aside) in omega (arith, others, ended_less s.rest);
  within = λ lt. absurd (omega (arith, lt));
}

pub lawful_end_input : Lawful (λ c. end_input)
lawful_end_input = lawful_then (λ c. change text_ended) (λ v c. give (Puts [])) (lawful_change text_ended text_ended_lower) (λ v. lawful_give (Puts []))
