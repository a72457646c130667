-- What commands of expansion give is lawful.
use Rattle.std.proofs.Common.{ℕ, Bool, true, false, if◌then◌else◌, List, [], ◌∷◌, Option}
use Rattle.std.specs.Str.{chars}
use Rattle.texml_token.specs.Token.{Token, Named}
use Rattle.texml_token.specs.declared.fault_code.TheConstants.{FILE_ENDED}
use Rattle.texml_token.specs.Spelling.{spelled}
use Rattle.texml_scope.specs.Groups.{set_local}
use Rattle.texml_scope.specs.Values.{meaning_in}
use Rattle.texml_scope.specs.Texts.{key_eq}
use Rattle.texml_scope.specs.declared.values.KeyOf.TheVariants.{Name as NameKey}
use Rattle.texml_scope.specs.declared.values.MeaningOf.TheVariants.{Builtin}
use Rattle.texml_scope.specs.declared.values.ValueOf.TheVariants.{Means}
use Rattle.texml_scope.specs.declared.builtins.TheConstants.{RELAX}
use Rattle.texml_expand.specs.declared.gathering.Gathering.TheVariants.{Name}
use Rattle.texml_input.specs.Next.{Taken}
use Rattle.texml_expand.specs.State.{State, chain, give, change}
use Rattle.texml_expand.specs.Take.{take}
use Rattle.texml_expand.specs.Printed.{printed_tokens}
use Rattle.texml_expand.specs.Calls.{Gift, Puts, Freezes}
use Rattle.texml_expand.specs.Quantities.{needed}
use Rattle.texml_expand.specs.Front.{Front, Nothing, Plain, Expands, front}
use Rattle.texml_expand.specs.Expansion.{puts, one_token, behind_first, expand_after, no_expand, escape_of, spelled_now, string, job_name, job}
use Rattle.texml_expand.specs.Names.{text_of, is_undefined, named, name_of, cs_name}
use Rattle.texml_expand.specs.Contract.{Lower}
use Rattle.texml_expand.proofs.Leading.{lower_none}
use Rattle.texml_expand.proofs.Lawful.{By, Lawful, lawful_give, lawful_fail, lawful_by, lawful_then, lawful_change, lawful_expand, lawful_gather}
use Rattle.texml_expand.proofs.Looking.{lawful_take, lawful_needed}
use Rattle.texml_expand.proofs.Standing.{lawful_front}

pub lawful_puts : (r : By (List Token)) → Lawful r → Lawful (λ c. puts (r c))
lawful_puts r h = lawful_then r (λ list c. give (Puts list)) h (λ list. lawful_give (Puts list))

abbrev token_behind : Option Taken → By Token
token_behind o c s = chain (needed o s) (λ t. give t.token)

lawful_token_behind : (o : Option Taken) → Lawful (token_behind o)
lawful_token_behind o = lawful_then (λ c. needed o) (λ t c. give t.token) (lawful_needed o) (λ t. lawful_give t.token)

pub lawful_one_token : Lawful (λ c. one_token)
lawful_one_token = lawful_then (λ c. take) token_behind lawful_take lawful_token_behind

pub lawful_behind_first : (first : Token) (f : Front) → Lawful (λ c. behind_first c first f)
lawful_behind_first first Nothing = lawful_fail Gift FILE_ENDED []
lawful_behind_first first (Plain second) = lawful_give (Puts (first ∷ second.token ∷ []))
lawful_behind_first first (Expands second e) = lawful_then (λ c. c.expand second e) (λ v c. give (Puts (first ∷ []))) (lawful_expand second e) (λ v. lawful_give (Puts (first ∷ [])))

abbrev pub second_behind : Token → By Gift
second_behind first c s = chain (front s) (λ f. behind_first c first f)

pub lawful_second_behind : (first : Token) → Lawful (second_behind first)
lawful_second_behind first = lawful_then (λ c. front) (λ f c. behind_first c first f) lawful_front (lawful_behind_first first)

pub lawful_expand_after : Lawful expand_after
lawful_expand_after = lawful_then (λ c. one_token) second_behind lawful_one_token lawful_second_behind

pub lawful_no_expand : Lawful (λ c. no_expand)
lawful_no_expand = lawful_then (λ c. one_token) (λ t c. give (Freezes t)) lawful_one_token (λ t. lawful_give (Freezes t))

lawful_spelled : (t : Token) → Lawful (λ c. spelled_now t)
lawful_spelled t = lawful_by (λ s. escape_of s.world) (λ e c. give (printed_tokens (spelled e t))) (λ e. lawful_give (printed_tokens (spelled e t)))

pub lawful_string : Lawful (λ c. string)
lawful_string = lawful_then (λ c. one_token) (λ t c. spelled_now t) lawful_one_token lawful_spelled

pub lawful_job : Lawful (λ c. job)
lawful_job = lawful_by (λ s. s.job) (λ name c. give (printed_tokens (job_name (chars name)))) (λ name. lawful_give (printed_tokens (job_name (chars name))))

-- a name gets a meaning, and no more is left to be read
pub named_lower : (text : List ℕ) (s : State) → Lower 0 s (named text s)
named_lower text s = named_by (is_undefined (meaning_in (s.world.top (NameKey text)))) s
  where
    named_by : (b : Bool) (s : State) → Lower 0 s (record s { world = if b then set_local key_eq (NameKey text) (Means (Builtin RELAX)) s.world else s.world })
    named_by true s = let l = lower_none s in record { limit = l.limit; nesting = l.nesting; begun = l.begun; size = l.size; within = l.within }
    named_by false s = let l = lower_none s in record { limit = l.limit; nesting = l.nesting; begun = l.begun; size = l.size; within = l.within }

pub lawful_name_of : (list : List Token) → Lawful (λ c. name_of list)
lawful_name_of list = lawful_then (λ c. change (named (text_of list))) (λ v c. give (Puts (Named (text_of list) ∷ []))) (lawful_change (named (text_of list)) (named_lower (text_of list))) (λ v. lawful_give (Puts (Named (text_of list) ∷ [])))

pub lawful_cs_name : Lawful cs_name
lawful_cs_name = lawful_then (λ c. c.gather Name []) (λ list c. name_of list) (lawful_gather Name) lawful_name_of
