-- Skipped text, and what conditionals and their words do: these decide, and leave less to be read.
use Rattle.std.proofs.Common.{◌==◌, ◌+◌, ◌-◌, ℕ, ℤ, zero, suc, Bool, true, false, nat_le, if◌then◌else◌, List, [], ◌∷◌, length, map, Option}
use Rattle.texml_token.specs.Token.{Token, Fixed}
use Rattle.texml_token.specs.declared.fault_code.TheConstants.{FILE_ENDED, EXTRA_COND}
use Rattle.texml_cond.specs.declared.limits.Bound.{Bound}
use Rattle.texml_cond.specs.declared.limits.Word.{Word}
use Rattle.texml_cond.specs.declared.limits.Word.TheVariants as words
use Rattle.texml_cond.specs.declared.limits.Allow.{Allow}
use Rattle.texml_cond.specs.declared.limits.Allow.TheVariants.{Go, Relax, Extra}
use Rattle.texml_cond.specs.Limits.{allowed}
use Rattle.texml_cond.specs.Skipping.{skip}
use Rattle.texml_scope.specs.Equality.{meaning_eq}
use Rattle.texml_expand.specs.declared.conditional.Face.{Face}
use Rattle.texml_expand.specs.declared.gathering.Gathering.TheVariants.{Relation}
use Rattle.texml_expand.specs.declared.feeding.Verdict.{Verdict}
use Rattle.texml_expand.specs.State.{State, room, Reading, chain, give, change}
use Rattle.texml_expand.specs.Take.{means}
use Rattle.texml_expand.specs.Branches.{Test, If, IfCat, IfX, IfNum, IfDim, IfOdd, IfTrue, IfFalse, IfCase, Sought, End, Met, Ends, Chooses, Forbidden, Passes, Choice, Comes, Skips, meets, choose, choose_case}
use Rattle.texml_expand.specs.Calls.{Gift, Puts}
use Rattle.texml_expand.specs.Quantities.{int_text, dimension_text, needed}
use Rattle.texml_input.specs.Next.{Taken}
use Rattle.texml_expand.specs.Expansion.{one_token}
use Rattle.texml_expand.specs.Conditionals.{open_test, bounded, closed, face, face_now, next_face, two_faces, same_meaning, same_meanings, compares, first_code, number, amount, relation, compared, is_odd, tested, reached, skipped, met_own, met_inner, met_word, seek_past, seek, chosen, none, conditional, to_end, word_comes, word_by, part_end}
use Rattle.texml_expand.specs.Contract.{Lower}
use Rattle.texml_expand.proofs.Leading.{leads_weaker, lower_none, lower_less}
use Rattle.texml_expand.proofs.Least.{Decides, by_least_leads, by_least_decided}
use Rattle.texml_expand.proofs.Lawful.{By, Lawful, lawful_silent, lawful_give, lawful_fail, lawful_by, lawful_then, lawful_change, lawful_fetch, lawful_scan, lawful_gather}
use Rattle.texml_expand.proofs.Looking.{lawful_needed}
use Rattle.texml_expand.proofs.Giving.{lawful_one_token}

-- The list of open conditionals

pub closed_lower : (s : State) → Lower 0 s (closed s)
closed_lower s = let l = lower_none s in record { limit = l.limit; nesting = l.nesting; begun = l.begun; size = l.size; within = l.within }

pub bounded_lower : (at : ℕ) (limit : Bound) (s : State) → Lower 0 s (bounded at limit s)
bounded_lower at limit s = let l = lower_none s in record { limit = l.limit; nesting = l.nesting; begun = l.begun; size = l.size; within = l.within }

lawful_closed : Lawful (λ c. change closed)
lawful_closed = lawful_change closed closed_lower

lawful_bounded : (at : ℕ) (limit : Bound) → Lawful (λ c. change (bounded at limit))
lawful_bounded at limit = lawful_change (bounded at limit) (bounded_lower at limit)

pub lawful_open_test : Lawful (λ c. open_test)
lawful_open_test = lawful_silent open_test (λ s. tt) (λ s. let l = lower_none s in record { limit = l.limit; nesting = l.nesting; begun = l.begun; size = l.size; within = l.within })

-- Skipping

abbrev skip_verdict : State → List Token → Verdict Word
skip_verdict s list = reached (skip (map (means s.world) list))

pub lawful_skipped : Lawful (λ c. skipped)
lawful_skipped =
    lawful_silent skipped (λ s. by_least_decided (skip_verdict s) s)
    (λ s. leads_weaker (Decides (skip_verdict s) s) (λ w t. Lower 0 s t) (skipped s) (λ w t d. lower_less (length d.list) s t d.lower) (by_least_leads (skip_verdict s) s))

module _ (next : Sought → Reading (Unit {0})) (h : (sought : Sought) → Lawful (λ c. next sought)) (at : ℕ) where
  lawful_own : (m : Met) → Lawful (λ c. met_own next at m)
  lawful_own Ends = lawful_closed
  lawful_own (Chooses limit) = lawful_bounded at limit
  lawful_own Forbidden = lawful_fail (Unit {0}) EXTRA_COND []
  lawful_own (Passes sought) = h sought

  lawful_inner : (sought : Sought) (word : Word) → Lawful (λ c. met_inner (next sought) word)
  lawful_inner sought words.Fi = lawful_then (λ c. change closed) (λ v c. next sought) lawful_closed (λ v. h sought)
  lawful_inner sought words.Else = h sought
  lawful_inner sought words.Or = h sought

  lawful_met : (b : Bool) (sought : Sought) (word : Word) → Lawful (λ c. if b then met_own next at (meets sought word) else met_inner (next sought) word)
  lawful_met true sought word = lawful_own (meets sought word)
  lawful_met false sought word = lawful_inner sought word

  lawful_word : (sought : Sought) (word : Word) → Lawful (λ c. met_word next at sought word)
  lawful_word sought word = lawful_by (λ s. nat_le (length s.conditionals) (at + 1)) (λ b c. if b then met_own next at (meets sought word) else met_inner (next sought) word) (λ b. lawful_met b sought word)

  lawful_step : (sought : Sought) → Lawful (λ c s. chain (skipped s) (met_word next at sought))
  lawful_step sought = lawful_then (λ c. skipped) (λ word c. met_word next at sought word) lawful_skipped (lawful_word sought)

pub lawful_seek_past : (n at : ℕ) (sought : Sought) → Lawful (λ c. seek_past n at sought)
lawful_seek_past zero at sought = lawful_fail (Unit {0}) FILE_ENDED []
lawful_seek_past (suc n) at sought = lawful_step (seek_past n at) (lawful_seek_past n at) at sought

pub lawful_seek : (at : ℕ) (sought : Sought) → Lawful (λ c. seek at sought)
lawful_seek at sought = lawful_by room (λ n c. seek_past n at sought) (λ n. lawful_seek_past n at sought)

-- Tests

pub lawful_face_now : (t : Taken) → Lawful (λ c. face_now t)
lawful_face_now t = lawful_by (λ s. face s.world t) (λ f c. give f) lawful_give

abbrev pub face_behind : Option Taken → By Face
face_behind o c s = chain (needed o s) face_now

pub lawful_face_behind : (o : Option Taken) → Lawful (face_behind o)
lawful_face_behind o = lawful_then (λ c. needed o) (λ t c. face_now t) (lawful_needed o) lawful_face_now

pub lawful_next_face : Lawful next_face
lawful_next_face = lawful_then (λ c. c.fetch) face_behind lawful_fetch lawful_face_behind

abbrev pub second_face : Face → By (Face × Face)
second_face a c s = chain (next_face c s) (λ b. give (a, b))

pub lawful_second_face : (a : Face) → Lawful (second_face a)
lawful_second_face a = lawful_then next_face (λ b c. give (a, b)) lawful_next_face (λ b. lawful_give (a, b))

pub lawful_two_faces : Lawful two_faces
lawful_two_faces = lawful_then next_face second_face lawful_next_face lawful_second_face

lawful_same_meaning : (a b : Token) → Lawful (λ c. same_meaning a b)
lawful_same_meaning a b = lawful_by (λ s. meaning_eq (means s.world a) (means s.world b)) (λ e c. give e) lawful_give

pub lawful_same_meanings : Lawful (λ c. same_meanings)
lawful_same_meanings = lawful_then (λ c. one_token) (λ a c s. chain (one_token s) (same_meaning a)) lawful_one_token (λ a. lawful_then (λ c. one_token) (λ b c. same_meaning a b) lawful_one_token (lawful_same_meaning a))

pub lawful_number : Lawful number
lawful_number = lawful_scan int_text

pub lawful_amount : (dimensions : Bool) → Lawful (λ c. amount c dimensions)
lawful_amount false = lawful_number
lawful_amount true = lawful_then (λ c. c.scan dimension_text []) (λ d c. give d.0) (lawful_scan dimension_text) (λ d. lawful_give d.0)

pub lawful_relation : Lawful relation
lawful_relation = lawful_then (λ c. c.gather Relation []) (λ list c. give (first_code list)) (lawful_gather Relation) (λ list. lawful_give (first_code list))

-- what follows the first amount, and the relation
abbrev pub third : Bool → ℤ → ℕ → By Bool
third dimensions a r c s = chain (amount c dimensions s) (λ b. give (compares r a b))

pub lawful_third : (dimensions : Bool) (a : ℤ) (r : ℕ) → Lawful (third dimensions a r)
lawful_third dimensions a r = lawful_then (λ c. amount c dimensions) (λ b c. give (compares r a b)) (lawful_amount dimensions) (λ b. lawful_give (compares r a b))

abbrev pub second : Bool → ℤ → By Bool
second dimensions a c s = chain (relation c s) (λ r. third dimensions a r c)

pub lawful_second : (dimensions : Bool) (a : ℤ) → Lawful (second dimensions a)
lawful_second dimensions a = lawful_then relation (third dimensions a) lawful_relation (lawful_third dimensions a)

pub lawful_compared : (dimensions : Bool) → Lawful (λ c. compared c dimensions)
lawful_compared dimensions = lawful_then (λ c. amount c dimensions) (second dimensions) (lawful_amount dimensions) (lawful_second dimensions)

-- a choice by a value that is read
pub lawful_choice : {A : Type 0} (r : By A) (f : A → Choice) → Lawful r → Lawful (λ c s. chain (r c s) (λ v. give (f v)))
lawful_choice r f h = lawful_then r (λ v c. give (f v)) h (λ v. lawful_give (f v))

pub lawful_tested : (test : Test) → Lawful (λ c. tested c test)
lawful_tested If = lawful_choice two_faces (λ p. choose (p.0.code == p.1.code)) lawful_two_faces
lawful_tested IfCat = lawful_choice two_faces (λ p. choose (p.0.category == p.1.category)) lawful_two_faces
lawful_tested IfX = lawful_choice (λ c. same_meanings) choose lawful_same_meanings
lawful_tested IfNum = lawful_choice (λ c. compared c false) choose (lawful_compared false)
lawful_tested IfDim = lawful_choice (λ c. compared c true) choose (lawful_compared true)
lawful_tested IfOdd = lawful_choice number (λ i. choose (is_odd i)) lawful_number
lawful_tested IfTrue = lawful_give (choose true)
lawful_tested IfFalse = lawful_give (choose false)
lawful_tested IfCase = lawful_choice number choose_case lawful_number

-- What conditionals and their words do

pub lawful_chosen : (at : ℕ) (c : Choice) → Lawful (λ _. chosen at c)
lawful_chosen at (Comes limit) = lawful_bounded at limit
lawful_chosen at (Skips sought) = lawful_seek at sought

abbrev pub choosing : ℕ → Choice → By Gift
choosing at choice c s = chain (chosen at choice s) (λ _. give none)

pub lawful_choosing : (at : ℕ) (choice : Choice) → Lawful (choosing at choice)
lawful_choosing at choice = lawful_then (λ c. chosen at choice) (λ v c. give none) (lawful_chosen at choice) (λ v. lawful_give none)

abbrev pub testing : Test → ℕ → By Gift
testing test at c s = chain (tested c test s) (λ choice. choosing at choice c)

pub lawful_testing : (test : Test) (at : ℕ) → Lawful (testing test at)
lawful_testing test at = lawful_then (λ c. tested c test) (choosing at) (lawful_tested test) (lawful_choosing at)

pub lawful_conditional : (test : Test) → Lawful (λ c. conditional c test)
lawful_conditional test = lawful_then (λ c. open_test) (testing test) lawful_open_test (lawful_testing test)

pub lawful_to_end : Lawful (λ c. to_end)
lawful_to_end = lawful_by (λ s. length s.conditionals - 1) (λ at c. seek at End) (λ at. lawful_seek at End)

pub lawful_word_comes : (word : Word) → Lawful (λ c. word_comes word)
lawful_word_comes words.Fi = lawful_closed
lawful_word_comes words.Else = lawful_to_end
lawful_word_comes words.Or = lawful_to_end

lawful_word_by : (t : Token) (word : Word) (a : Allow) → Lawful (λ c. word_by t word a)
lawful_word_by t word Go = lawful_then (λ c. word_comes word) (λ v c. give none) (lawful_word_comes word) (λ v. lawful_give none)
lawful_word_by t word Relax = lawful_give (Puts (Fixed ∷ t ∷ []))
lawful_word_by t word Extra = lawful_fail Gift EXTRA_COND []

pub lawful_part_end : (t : Token) (word : Word) → Lawful (λ c. part_end t word)
lawful_part_end t word = lawful_by (λ s. allowed s.conditionals word) (λ a c. word_by t word a) (lawful_word_by t word)
