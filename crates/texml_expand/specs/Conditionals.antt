-- Conditionals, as they are expanded (The TeXbook, chapter 20).
use Rattle.std.specs.Prelude.{ℕ, ℤ, zero, suc, ◌+◌, ◌-◌, ◌==◌, ◌%◌, nat_le, Bool, true, false, List, [], ◌∷◌, ◌++◌, length, map, take as first, slice_set, unsigned_abs, if◌then◌else◌}
use Rattle.std.specs.Int.Signed.{lt_z}
use Rattle.std.specs.Ordering.{int_eq}
use Rattle.texml_token.specs.Token.{Token, Char, Active, Fixed}
use Rattle.texml_token.specs.declared.fault_code.TheConstants.{FILE_ENDED, EXTRA_COND, DEPTH}
use Rattle.texml_token.specs.declared.category.TheConstants.{ACTIVE}
use Rattle.texml_scope.specs.Texts.{Meaning, World}
use Rattle.texml_scope.specs.declared.values.MeaningOf.TheVariants.{Char as CharMeaning}
use Rattle.texml_scope.specs.Equality.{meaning_eq}
use Rattle.texml_cond.specs.declared.limits.Bound.{Bound}
use Rattle.texml_cond.specs.declared.limits.Bound.TheVariants as bounds
use Rattle.texml_cond.specs.declared.limits.Word.{Word}
use Rattle.texml_cond.specs.declared.limits.Word.TheVariants as words
use Rattle.texml_cond.specs.declared.limits.Allow.{Allow}
use Rattle.texml_cond.specs.declared.limits.Allow.TheVariants.{Go, Relax, Extra}
use Rattle.texml_cond.specs.Limits.{allowed}
use Rattle.texml_cond.specs.declared.skipping.SkipStep.{SkipStep}
use Rattle.texml_cond.specs.declared.skipping.SkipStep.TheVariants.{More, Reached, TooDeep}
use Rattle.texml_cond.specs.Skipping.{skip}
use Rattle.texml_expand.specs.declared.feeding.Verdict.{Verdict}
use Rattle.texml_expand.specs.declared.feeding.Verdict.TheVariants.{TooShort, Yields, Refuses}
use Rattle.texml_expand.specs.declared.conditional.TheConstants.{NO_CODE, NO_CATEGORY}
use Rattle.texml_expand.specs.declared.conditional.Face.{Face}
use Rattle.texml_expand.specs.declared.gathering.Gathering.TheVariants.{Relation}
use Rattle.texml_input.specs.Next.{Taken}
use Rattle.texml_expand.specs.State.{State, room, nothing, Done, Reading, ◌>>=◌, ◌>>◌, give, fail, change}
use Rattle.texml_expand.specs.Take.{meaning_of, means}
use Rattle.texml_expand.specs.Least.{by_least}
use Rattle.texml_expand.specs.Branches.{Test, If, IfCat, IfX, IfNum, IfDim, IfOdd, IfTrue, IfFalse, IfCase, Sought, End, Met, Ends, Chooses, Forbidden, Passes, Choice, Comes, Skips, meets, choose, choose_case}
use Rattle.texml_expand.specs.Calls.{Gift, Puts, Calls}
use Rattle.texml_expand.specs.Quantities.{int_text, dimension_text, frozen_as, needed}
use Rattle.texml_expand.specs.Expansion.{one_token}

-- The list of open conditionals

-- one more conditional is open, whose test is read next. Its place in the list
abbrev pub open_test : Reading ℕ
open_test s = Done (length s.conditionals) (record s { conditionals = s.conditionals ++ bounds.Test ∷ [] }) nothing

-- the conditional of this place has this limit
abbrev pub bounded : ℕ → Bound → State → State
bounded at limit s = record s { conditionals = slice_set s.conditionals at limit }

-- the innermost conditional is closed
abbrev pub closed : State → State
closed s = record s { conditionals = first (length s.conditionals - 1) s.conditionals }

-- Tests

-- what \if and \ifcat see of a token: a character's code and category. Another token has a code that no character has
abbrev pub face_of : Meaning → Face
face_of (CharMeaning c category) = record { code = c; category = category }
face_of m = record { code = NO_CODE; category = NO_CATEGORY }

-- an active character that is kept from being expanded counts as itself
abbrev pub frozen_face : World → Token → Face
frozen_face w (Active c) = record { code = c; category = ACTIVE }
frozen_face w t = face_of (means w (frozen_as t (meaning_of w t)))

abbrev pub face : World → Taken → Face
face w t = if t.frozen then frozen_face w t.token else face_of (means w t.token)

abbrev pub face_now : Taken → Reading Face
face_now t s = give (face s.world t) s

-- that of the next token that isn't expanded; there must be one
abbrev pub next_face : Calls → Reading Face
next_face calls = do
  o ← calls.fetch
  t ← needed o
  face_now t

-- those of the next two
abbrev pub two_faces : Calls → Reading (Face × Face)
two_faces calls = do
  a ← next_face calls
  b ← next_face calls
  give (a, b)

-- whether two tokens mean the same now
abbrev pub same_meaning : Token → Token → Reading Bool
same_meaning a b s = give (meaning_eq (means s.world a) (means s.world b)) s

abbrev pub same_meanings : Reading Bool
same_meanings = do
  a ← one_token
  b ← one_token
  same_meaning a b

-- the code of the first token, where that is a character
abbrev pub first_code : List Token → ℕ
first_code (Char c category ∷ list) = c
first_code list = NO_CODE

-- whether numbers stand in this relation: <, = or >
abbrev pub compares : ℕ → ℤ → ℤ → Bool
compares relation a b =
    if relation == 60 then lt_z a b
    else if relation == 61 then int_eq a b
    else lt_z b a

abbrev pub number : Calls → Reading ℤ
number calls = calls.scan int_text []

-- a number, or a dimension by its number of sp
abbrev pub amount : Calls → Bool → Reading ℤ
amount calls false = number calls
amount calls true = do
  d ← calls.scan dimension_text []
  give d.0

-- the code of the relation that comes next
abbrev pub relation : Calls → Reading ℕ
relation calls = do
  list ← calls.gather Relation []
  give (first_code list)

-- whether two numbers, or two dimensions, stand in the relation between them
abbrev pub compared : Calls → Bool → Reading Bool
compared calls dimensions = do
  a ← amount calls dimensions
  r ← relation calls
  b ← amount calls dimensions
  give (compares r a b)

abbrev pub is_odd : ℤ → Bool
is_odd i = unsigned_abs i % 2 == 1

-- what a test chooses
abbrev pub tested : Calls → Test → Reading Choice
tested calls If = do
  p ← two_faces calls
  give (choose (p.0.code == p.1.code))
tested calls IfCat = do
  p ← two_faces calls
  give (choose (p.0.category == p.1.category))
tested calls IfX = do
  same ← same_meanings
  give (choose same)
tested calls IfNum = do
  holds ← compared calls false
  give (choose holds)
tested calls IfDim = do
  holds ← compared calls true
  give (choose holds)
tested calls IfOdd = do
  i ← number calls
  give (choose (is_odd i))
tested calls IfTrue = give (choose true)
tested calls IfFalse = give (choose false)
tested calls IfCase = do
  i ← number calls
  give (choose_case i)

-- Skipping

-- what skipped tokens decide
abbrev pub reached : SkipStep → Verdict Word
reached More = TooShort
reached (Reached word) = Yields word
reached TooDeep = Refuses DEPTH

-- the text up to the next word that doesn't belong to a conditional in it
abbrev pub skipped : Reading Word
skipped s = by_least (λ list. reached (skip (map (means s.world) list))) s

-- behind a word of the conditional of this place, for which this is done
abbrev pub met_own : (Sought → Reading (Unit {0})) → ℕ → Met → Reading (Unit {0})
met_own next at Ends = change closed
met_own next at (Chooses limit) = change (bounded at limit)
met_own next at Forbidden = fail EXTRA_COND []
met_own next at (Passes sought) = next sought

-- behind a word while conditionals are open that began inside the test: \fi closes the innermost of them, and other words are passed over
abbrev pub met_inner : Reading (Unit {0}) → Word → Reading (Unit {0})
met_inner next words.Fi = do
  change closed
  next
met_inner next word = next

abbrev pub met_word : (Sought → Reading (Unit {0})) → ℕ → Sought → Word → Reading (Unit {0})
met_word next at sought word s = (if nat_le (length s.conditionals) (at + 1) then met_own next at (meets sought word) else met_inner (next sought) word) s

-- text is skipped up to what is sought for the conditional of this place, past so many words at most
abbrev pub seek_past : ℕ → ℕ → Sought → Reading (Unit {0})
seek_past zero at sought = fail FILE_ENDED []
seek_past (suc n) at sought = do
  word ← skipped
  met_word (seek_past n at) at sought word

-- no more words can stand there than the state has room for
abbrev pub seek : ℕ → Sought → Reading (Unit {0})
seek at sought s = seek_past (room s) at sought s

-- What conditionals and their words do

abbrev pub chosen : ℕ → Choice → Reading (Unit {0})
chosen at (Comes limit) = change (bounded at limit)
chosen at (Skips sought) = seek at sought

abbrev pub none : Gift
none = Puts []

-- a conditional reads its test, and what it doesn't choose is skipped
abbrev pub conditional : Calls → Test → Reading Gift
conditional calls test = do
  at ← open_test
  c ← tested calls test
  chosen at c
  give none

-- the text up to the end of the innermost conditional goes
abbrev pub to_end : Reading (Unit {0})
to_end s = seek (length s.conditionals - 1) End s

abbrev pub word_comes : Word → Reading (Unit {0})
word_comes words.Fi = change closed
word_comes word = to_end

-- a word where it may come; while a test is read, it goes back with the fixed \relax before it
abbrev pub word_by : Token → Word → Allow → Reading Gift
word_by t word Go = do
  word_comes word
  give none
word_by t word Relax = give (Puts (Fixed ∷ t ∷ []))
word_by t word Extra = fail EXTRA_COND []

abbrev pub part_end : Token → Word → Reading Gift
part_end t word s = word_by t word (allowed s.conditionals word) s
