-- Characters as they stand (Lamport's LaTeX manual, section C.2.3): what `\verb` reads, under categories of its own.
use Rattle.std.specs.Prelude.{ℕ, ◌==◌, List, [], ◌++◌, fold, pos, Option, None, Some, if◌then◌else◌, codes}
use Rattle.std.specs.Char.{encode_utf8}
use Rattle.texml_token.specs.Token.{Token, Char, Active}
use Rattle.texml_token.specs.declared.category.TheConstants.{SPACE, OTHER}
use Rattle.texml_token.specs.declared.fault_code.TheConstants.{FILE_ENDED, MISPLACED}
use Rattle.texml_scope.specs.Groups.{set_local}
use Rattle.texml_scope.specs.Texts.{World, key_eq}
use Rattle.texml_scope.specs.declared.values.KeyOf.TheVariants.{Cat}
use Rattle.texml_scope.specs.declared.values.ValueOf.TheVariants.{Number}
use Rattle.texml_scope.specs.declared.values.KindOf.TheVariants.{Begin}
use Rattle.texml_expand.specs.State.{State, Reading, ◌>>=◌, ◌>>◌, give, fail, change}
use Rattle.texml_assign.specs.Loop.{ByDepth, Next, On, Over, Loop, loops}
use Rattle.texml_assign.specs.Operands.{token_or_end}
use Rattle.texml_assign.specs.Sets.{begin_kind, end_kind}

-- Categories

-- the character is of category 12 in the innermost group
abbrev pub as_other : World → ℕ → World
as_other w c = set_local key_eq (Cat c) (Number (pos OTHER)) w

-- these characters are
abbrev pub all_other : List ℕ → State → State
all_other characters s = record s { world = fold as_other s.world characters }

-- Characters

-- the character of a token: an active one counts as its character, and a space ends too early
abbrev pub char_of : Token → Reading ℕ
char_of (Char c category) = if category == SPACE then fail FILE_ENDED [] else give c
char_of (Active c) = give c
char_of t = fail MISPLACED []

abbrev pub char_in : Option Token → Reading ℕ
char_in None = fail FILE_ENDED []
char_in (Some t) = char_of t

-- the next character. There must be one
abbrev pub next_char : Reading ℕ
next_char = do
  t ← token_or_end
  char_in t

abbrev pub behind_star : ℕ → Reading ℕ
behind_star c = if c == 42 then next_char else give c

-- the character that ends the text: the first one, or where that is a star the second
abbrev pub delimiter : Reading ℕ
delimiter = do
  c ← next_char
  behind_star c

-- a character that isn't the delimiter goes to the text
abbrev pub char_turn : ℕ → List ℕ → ℕ → Reading (Next (List ℕ) (List ℕ))
char_turn d seen c = give (if c == d then Over seen else On (seen ++ encode_utf8 c))

abbrev pub text_turn : ℕ → List ℕ → Token → ByDepth (Next (List ℕ) (List ℕ))
text_turn d seen t n = do
  c ← char_of t
  char_turn d seen c

abbrev pub text_loop : ℕ → Loop (List ℕ) (List ℕ)
text_loop d = record { source = λ n. token_or_end; turn = text_turn d; end = λ seen. fail FILE_ENDED [] }

-- the characters up to the delimiter
abbrev pub text_to : ℕ → ByDepth (List ℕ)
text_to d = loops (text_loop d) []

abbrev pub verb_text : ByDepth (List ℕ)
verb_text n = do
  d ← delimiter
  text_to d n

-- The command

-- the characters that are others there: space, tab, and those that begin with another meaning
abbrev pub specials : List ℕ
specials = codes " \t\\{}$&#^_%~"

-- a group begins, in which the specials are others
abbrev pub begin_verb : Reading (Unit {0})
begin_verb = do
  begin_kind Begin
  change (all_other specials)

abbrev pub end_verb : List ℕ → Reading (List ℕ)
end_verb text = do
  end_kind Begin
  give text

-- the text between two times the same character
abbrev pub verb : ByDepth (List ℕ)
verb n = do
  begin_verb
  text ← verb_text n
  end_verb text
