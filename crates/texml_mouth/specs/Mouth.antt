-- The tokens of a line (The TeXbook, chapters 7 and 8).
use Rattle.std.specs.Prelude.{ℕ, List, [], ◌∷◌, if◌then◌else◌, ◌==◌}
use Rattle.texml_token.specs.Token.{Token, Char, Active, Named, paragraph}
use Rattle.texml_token.specs.declared.category.TheConstants.{ESCAPE, END_OF_LINE, IGNORED, SPACE, LETTER, ACTIVE, COMMENT, INVALID}
use Rattle.texml_mouth.specs.declared.LineState.{LineState}
use Rattle.texml_mouth.specs.declared.LineState.TheVariants.{NewLine, MidLine, SkippingBlanks}
use Rattle.texml_mouth.specs.Looked.{look}

-- where in a line a reader is: its state, and the characters that are left
pub record Spot : Type 0 where
  pub state : LineState
  pub tail : List ℕ

-- what a line gives next: a token, and the spot behind it; nothing more; or a character that may not stand there
pub data Bite : Type 0 where
  Gives : Token → Spot → Bite
  Dry : Bite
  Bad : ℕ → Bite

abbrev pub gives : Token → LineState → List ℕ → Bite
gives t state tail = Gives t (record { state = state; tail = tail })

-- a space token
abbrev pub space : Token
space = Char 32 SPACE

-- letters, and the text behind them
pub record Word : Type 0 where
  pub letters : List ℕ
  pub behind : List ℕ

abbrev pub no_word : List ℕ → Word
no_word behind = record { letters = []; behind = behind }

-- the word that begins with a letter; another character begins none
abbrev pub word_from : (ℕ → ℕ) → ℕ → List ℕ → Word → Word
word_from cats c tail onward =
    if cats c == LETTER then record { letters = c ∷ onward.letters; behind = onward.behind }
    else no_word (c ∷ tail)

-- the longest word at the front of a text
abbrev pub word : (ℕ → ℕ) → List ℕ → Word
word cats = look cats (no_word []) (word_from cats)

-- the state behind a name of one character that is no letter, by its category
abbrev pub state_behind : ℕ → LineState
state_behind category = if category == SPACE then SkippingBlanks else MidLine

-- the name that begins with a character: the longest word, or a name of one character
abbrev pub name_from : (ℕ → ℕ) → Word → ℕ → List ℕ → Bite
name_from cats longest c tail =
    if cats c == LETTER then gives (Named longest.letters) SkippingBlanks longest.behind
    else gives (Named (c ∷ [])) (state_behind (cats c)) tail

-- the name behind an escape character, which is the empty name at the line's end
abbrev pub name : (ℕ → ℕ) → List ℕ → Bite
name cats text = look cats (gives (Named []) SkippingBlanks []) (λ c tail onward. name_from cats (word cats text) c tail) text

-- at an end of line the rest of the line goes
abbrev pub line_end : LineState → Bite
line_end NewLine = gives paragraph NewLine []
line_end MidLine = gives space MidLine []
line_end SkippingBlanks = Dry

-- a blank in the middle of a line is a space, and else the line goes on
abbrev pub blank : LineState → List ℕ → Bite → Bite
blank NewLine tail onward = onward
blank MidLine tail onward = gives space SkippingBlanks tail
blank SkippingBlanks tail onward = onward

-- the case table: what a character gives in a state, before the characters left; where it gives nothing, the line goes on
abbrev pub bite : (ℕ → ℕ) → LineState → ℕ → List ℕ → Bite → Bite
bite cats state c tail onward =
    if cats c == ESCAPE then name cats tail
    else if cats c == END_OF_LINE then line_end state
    else if cats c == IGNORED then onward
    else if cats c == SPACE then blank state tail onward
    else if cats c == ACTIVE then gives (Active c) MidLine tail
    else if cats c == COMMENT then Dry
    else if cats c == INVALID then Bad c
    else gives (Char c (cats c)) MidLine tail

-- what the line gives next from a spot on, under these categories
abbrev pub bites : (ℕ → ℕ) → Spot → Bite
bites cats spot = look cats Dry (bite cats spot.state) spot.tail
