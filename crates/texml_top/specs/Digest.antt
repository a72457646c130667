-- Digestion: the operations that a text gives (The TeXbook, chapters 7, 20 and 24).
use Rattle.std.specs.Prelude.{ℕ, ◌==◌, ◌||◌, Bool, List, [], ◌∷◌, if◌then◌else◌}
use Rattle.std.specs.Char.{encode_utf8}
use Rattle.texml_token.specs.Token.{Token}
use Rattle.texml_token.specs.declared.category.TheConstants as category
use Rattle.texml_token.specs.declared.fault_code.TheConstants.{MISPLACED}
use Rattle.texml_scope.specs.Texts.{Meaning}
use Rattle.texml_scope.specs.declared.values.MeaningOf.TheVariants.{Builtin, Number, Char as CharMeaning}
use Rattle.texml_scope.specs.declared.values.KindOf.TheVariants.{Brace}
use Rattle.texml_scope.specs.declared.builtins.TheConstants as builtins
use Rattle.texml_tree.specs.declared.ops.Op.{Op}
use Rattle.texml_tree.specs.declared.ops.Op.TheVariants as op
use Rattle.texml_expand.specs.State.{State, Answer, Reading, ◌>>=◌, ◌>>◌, give, fail}
use Rattle.texml_expand.specs.Expand.{fetch, read_index}
use Rattle.texml_expand.specs.declared.variables.Index.TheVariants.{Character}
use Rattle.texml_expand.specs.Arguments.{read_optional}
use Rattle.texml_assign.specs.declared.executing.Executed.{Executed}
use Rattle.texml_assign.specs.declared.executing.Executed.TheVariants.{Yes, NotMine}
use Rattle.texml_assign.specs.Loop.{ByDepth, Next, On, Loop, loops}
use Rattle.texml_expand.specs.Take.{means}
use Rattle.texml_assign.specs.NewCommand.{starred}
use Rattle.texml_assign.specs.Sets.{begin_kind, end_kind}
use Rattle.texml_assign.specs.Execute.{execute}
use Rattle.texml_top.specs.declared.table.TheConstants.{PARAGRAPH, BREAK, CODE}
use Rattle.texml_top.specs.declared.digest.Word.{Word}
use Rattle.texml_top.specs.declared.digest.Word.TheVariants.{ParagraphEnd, Space, CharNumber, Verb, Newline, Misplaced}
use Rattle.texml_top.specs.declared.gather.Gathered.{Gathered}
use Rattle.texml_top.specs.Gather.{nothing_yet, all_of, add_all}
use Rattle.texml_top.specs.Verb.{verb}

-- Tokens that are no commands

-- nothing is put into the document
abbrev pub none : Reading (Unit {0}) → Reading (List Op)
none command = do
  command
  give []

-- letters and others give their character as a text
abbrev pub is_text : ℕ → Bool
is_text kind = kind == category.LETTER || kind == category.OTHER

abbrev pub digest_char : ℕ → ℕ → Reading (List Op)
digest_char c kind =
    if kind == category.SPACE then give (op.Space ∷ [])
    else if is_text kind then give (op.Text (encode_utf8 c) ∷ [])
    else if kind == category.BEGIN_GROUP then none (begin_kind Brace)
    else if kind == category.END_GROUP then none (end_kind Brace)
    else fail MISPLACED []

-- characters as they stand
abbrev pub code : ByDepth (List Op)
code n = do
  text ← verb n
  give (op.Open CODE [] ∷ op.Text text ∷ op.Close CODE ∷ [])

-- a star and an argument in brackets behind the end of a line are dropped
abbrev pub newline : Reading (List Op)
newline = do
  starred
  read_optional
  give (op.Open BREAK [] ∷ op.Close BREAK ∷ [])

-- the character of a number
abbrev pub char_text : ℕ → List Op
char_text c = op.Text (encode_utf8 c) ∷ []

abbrev pub char_number : ByDepth (List Op)
char_number n = do
  c ← read_index Character n
  give (char_text c)

-- what a builtin does that is no command
abbrev pub word_at : ℕ → Word
word_at place =
    if place == builtins.PAR then ParagraphEnd
    else if place == builtins.SPACE then Space
    else if place == builtins.CHAR then CharNumber
    else if place == builtins.VERB then Verb
    else if place == builtins.NEWLINE then Newline
    else Misplaced

abbrev pub digest_word : Word → ByDepth (List Op)
digest_word ParagraphEnd n = give (op.CloseIf PARAGRAPH ∷ [])
digest_word Space n = give (op.Space ∷ [])
digest_word CharNumber n = char_number n
digest_word Verb n = code n
digest_word Newline n = newline
digest_word Misplaced n = fail MISPLACED []

abbrev pub digest_builtin : ℕ → ByDepth (List Op)
digest_builtin place = digest_word (word_at place)

-- a token by its meaning, so that a name let to a brace begins a group too, and a name for a character is that
abbrev pub digest_meaning : Meaning → ByDepth (List Op)
digest_meaning (CharMeaning c category) n = digest_char c category
digest_meaning (Number c) n = give (char_text c)
digest_meaning (Builtin place) n = digest_builtin place n
digest_meaning m n = fail MISPLACED []

-- Tokens

-- a token that was executed puts nothing into the document; another one is digested
abbrev pub digest_left : Token → Executed → ByDepth (List Op)
digest_left t Yes n = give []
digest_left t NotMine n = λ s. digest_meaning (means s.world t) n s

abbrev pub digest_token : Token → ByDepth (List Op)
digest_token t n = do
  done ← execute t n
  digest_left t done n

-- Texts

-- a token adds to what was gathered before
abbrev pub digest_turn : Gathered → Token → ByDepth (Next Gathered (List Op))
digest_turn seen t n = do
  ops ← digest_token t n
  give (On (add_all seen ops))

abbrev pub digestion : Loop Gathered (List Op)
digestion = record { source = fetch; turn = digest_turn; end = λ seen. give (all_of seen) }

-- the operations of all tokens from here on; calls are nested at most n deep
abbrev pub digests : State → ℕ → Answer (List Op)
digests s n = loops digestion nothing_yet n s
