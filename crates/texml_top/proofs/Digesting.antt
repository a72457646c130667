-- Digestion has one answer, and leaves no more to be read.
use Rattle.std.proofs.Common.{◌≡◌, ◌==◌, ℕ, Bool, List, [], ◌∷◌, Option, refl}
use Rattle.texml_token.specs.Token.{Token}
use Rattle.texml_token.specs.Numbers.{Table}
use Rattle.texml_token.specs.declared.category.TheConstants as category
use Rattle.texml_token.specs.declared.fault_code.TheConstants.{MISPLACED}
use Rattle.texml_scope.specs.Texts.{Meaning}
use Rattle.texml_scope.specs.declared.values.MeaningOf.TheVariants.{Builtin, Char as CharMeaning, Number as NumberMeaning}
use Rattle.texml_scope.specs.declared.values.KindOf.TheVariants.{Brace}
use Rattle.texml_scope.specs.Numbers.{MeaningCode, meaning_at}
use Rattle.texml_tree.specs.declared.ops.Op.{Op}
use Rattle.texml_tree.specs.declared.ops.Op.TheVariants as op
use Rattle.texml_expand.specs.State.{State, Reading, give, fail, chain}
use Rattle.texml_expand.specs.Arguments.{read_optional}
use Rattle.texml_assign.specs.declared.executing.Executed.{Executed}
use Rattle.texml_assign.specs.declared.executing.Executed.TheVariants.{Yes, NotMine}
use Rattle.texml_assign.specs.Loop.{ByDepth, Next, On, loops}
use Rattle.texml_expand.specs.Take.{means}
use Rattle.texml_assign.specs.NewCommand.{starred}
use Rattle.texml_assign.specs.Sets.{begin_kind, end_kind}
use Rattle.texml_assign.specs.Execute.{execute}
use Rattle.texml_assign.proofs.Readings.{Lawful, Plain, lawful_plain, lawful_then, lawful_by, plain_give, plain_fail, plain_if, plain_then}
use Rattle.texml_assign.proofs.Looping.{LawfulLoop, lawful_loop}
use Rattle.texml_assign.proofs.Commands.{plain_begin, plain_end, lawful_execute}
use Rattle.texml_assign.proofs.Quantities.{lawful_fetch, fetch_leads, lawful_index_of}
use Rattle.texml_expand.specs.Expand.{read_index}
use Rattle.texml_expand.specs.declared.variables.Index.TheVariants.{Character}
use Rattle.texml_assign.proofs.NewCommands.{plain_starred, plain_optional}
use Rattle.texml_top.specs.declared.table.TheConstants.{PARAGRAPH, BREAK, CODE}
use Rattle.texml_top.specs.declared.digest.Word.{Word}
use Rattle.texml_top.specs.declared.digest.Word.TheVariants.{ParagraphEnd, Space, CharNumber, Verb, Newline, Misplaced}
use Rattle.texml_top.specs.declared.gather.Gathered.{Gathered}
use Rattle.texml_top.specs.Gather.{nothing_yet, all_of, add_all}
use Rattle.texml_top.specs.Verb.{verb}
use Rattle.texml_top.specs.Digest.{none, is_text, digest_char, char_text, char_number, code, newline, word_at, digest_word, digest_meaning, digest_left, digest_token, digest_turn, digestion}
use Rattle.texml_top.proofs.Verbs.{lawful_verb}

plain_none : (command : Reading (Unit {0})) → Plain command → Plain (none command)
plain_none command p = plain_then command (λ _. give []) p (λ _. plain_give [])

pub plain_char : (c category : ℕ) → Plain (digest_char c category)
plain_char c kind =
    plain_if (kind == category.SPACE) _ _ (plain_give _)
    (plain_if (is_text kind) _ _ (plain_give _)
    (plain_if (kind == category.BEGIN_GROUP) _ _ (plain_none (begin_kind Brace) (plain_begin Brace))
    (plain_if (kind == category.END_GROUP) _ _ (plain_none (end_kind Brace) (plain_end Brace)) (plain_fail _ MISPLACED []))))

-- the operations of a text
abbrev pub code_ops : List ℕ → List Op
code_ops text = op.Open CODE [] ∷ op.Text text ∷ op.Close CODE ∷ []

pub lawful_code : Lawful code
lawful_code = lawful_then verb (λ text n. give (code_ops text)) lawful_verb (λ text. lawful_plain (give (code_ops text)) (plain_give _))

-- the operations of the end of a line
abbrev pub break_ops : List Op
break_ops = op.Open BREAK [] ∷ op.Close BREAK ∷ []

-- what follows the argument in brackets, and what follows the star
abbrev pub behind_bracket : Option (List Token) → Reading (List Op)
behind_bracket o = give break_ops

pub plain_behind_bracket : (o : Option (List Token)) → Plain (behind_bracket o)
plain_behind_bracket o = plain_give break_ops

abbrev pub behind_star : Bool → Reading (List Op)
behind_star star s = chain (read_optional s) behind_bracket

pub plain_behind_star : (star : Bool) → Plain (behind_star star)
plain_behind_star star = plain_then read_optional behind_bracket plain_optional plain_behind_bracket

pub plain_newline : Plain newline
plain_newline = plain_then starred behind_star plain_starred plain_behind_star

pub lawful_char_number : Lawful char_number
lawful_char_number = lawful_then (read_index Character) (λ c n. give (char_text c)) (lawful_index_of Character) (λ c. lawful_plain (give (char_text c)) (plain_give _))

pub lawful_word : (word : Word) → Lawful (digest_word word)
lawful_word ParagraphEnd = lawful_plain (give (op.CloseIf PARAGRAPH ∷ [])) (plain_give _)
lawful_word Space = lawful_plain (give (op.Space ∷ [])) (plain_give _)
lawful_word CharNumber = lawful_char_number
lawful_word Verb = lawful_code
lawful_word Newline = lawful_plain newline plain_newline
lawful_word Misplaced = lawful_plain _ (plain_fail _ MISPLACED [])

pub lawful_meaning : (m : Meaning) → Lawful (digest_meaning m)
lawful_meaning (CharMeaning c category) = lawful_plain (digest_char c category) (plain_char c category)
lawful_meaning (NumberMeaning c) = lawful_plain (give (char_text c)) (plain_give _)
lawful_meaning (Builtin place) = lawful_word (word_at place)
lawful_meaning m = lawful_plain _ (plain_fail _ MISPLACED [])

-- a meaning that is no character, no name for one and no builtin may not stand where it is digested
pub misplaced : (names : Table) (m : MeaningCode) (n : ℕ) (s : State) → ((c category : ℕ) → m ≡ CharMeaning c category → ⊥) → ((c : ℕ) → m ≡ NumberMeaning c → ⊥) → ((place : ℕ) → m ≡ Builtin place → ⊥) → digest_meaning (meaning_at names m) n s ≡ fail MISPLACED [] s
misplaced names (CharMeaning c category) n s char number builtin = absurd (char c category refl)
misplaced names (NumberMeaning c) n s char number builtin = absurd (number c refl)
misplaced names (Builtin place) n s char number builtin = absurd (builtin place refl)
misplaced names m n s char number builtin = refl

pub lawful_left : (t : Token) (done : Executed) → Lawful (digest_left t done)
lawful_left t Yes = lawful_plain (give []) (plain_give [])
lawful_left t NotMine = lawful_by (λ s. means s.world t) digest_meaning lawful_meaning

pub lawful_token : (t : Token) → Lawful (digest_token t)
lawful_token t = lawful_then (execute t) (digest_left t) (lawful_execute t) (lawful_left t)

-- what is gathered behind a token
abbrev pub more_seen : Gathered → List Op → ByDepth (Next Gathered (List Op))
more_seen seen ops n = give (On (add_all seen ops))

pub lawful_more : (seen : Gathered) (ops : List Op) → Lawful (more_seen seen ops)
lawful_more seen ops = lawful_plain _ (plain_give _)

pub lawful_turn : (seen : Gathered) (t : Token) → Lawful (digest_turn seen t)
lawful_turn seen t = lawful_then (digest_token t) (more_seen seen) (lawful_token t) (lawful_more seen)

pub digestion_laws : LawfulLoop digestion
digestion_laws = record { source = lawful_fetch; lowers = fetch_leads; turn = lawful_turn; end = λ seen. plain_give (all_of seen) }

pub lawful_digests : Lawful (loops digestion nothing_yet)
lawful_digests = lawful_loop digestion digestion_laws nothing_yet
