-- Digestion, outcomes, words, documents and notes, computed on small texts.
use Rattle.std.proofs.Common.{◌≡◌, ◌++◌, ℕ, zero, suc, List, [], ◌∷◌, Option, Some, None, Result, Ok, Err, map, length, ◌+◌, refl}
use Prim.Native.String.{String}
use Rattle.std.specs.Prelude.{codes}
use Rattle.std.specs.Fmt.{digits}
use Rattle.texml_token.specs.declared.fault_code.TheConstants.{NO_GROUP}
use Rattle.texml_input.specs.Rest.{Page, fresh}
use Rattle.texml_expand.specs.State.{State, Answer, loads, Done, Ended, Unfinished, Tex, fault_at}
use Rattle.texml_top.specs.Digest.{digests}
use Rattle.texml_top.specs.declared.request.Command.TheVariants.{Convert, Expand}
use Rattle.texml_top.specs.Request.{Request, asked}
use Rattle.texml_top.specs.Outcome.{first_state, IsOutcomeFrom, IsOutcome}
use Rattle.texml_top.specs.Notes.{note_of}
use Rattle.texml_top.specs.Table.{line_by, elements}
use Rattle.texml_top.specs.Document.{page_of, document}
use Rattle.texml_model.specs.Chain.{chain_between}
use Rattle.texml_model.specs.Rules.{rules_of}
use Rattle.texml_build.specs.Brackets.{fault_of}
use Rattle.texml_tree.specs.declared.model_fault.TheConstants.{NO_PLACE, NO_TEXT, NOTHING_TO_CLOSE, UNCLOSED, BAD_ATTRIBUTE, TREE_DEPTH}
use Rattle.texml_tree.specs.declared.ops.Op.{Op}
use Rattle.texml_tree.specs.declared.ops.Op.TheVariants.{Open, Close, CloseIf, Space, Text, Attr, Label, Ref}
use Rattle.texml_top.specs.declared.table.TheConstants.{PARAGRAPH, BREAK, CODE}
use Rattle.texml_top.specs.declared.status.Status.TheVariants as status

-- a file of these lines, and no other
lines : List (List ℕ) → Page
lines texts = fresh (codes "f") (map (λ text. record { text = Some text; size = length text + 1 }) texts)

first : ℕ → List (List ℕ) → State
first limit texts = first_state (λ name. None) (codes "f") limit (lines texts)

read : ℕ → List (List ℕ) → ℕ → Answer (List Op)
read limit texts n = digests (first limit texts) n

-- the operations that digestion gave
operations : Answer (List Op) → Option (List Op)
operations (Done ops s gains) = Some ops
operations (Ended e gains) = None
operations (Unfinished gains) = None

-- a macro is defined and expanded; blanks behind a name are skipped
defined : operations (read 9 (codes "\\def\\a{x}\\a" ∷ []) 9) ≡ Some (Text (codes "x") ∷ [])
unfolding lines first read operations lib.Utf8.encode
defined = refl

-- the old meaning is back behind a group
undone : operations (read 9 (codes "\\def\\a{x}{\\def\\a{y}\\a}\\a" ∷ []) 9) ≡ Some (Text (codes "yx") ∷ [])
unfolding lines first read operations lib.Utf8.encode
undone = refl

-- the end of a line is a space, which goes on a text, and a blank line ends a paragraph
blank_line : operations (read 9 (codes "\\ a" ∷ [] ∷ codes "b" ∷ []) 9) ≡ Some (Space ∷ Text (codes "a ") ∷ CloseIf PARAGRAPH ∷ Text (codes "b ") ∷ [])
unfolding lines first read operations lib.Utf8.encode
blank_line = refl

-- characters as they stand, and the end of a line with a star and an argument behind it
verb : operations (read 9 (codes "a\\verb*+$ %+b\\\\*[2pt] c" ∷ []) 20) ≡ Some (Text (codes "a") ∷ Open CODE [] ∷ Text (codes "$ %") ∷ Close CODE ∷ Text (codes "b") ∷ Open BREAK [] ∷ Close BREAK ∷ Space ∷ Text (codes "c ") ∷ [])
unfolding lines first read operations lib.Utf8.encode
verb = refl

-- the end of a group that wasn't begun
no_group : read 9 (codes "}" ∷ []) 9 ≡ Ended (Tex (fault_at NO_GROUP [] (record { file = codes "f"; line = 1 }))) (loads (2 ∷ []))
unfolding lines first read lib.Utf8.encode
no_group = refl

-- the trace of a macro that gives itself back, up to the limit
trace_to_limit : IsOutcomeFrom Expand (first 2 (codes "\\def\\x{\\x}\\x" ∷ [])) (record {
  status = status.Limit 2;
  bytes = codes "\\x -> \\x \n\\x -> \\x \n";
  records = record { token = codes "\\x"; put = codes "\\x "; file = [] } ∷ record { token = codes "\\x"; put = codes "\\x "; file = [] } ∷ [];
})
unfolding lines first read lib.Utf8.encode
trace_to_limit = record { answer = read 2 (codes "\\def\\x{\\x}\\x" ∷ []) 9; given = record { depth = 9; is = refl; decided = tt }; is = refl }

-- words that are no command line: the second one is missing
too_few : (contents : List ℕ → Option (List ℕ)) → IsOutcome (codes "convert" ∷ []) contents (record { status = status.Usage 2; bytes = []; records = [] })
unfolding lib.Utf8.encode
too_few contents = refl

-- what the words of a command line ask for
asked_by : List String → Result Request ℕ
asked_by words = asked (map codes words)

requests : map asked_by (
    ("convert" ∷ "a.tex" ∷ [])
    ∷ ("expand" ∷ "-" ∷ [])
    ∷ ("expand" ∷ "a" ∷ "--limit" ∷ "7" ∷ [])
    ∷ ("convert" ∷ "a" ∷ "--limit" ∷ "007" ∷ [])
    ∷ ("convert" ∷ "a" ∷ "--limit" ∷ "0000000001" ∷ [])
    ∷ ("convert" ∷ "a" ∷ "--limit" ∷ "1000000000" ∷ [])
    ∷ [])
    ≡ Ok (record { command = Convert; file = codes "a.tex"; limit = 10000000 })
    ∷ Ok (record { command = Expand; file = codes "-"; limit = 10000000 })
    ∷ Ok (record { command = Expand; file = codes "a"; limit = 7 })
    ∷ Ok (record { command = Convert; file = codes "a"; limit = 7 })
    ∷ Ok (record { command = Convert; file = codes "a"; limit = 1 })
    ∷ Ok (record { command = Convert; file = codes "a"; limit = 1000000000 })
    ∷ []
unfolding asked_by lib.Utf8.encode
requests = refl

-- words that don't fit behind a command
unfit : List (List String)
unfit =
    ("convert" ∷ "a" ∷ "--limit" ∷ "1000000001" ∷ [])
    ∷ ("convert" ∷ "a" ∷ "--limit" ∷ "00000000001" ∷ [])
    ∷ ("convert" ∷ "a" ∷ "--limit" ∷ "0" ∷ [])
    ∷ ("convert" ∷ "a" ∷ "--limit" ∷ "+7" ∷ [])
    ∷ ("convert" ∷ "a" ∷ "--limit" ∷ "7x" ∷ [])
    ∷ ("convert" ∷ "a" ∷ "--limit" ∷ "" ∷ [])
    ∷ ("convert" ∷ "a" ∷ "--limit" ∷ [])
    ∷ ("convert" ∷ "a" ∷ "--limit=7" ∷ [])
    ∷ ("convert" ∷ "a" ∷ "--limit" ∷ "7" ∷ "b" ∷ [])
    ∷ ("convert" ∷ "--limit" ∷ "7" ∷ "a" ∷ [])
    ∷ ("convert" ∷ "a" ∷ "--limits" ∷ "7" ∷ [])
    ∷ ("convert" ∷ "-a" ∷ [])
    ∷ ("convert" ∷ "" ∷ [])
    ∷ ("convert" ∷ "a" ∷ "b" ∷ [])
    ∷ ("convert" ∷ [])
    ∷ ("expand" ∷ "" ∷ [])
    ∷ ("expand" ∷ "--help" ∷ [])
    ∷ ("expand" ∷ [])
    ∷ ("self" ∷ "1" ∷ [])
    ∷ ("self" ∷ [])
    ∷ []

unfit_words : map asked_by unfit ≡ map (λ words. Err 2) unfit
unfolding unfit asked_by lib.Utf8.encode
unfit_words = refl

no_commands : map asked_by (("frob" ∷ "a" ∷ []) ∷ ("--help" ∷ []) ∷ [] ∷ []) ≡ Err 1 ∷ Err 1 ∷ Err 1 ∷ []
unfolding asked_by lib.Utf8.encode
no_commands = refl

abbrev opened : ℕ → Op
opened place = Open (record { 0 = place }) []

-- what the table refuses: an item and a text with no place, nothing to close, what is left open, an attribute of no element
misfits : map document (
    (opened 15 ∷ [])
    ∷ (opened 12 ∷ Text (codes "x") ∷ [])
    ∷ (Close PARAGRAPH ∷ [])
    ∷ (opened 12 ∷ [])
    ∷ (Attr 1 (codes "x") ∷ [])
    ∷ [])
    ≡ Err (fault_of NO_PLACE (codes "item") (codes "document"))
    ∷ Err (fault_of NO_TEXT [] (codes "list"))
    ∷ Err (fault_of NOTHING_TO_CLOSE (codes "p") (codes "document"))
    ∷ Err (fault_of UNCLOSED (codes "list") [])
    ∷ Err (fault_of BAD_ATTRIBUTE (codes "src") (codes "document"))
    ∷ []
unfolding document elements line_by rules_of chain_between
misfits = refl

quotes : ℕ → List Op
quotes zero = []
quotes (suc n) = opened 17 ∷ quotes n

-- two hundred elements may be open, the root among them
too_deep : map (λ count. document (quotes count)) (199 ∷ 200 ∷ []) ≡ Err (fault_of UNCLOSED (codes "quote") []) ∷ Err (fault_of TREE_DEPTH (codes "quote") (codes "quote")) ∷ []
unfolding quotes document elements line_by rules_of chain_between
too_deep = refl

page : String → List ℕ
page body = codes "<!DOCTYPE html>\n<html><head><meta charset=\"utf-8\"><title>untitled</title></head><body><main id=\"x0\">" ++ codes body ++ codes "</main></body></html>\n"

-- rows and cells open by themselves
cell_page : document (opened 24 ∷ Text (codes "x") ∷ Close (record { 0 = 24 }) ∷ []) ≡ Ok (page "<table><tr><td>x</td></tr></table>")
unfolding page document page_of elements line_by rules_of chain_between lib.Utf8.encode digits
cell_page = refl

-- a reference before its label, and one to no label
reference_page : document (Ref (codes "s") ∷ opened 5 ∷ Label (codes "s") (codes "1") ∷ Ref (codes "t") ∷ [])
    ≡ Ok (page "<p><a href=\"#x1\">1</a></p><section id=\"x1\"><p><span class=\"undefined\">??</span></p></section>")
unfolding page document page_of elements line_by rules_of chain_between lib.Utf8.encode digits
reference_page = refl

-- the line of a fault that is about something, and of one that isn't
fault_is_noted : note_of (status.Tex (record { code = 1; file = codes "main.tex"; line = 30; about = codes "\\x" })) ≡ codes "main.tex:30: fault 1 Undefined \\x\n"
unfolding digits lib.Utf8.encode
fault_is_noted = refl

plain_fault_is_noted : note_of (status.Tex (record { code = 20; file = codes "a b"; line = 0; about = [] })) ≡ codes "a b:0: fault 20 NotUtf8\n"
unfolding digits lib.Utf8.encode
plain_fault_is_noted = refl

-- what the table of elements doesn't allow: an element, a text, and one that is left open
misplaced_is_noted : note_of (status.Model (record { code = 1; child = codes "item"; parent = codes "document" })) ≡ codes "model fault 1 NoPlace item document\n"
unfolding digits lib.Utf8.encode
misplaced_is_noted = refl

text_is_noted : note_of (status.Model (record { code = 2; child = []; parent = codes "list" })) ≡ codes "model fault 2 NoText list\n"
unfolding digits lib.Utf8.encode
text_is_noted = refl

unclosed_is_noted : note_of (status.Model (record { code = 4; child = codes "list"; parent = [] })) ≡ codes "model fault 4 Unclosed list\n"
unfolding digits lib.Utf8.encode
unclosed_is_noted = refl

limit_is_noted : note_of (status.Limit 10000000) ≡ codes "limit 10000000 reached\n"
unfolding digits lib.Utf8.encode
limit_is_noted = refl

others_are_noted : map note_of (status.Done ∷ status.ReadFault ∷ status.WriteFault ∷ status.NoMemory ∷ []) ≡ [] ∷ codes "read failed\n" ∷ codes "write failed\n" ∷ codes "out of memory\n" ∷ []
unfolding lib.Utf8.encode
others_are_noted = refl
