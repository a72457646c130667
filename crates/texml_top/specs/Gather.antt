-- What digestion has so far: operations, and behind them a text that may go on, so that the text of a paragraph is one operation.
use Rattle.std.specs.Prelude.{ℕ, List, [], ◌∷◌, ◌++◌, fold}
use Rattle.std.specs.Char.{encode_utf8}
use Rattle.texml_tree.specs.declared.ops.Op.{Op}
use Rattle.texml_tree.specs.declared.ops.Op.TheVariants as op
use Rattle.texml_top.specs.declared.table.TheConstants.{PARAGRAPH, BREAK, CODE}
use Rattle.texml_top.specs.declared.gather.Gathered.{Gathered}
use Rattle.texml_top.specs.declared.gather.Piece.{Piece}
use Rattle.texml_top.specs.declared.gather.Piece.TheVariants.{Nothing, Char, Space, ParagraphEnd, Break, Code}

abbrev pub nothing_yet : Gathered
nothing_yet = record { ops = []; text = [] }

-- the text so far is an operation, where it has characters
abbrev pub text_ops : List ℕ → List Op
text_ops [] = []
text_ops (b ∷ bs) = op.Text (b ∷ bs) ∷ []

-- all of it
abbrev pub all_of : Gathered → List Op
all_of g = g.ops ++ text_ops g.text

abbrev pub with_op : Gathered → Op → Gathered
with_op g o = record { ops = all_of g ++ o ∷ []; text = [] }

-- a text goes on with the one before it; an empty one is an operation of its own
abbrev pub with_text : Gathered → List ℕ → Gathered
with_text g [] = with_op g (op.Text [])
with_text g (b ∷ bs) = record { ops = g.ops; text = g.text ++ b ∷ bs }

-- a space behind a text is one more character of it
abbrev pub with_space : Gathered → List ℕ → Gathered
with_space g [] = with_op g op.Space
with_space g (b ∷ bs) = record { ops = g.ops; text = g.text ++ 32 ∷ [] }

abbrev pub add : Gathered → Op → Gathered
add g (op.Text t) = with_text g t
add g op.Space = with_space g g.text
add g o = with_op g o

abbrev pub add_all : Gathered → List Op → Gathered
add_all = fold add

-- the same operations, with texts that go on as one
abbrev pub gathered : List Op → List Op
gathered ops = all_of (add_all nothing_yet ops)

-- the operations of what a token puts into the document
abbrev pub ops_of : Piece → List Op
ops_of Nothing = []
ops_of (Char c) = op.Text (encode_utf8 c) ∷ []
ops_of Space = op.Space ∷ []
ops_of ParagraphEnd = op.CloseIf PARAGRAPH ∷ []
ops_of Break = op.Open BREAK [] ∷ op.Close BREAK ∷ []
ops_of (Code t) = op.Open CODE [] ∷ op.Text t ∷ op.Close CODE ∷ []
