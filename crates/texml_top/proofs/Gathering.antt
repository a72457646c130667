-- Texts that go on as one make the same document.
use Rattle.std.proofs.Common.{◌≡◌, ◌∙◌, ap, sym, refl, List, [], ◌∷◌, ◌++◌, ℕ, append_assoc, append-nil}
use Rattle.texml_tree.specs.declared.ops.Op.{Op}
use Rattle.texml_tree.specs.declared.ops.Op.TheVariants as op
use Rattle.texml_build.specs.Matched.{built}
use Rattle.texml_build.proofs.Texts.{texts_go_on}
use Rattle.texml_top.specs.declared.gather.Gathered.{Gathered}
use Rattle.texml_top.specs.Table.{elements, rules}
use Rattle.texml_top.specs.Gather.{nothing_yet, text_ops, all_of, with_op, with_space, add, add_all}
use Rattle.texml_top.specs.Document.{page_by, document, GatheringKeepsTheDocument}
use Rattle.texml_top.proofs.Tables.{table_is_model}

abbrev Alike : List Op → List Op → Type 0
Alike a b = built rules a ≡ built rules b

alike_same : (a b : List Op) → a ≡ b → Alike a b
alike_same a b e = ap (built rules) e

-- one operation more
other_op : (g : Gathered) (o : Op) (more : List Op) → Alike (all_of (with_op g o) ++ more) (all_of g ++ o ∷ more)
other_op g o more = alike_same _ _ (ap (λ l. l ++ more) (append-nil (all_of g ++ o ∷ [])) ∙ append_assoc (all_of g) (o ∷ []) more)

text_op : (ops : List Op) (text : List ℕ) (b : ℕ) (bs : List ℕ) (more : List Op) → Alike ((ops ++ text_ops (text ++ b ∷ bs)) ++ more) ((ops ++ text_ops text) ++ op.Text (b ∷ bs) ∷ more)
text_op ops [] b bs more = alike_same _ _ (append_assoc ops (op.Text (b ∷ bs) ∷ []) more ∙ ap (λ l. l ++ op.Text (b ∷ bs) ∷ more) (sym (append-nil ops)))
text_op ops (c ∷ cs) b bs more =
    alike_same _ _ (append_assoc ops (op.Text (c ∷ cs ++ b ∷ bs) ∷ []) more)
    ∙ sym ((texts_go_on elements table_is_model ops more (c ∷ cs) (b ∷ bs)).0)
    ∙ alike_same _ _ (sym (append_assoc ops (op.Text (c ∷ cs) ∷ []) (op.Text (b ∷ bs) ∷ more)))

space_op : (g : Gathered) (text : List ℕ) (more : List Op) → g.text ≡ text → Alike (all_of (with_space g text) ++ more) (all_of g ++ op.Space ∷ more)
space_op g [] more e = other_op g op.Space more
space_op g (c ∷ cs) more e =
    alike_same _ _ (ap (λ t. (g.ops ++ text_ops (t ++ 32 ∷ [])) ++ more) e ∙ append_assoc g.ops (op.Text (c ∷ cs ++ 32 ∷ []) ∷ []) more)
    ∙ sym ((texts_go_on elements table_is_model g.ops more (c ∷ cs) []).1)
    ∙ alike_same _ _ (sym (append_assoc g.ops (op.Text (c ∷ cs) ∷ []) (op.Space ∷ more)) ∙ ap (λ t. (g.ops ++ text_ops t) ++ op.Space ∷ more) (sym e))

one_op : (g : Gathered) (o : Op) (more : List Op) → Alike (all_of (add g o) ++ more) (all_of g ++ o ∷ more)
one_op g (op.Text []) more = other_op g (op.Text []) more
one_op g (op.Text (b ∷ bs)) more = text_op g.ops g.text b bs more
one_op g op.Space more = space_op g g.text more refl
one_op g o more = other_op g o more

all_ops : (g : Gathered) (ops : List Op) → Alike (all_of (add_all g ops)) (all_of g ++ ops)
all_ops g [] = alike_same _ _ (sym (append-nil (all_of g)))
all_ops g (o ∷ ops) = all_ops (add g o) ops ∙ one_op g o ops

pub gathering_keeps : GatheringKeepsTheDocument
unfolding document
gathering_keeps ops = ap page_by (all_ops nothing_yet ops)
