-- Texts that go on.
use Rattle.std.specs.Prelude.{◌≡◌, ℕ, List, ◌∷◌, ◌++◌, codes}
use Rattle.texml_tree.specs.declared.table.Elements.{Elements}
use Rattle.texml_tree.specs.declared.ops.Op.{Op}
use Rattle.texml_tree.specs.declared.ops.Op.TheVariants.{Text, Space}
use Rattle.texml_model.specs.Rules.{IsContentModel, rules_of}
use Rattle.texml_build.specs.Matched.{built}

-- the same tree, or the same fault
abbrev pub BuildAlike : Elements → List Op → List Op → Type 0
BuildAlike t a b = built (rules_of t) a ≡ built (rules_of t) b

-- the law: a text may go on with the one before it, and so may a space behind a text
abbrev pub TextsGoOn : Type 0
TextsGoOn =
    (t : Elements) → IsContentModel t → (before behind : List Op) (text more : List ℕ)
    → BuildAlike t (before ++ Text text ∷ Text more ∷ behind) (before ++ Text (text ++ more) ∷ behind)
    × BuildAlike t (before ++ Text text ∷ Space ∷ behind) (before ++ Text (text ++ codes " ") ∷ behind)
