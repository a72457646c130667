use Rattle.std.proofs.Common.{[], ◌∷◌, refl}
use Rattle.texml_token.specs.declared.fault_code.TheConstants.{MISPLACED}
use Rattle.texml_tree.specs.declared.ops.Op.TheVariants.{CloseIf, Space}
use Rattle.texml_expand.specs.State.{give, fail}
use Rattle.texml_assign.proofs.Readings.{plain_give, plain_fail}
use Rattle.texml_assign.proofs.Doing.{does_now, does_fault}
use Rattle.texml_top.specs.declared.table.TheConstants.{PARAGRAPH}
use Rattle.texml_top.proofs.digest.digest_word.Goals as goal

pub returns-in-ParagraphEnd : goal.returns-in-ParagraphEnd
returns-in-ParagraphEnd g c = record { does = rw c.in-ParagraphEnd.is (does_now _ _ (give (CloseIf PARAGRAPH ∷ [])) (plain_give _) (CloseIf PARAGRAPH ∷ []) c.args.engine.now _ _ c.requires.sound c.requires.owns c.requires.running (λ shelf. refl)) }

pub returns-in-Space : goal.returns-in-Space
returns-in-Space g c = record { does = rw c.in-Space.is (does_now _ _ (give (Space ∷ [])) (plain_give _) (Space ∷ []) c.args.engine.now _ _ c.requires.sound c.requires.owns c.requires.running (λ shelf. refl)) }

pub returns-in-Misplaced : goal.returns-in-Misplaced
returns-in-Misplaced g c = record {
  does =
      rw c.in-Misplaced.is (does_fault _ _ (fail MISPLACED []) (plain_fail _ MISPLACED []) MISPLACED c.bare_fault.result c.args.engine.now c.bare_fault.new.self _ _ c.requires.owns (λ shelf. refl) c.bare_fault.ensures.is c.bare_fault.ensures.kept);
}
