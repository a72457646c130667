use Rattle.std.proofs.Common.{Bool, ◌||◌, sym, ap, ◌∙◌}
use Rattle.texml_scope.specs.Numbers.{meaning_at}
use Rattle.texml_assign.specs.Fillers.{is_relax}
use Rattle.texml_assign.proofs.fillers.fills.Goals as goal

pub returns-in-Spaces : goal.returns-in-Spaces
returns-in-Spaces c = λ texts. rw c.in-Spaces.is (c.means_space.ensures texts)

pub returns-then-means_space : goal.returns-then-means_space
returns-then-means_space c = λ texts.
    let m = meaning_at texts c.args.meaning.now in
    rw c.in-SpacesAndRelax.is (c.if-means_space.true ∙ ap (λ (b : Bool). b || is_relax m) (sym c.if-means_space.true ∙ c.means_space-in-SpacesAndRelax.ensures texts))

pub returns-else-means_space : goal.returns-else-means_space
returns-else-means_space c = λ texts.
    let m = meaning_at texts c.args.meaning.now in
    rw c.in-SpacesAndRelax.is (c.is_relax.ensures texts ∙ ap (λ (b : Bool). b || is_relax m) (sym c.if-means_space.false ∙ c.means_space-in-SpacesAndRelax.ensures texts))
