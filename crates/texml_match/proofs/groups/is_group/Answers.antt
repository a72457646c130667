use Rattle.std.proofs.Common.{rules, ◌≡◌, ◌∙◌, sym, true}
use Rattle.texml_match.proofs.Grouping.{all_later}
use Rattle.texml_match.proofs.groups.is_group.Goals as goal

pub returns : goal.returns
returns c =
    let begins : c.has_category.result ≡ true = search rules in
    let ends : c.has_category-2.result ≡ true = search rules in
    λ texts. c.is_balanced.ensures texts ∙ all_later _ _ _ (sym (c.has_category.ensures texts) ∙ begins) (sym (c.has_category-2.ensures texts) ∙ ends)
