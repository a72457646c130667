use Rattle.std.proofs.Common.{◌∙◌, ap, sym, subst, length}
use Rattle.std.proofs.lemmas.Result.{on_ok_weaker}
use Rattle.texml_scope.specs.Shown.{world_of}
use Rattle.texml_scope.specs.Numbers.{world_at, WorldCovered}
use Rattle.texml_scope.proofs.Entering.{set_says, set_covered}
use Rattle.texml_scope.proofs.first.enter_name.Goals as goal

pub returns-clause-world : goal.returns-clause-world
returns-clause-world c =
    let named = c.in_ok-name.ensures in
    let said = set_says _ _ named.grows named.numbered c.in_ok-name.name.0 named.within c.args.place c.requires.place (world_of c.args.scope.now) c.requires.covered c.args.control.now (named.text ∙ c.in_ok-text.ensures.value) in
    on_ok_weaker c.set.result (λ e. ap (world_at c.intern.new.self) e ∙ said) c.set.ensures.ok

pub returns-clause-covered : goal.returns-clause-covered
returns-clause-covered c =
    let named = c.in_ok-name.ensures in
    let within = set_covered _ _ named.grows named.numbered c.in_ok-name.name.0 named.within c.args.place c.requires.place (world_of c.args.scope.now) c.requires.covered in
    on_ok_weaker c.set.result (λ e. subst (WorldCovered (length c.intern.new.self)) (sym e) within) c.set.ensures.ok
