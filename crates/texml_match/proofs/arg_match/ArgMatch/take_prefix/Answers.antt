use Rattle.std.proofs.Common.{rules, ◌≡◌, ◌∙◌, sym, ap, get_or, false, true≢false}
use Rattle.texml_match.specs.Left.{left}
use Rattle.texml_match.proofs.Feeding.{prefix_goes, prefix_stops}
use Rattle.texml_match.proofs.arg_match.ArgMatch.take_prefix.Goals as goal

pub returns-clause-takes : goal.returns-clause-takes
returns-clause-takes c = λ more.
    let same : get_or c.args.shape.now.prefix c.args.self.now.prefix c.args.token ≡ c.args.token = search rules in
    prefix_goes c.args.names.now c.args.shape.now c.args.self.now c.requires.before c.args.token c.requires.reads.stands c.requires.within same more ∙ ap (λ m. left c.args.names.now c.args.shape.now m more) (sym c.pass.ensures)

pub returns-then-not-expects-clause-takes : goal.returns-then-not-expects-clause-takes
returns-then-not-expects-clause-takes c = λ more.
    let other : c.expects.result ≡ false = search rules in
    prefix_stops c.args.names.now c.args.shape.now c.args.self.now c.requires.before c.args.token c.requires.reads.stands c.requires.within (λ e. true≢false (sym (c.expects.ensures.1 e) ∙ other)) more
