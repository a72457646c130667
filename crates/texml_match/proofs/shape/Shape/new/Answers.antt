use Rattle.std.proofs.Common.{rules, ◌≡◌, sym, subst}
use Rattle.texml_token.specs.declared.tokens.Token.{Token}
use Rattle.texml_match.specs.Shape.{Shape, ShapeWithin, shape_of}
use Rattle.texml_match.proofs.Beginning.{shape_within}
use Rattle.texml_match.proofs.shape.Shape.new.Goals as goal

pub returns-clause-within : goal.returns-clause-within
returns-clause-within c = λ count h.
    let is : ◌≡◌ {A = Shape Token} (record { prefix = c.in_ok-leading.field-0; delimiters = c.in_ok-delimiters.field-0.items; long = c.args.long }) (shape_of c.args.long c.args.params.now) = search rules in
    subst (ShapeWithin count) (sym is) (shape_within count c.args.long c.args.params.now h)
