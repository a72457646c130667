use Rattle.std.proofs.Common.{rules, ◌∙◌, sym, ap, List, map}
use Rattle.texml_token.specs.declared.tokens.Token.{Token}
use Rattle.texml_token.specs.Numbers.{tokens_at}
use Rattle.texml_match.specs.Reading.{Gives}
use Rattle.texml_match.specs.Left.{Reads}
use Rattle.texml_match.proofs.Feeding.{wants_more, done}
use Rattle.texml_match.proofs.arg_match.ArgMatch.feed.Goals as goal

pub returns-then-is_more-clause-wants : goal.returns-then-is_more-clause-wants
returns-then-is_more-clause-wants c =
    let r : Reads c.args.names.now c.args.shape.now c.take.new.self = search rules in
    wants_more c.args.names.now c.args.shape.now c.take.new.self r

pub returns-else-is_more-clause-says : goal.returns-else-is_more-clause-says
returns-else-is_more-clause-says c = λ more.
    c.in-Ok.ensures.takes more ∙ (done c.args.names.now c.args.shape.now c.take.new.self (sym c.is_more.ensures ∙ c.if-is_more.false) more ∙
    ap (λ (args : List (List Token)). Gives (map (tokens_at c.args.names.now) args) more) (sym c.take_args.ensures))
