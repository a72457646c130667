use Rattle.std.proofs.Common.{rules, ◌≡◌, ◌∙◌, sym, ap₂, subst, [], List}
use Rattle.texml_token.specs.declared.tokens.Token.{Token}
use Rattle.texml_match.specs.Left.{left, Reads}
use Rattle.texml_match.proofs.Beginning.{begins, begins_reads}
use Rattle.texml_match.proofs.arg_match.ArgMatch.new.Goals as goal

pub returns-clause-whole : goal.returns-clause-whole
returns-clause-whole c = λ texts shape more.
    let none : c.new-2.result.items ≡ [] = search rules in
    ap₂ (λ (args : List (List Token)) (list : List Token). left texts shape (record { prefix = 0; args = args; list = list }) more) c.new.ensures none ∙ begins texts shape more

pub returns-clause-reads : goal.returns-clause-reads
returns-clause-reads c = λ texts shape numbered within some.
    let none : c.new-2.result.items ≡ [] = search rules in
    subst (λ (list : List Token). Reads texts shape (record { prefix = 0; args = c.new.result; list = list })) (sym none)
    (subst (λ (args : List (List Token)). Reads texts shape (record { prefix = 0; args = args; list = [] })) (sym c.new.ensures) (begins_reads texts shape numbered within some))
