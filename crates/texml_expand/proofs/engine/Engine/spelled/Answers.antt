use Rattle.std.proofs.Common.{FitsSigned, w32, rules, to_z, of_z, sym, ap, ◌∙◌}
use Rattle.std.proofs.lemmas.Int.{to_z-of_z}
use Rattle.texml_token.specs.Numbers.{token_at}
use Rattle.texml_token.specs.Spelling.{spelled}
use Rattle.texml_expand.specs.Printed.{printed_tokens}
use Rattle.texml_expand.specs.State.{Done, nothing}
use Rattle.texml_expand.specs.Held.{Held, state_of}
use Rattle.texml_expand.proofs.engine.Engine.spelled.Goals as goal

pub returns-in-Ok-clause-writes : goal.returns-in-Ok-clause-writes
returns-in-Ok-clause-writes c = λ shelf.
    let h = c.args.self.now in
    let fits : FitsSigned w32 c.escape-escape.result = search rules in
    let names = ap (λ (x : Held). printed_tokens (spelled (to_z w32 (of_z w32 c.escape-escape.result)) (token_at x.names c.args.token))) c.self.view_is in
    ap (λ l. Done l (state_of shelf h) nothing)
    (sym (c.in-Ok.ensures.is h.names ∙ names ∙ ap (λ e. printed_tokens (spelled e (token_at h.names c.args.token))) (to_z-of_z w32 c.escape-escape.result fits ∙ c.escape-escape.ensures)))
