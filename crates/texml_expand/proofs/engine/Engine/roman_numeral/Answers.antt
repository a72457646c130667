use Rattle.std.proofs.Common.{FitsSigned, w32, sym, ap, ◌∙◌, rules}
use Rattle.std.proofs.lemmas.Int.{to_z-of_z}
use Rattle.texml_expand.specs.Printed.{printed_tokens, roman_text}
use Rattle.texml_expand.specs.State.{Done, nothing}
use Rattle.texml_expand.specs.Held.{state_of}
use Rattle.texml_expand.proofs.engine.Engine.roman_numeral.Goals as goal

pub returns-in-Ok-clause-writes : goal.returns-in-Ok-clause-writes
returns-in-Ok-clause-writes c =
    let fits : FitsSigned w32 c.args.value = search rules in
    λ shelf. ap (λ l. Done l (state_of shelf c.args.self.now) nothing) (sym (c.in-Ok.ensures.is c.args.self.now.names ∙ ap (λ z. printed_tokens (roman_text z)) (to_z-of_z w32 c.args.value fits)))
