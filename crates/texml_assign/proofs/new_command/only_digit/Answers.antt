use Rattle.std.proofs.Common.{ap, sym, ◌∙◌}
use Rattle.std.specs.Option.{option_and_then, option_map}
use Rattle.texml_token.specs.Numbers.{token_at}
use Rattle.texml_assign.specs.Parameters.{digit}
use Rattle.texml_assign.proofs.new_command.only_digit.Goals as goal

pub returns-in-Some-clause-is : goal.returns-in-Some-clause-is
returns-in-Some-clause-is c = λ texts. c.digit.ensures.is texts ∙ ap (option_and_then digit) (sym (ap (option_map (token_at texts)) c.in-Some.is) ∙ c.only_token.ensures.is texts)

pub returns-in-None-clause-is : goal.returns-in-None-clause-is
returns-in-None-clause-is c = λ texts. ap (option_and_then digit) (sym (ap (option_map (token_at texts)) c.in-None.is) ∙ c.only_token.ensures.is texts)
