use Rattle.texml_token.specs.Numbers.{token_at}
use Rattle.texml_assign.specs.Operands.{behind_space}
use Rattle.texml_assign.proofs.Readings.{lawful_plain}
use Rattle.texml_assign.proofs.Doing.{does_out}
use Rattle.texml_assign.proofs.Commands.{plain_behind_space}
use Rattle.texml_assign.proofs.operands.behind_space.Goals as goal

pub returns-in-Err-clause-does : goal.returns-in-Err-clause-does
returns-in-Err-clause-does g c =
    let t = token_at c.args.engine.now.names c.args.token in
    does_out _ _ (λ n. behind_space t) (lawful_plain (behind_space t) (plain_behind_space t)) c.no_memory.result c.args.engine.now c.no_memory.new.self _ _ c.requires.sound c.requires.owns c.no_memory.ensures.is c.no_memory.ensures.kept
