use Rattle.std.proofs.Common.{sym, arith}
use Rattle.texml_token.proofs.Naming.{no_fault}
use Rattle.texml_token.proofs.fault_code.name_of.Goals as goal

pub returns-in-26-to-255 : goal.returns-in-26-to-255
returns-in-26-to-255 c = sym (no_fault c.args.code (omega arith))
