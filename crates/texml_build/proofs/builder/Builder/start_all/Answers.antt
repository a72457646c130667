use Rattle.std.proofs.Common.{arith}
use Rattle.texml_model.specs.Rules.{rules_of}
use Rattle.texml_build.specs.Held.{held_of}
use Rattle.texml_build.proofs.Follow.{start_elem, chain_begins, each_next, each_done}
use Rattle.texml_build.proofs.builder.Builder.start_all.Goals as goal

pub loop-elem-init : goal.loop-elem-init
loop-elem-init c = chain_begins (rules_of c.args.content.now) c.args.chain.now (held_of c.args.self.now)

pub loop-elem-preserved : goal.loop-elem-preserved
loop-elem-preserved c = each_next (rules_of c.args.content.now) (start_elem (rules_of c.args.content.now)) c.args.chain.now c.loop-elem.elem-index _ _ _ _ _ (omega arith) c.loop-elem.invariant c.in_ok-start.ensures.does

pub returns : goal.returns
returns c = each_done (rules_of c.args.content.now) (start_elem (rules_of c.args.content.now)) c.args.chain.now c.loop-elem.elem-index _ _ _ (omega arith) c.loop-elem.invariant
