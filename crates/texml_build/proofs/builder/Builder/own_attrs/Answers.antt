use Rattle.std.proofs.Common.{arith}
use Rattle.texml_model.specs.Rules.{rules_of}
use Rattle.texml_build.specs.Brackets.{own_attr}
use Rattle.texml_build.specs.Held.{held_of}
use Rattle.texml_build.proofs.Follow.{item_next, item_fails, each_done}
use Rattle.texml_build.proofs.builder.Builder.own_attrs.Goals as goal

pub loop-set-preserved : goal.loop-set-preserved
loop-set-preserved c = item_next (rules_of c.args.content.now) (own_attr (rules_of c.args.content.now)) _ c.loop-set.set-index c.set-item.result _ _ _ _ (omega arith) c.set-item.is c.loop-set.invariant c.in-Ok.ensures

pub returns : goal.returns
returns c = each_done (rules_of c.args.content.now) (own_attr (rules_of c.args.content.now)) _ c.loop-set.set-index _ _ _ (omega arith) c.loop-set.invariant

pub returns-in-Err : goal.returns-in-Err
returns-in-Err c = item_fails (rules_of c.args.content.now) (own_attr (rules_of c.args.content.now)) _ c.loop-set.set-index c.set-item.result (held_of c.loop-set.self) (held_of c.own_attr.new.self) (held_of c.own_attr.new.self) _ (held_of c.args.self.now) c.in-Err.fault (omega arith) c.set-item.is c.loop-set.invariant c.in-Err.ensures
