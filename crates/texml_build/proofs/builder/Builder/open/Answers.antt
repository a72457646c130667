use Rattle.std.proofs.Common.{None}
use Rattle.texml_model.specs.Rules.{rules_of}
use Rattle.texml_build.specs.Brackets.{each, enter, own_attr}
use Rattle.texml_build.specs.Held.{held_of}
use Rattle.texml_build.proofs.Follow.{does_next}
use Rattle.texml_build.proofs.builder.Builder.open.Goals as goal

pub returns : goal.returns
returns c = does_next (rules_of c.args.content.now) (enter (rules_of c.args.content.now) None c.args.elem.0) (each (own_attr (rules_of c.args.content.now)) c.args.sets.now) (held_of c.args.self.now) (held_of c.enter.new.self) (held_of c.own_attrs.new.self) c.own_attrs.result c.in_ok-enter.ensures.does c.own_attrs.ensures
