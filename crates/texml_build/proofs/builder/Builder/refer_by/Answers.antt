use Rattle.std.proofs.Common.{Some}
use Rattle.texml_model.specs.Rules.{rules_of}
use Rattle.texml_build.specs.Brackets.{enter, end_one}
use Rattle.texml_build.specs.Held.{held_of}
use Rattle.texml_build.proofs.Follow.{does_next}
use Rattle.texml_build.proofs.builder.Builder.refer_by.Goals as goal

pub returns : goal.returns
returns c = does_next (rules_of c.args.content.now) (enter (rules_of c.args.content.now) (Some c.args.target.now) c.args.elem.0) end_one (held_of c.args.self.now) (held_of c.enter.new.self) (held_of c.end_one.new.self) c.end_one.result c.in_ok-enter.ensures.does c.end_one.ensures.does
