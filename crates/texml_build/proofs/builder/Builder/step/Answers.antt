use Rattle.std.proofs.Common.{refl, ap, sym, List, ℕ, None}
use Rattle.texml_tree.specs.declared.ops.Op.TheVariants.{Open, Close, CloseIf, Text, Space, Attr, Label, Ref}
use Rattle.texml_model.specs.Rules.{rules_of}
use Rattle.texml_build.specs.Brackets.{both, place, say, attr, label, refer}
use Rattle.texml_build.specs.Held.{held_of}
use Rattle.texml_build.proofs.Follow.{step_as}
use Rattle.texml_build.proofs.builder.Builder.step.Goals as goal

pub returns-in-Open : goal.returns-in-Open
returns-in-Open c = step_as (rules_of c.args.content.now) c.args.op.now (Open c.in-Open.elem c.in-Open.sets) _ (held_of c.args.self.now) (held_of c.open.new.self) c.open.result c.in-Open.is refl c.open.ensures

pub returns-in-Close : goal.returns-in-Close
returns-in-Close c = step_as (rules_of c.args.content.now) c.args.op.now (Close c.in-Close.elem) _ (held_of c.args.self.now) (held_of c.close_to.new.self) c.close_to.result c.in-Close.is refl c.close_to.ensures

pub returns-in-CloseIf : goal.returns-in-CloseIf
returns-in-CloseIf c = step_as (rules_of c.args.content.now) c.args.op.now (CloseIf c.in-CloseIf.elem) _ (held_of c.args.self.now) (held_of c.close_if.new.self) c.close_if.result c.in-CloseIf.is refl c.close_if.ensures

pub returns-in-Text : goal.returns-in-Text
returns-in-Text c = step_as (rules_of c.args.content.now) c.args.op.now (Text c.in-Text.text) _ (held_of c.args.self.now) (held_of c.text.new.self) c.text.result c.in-Text.is (ap (λ (t : List ℕ). both (place (rules_of c.args.content.now) None) (say t)) (sym c.as_slice.ensures)) c.text.ensures

pub returns-in-Space : goal.returns-in-Space
returns-in-Space c = step_as (rules_of c.args.content.now) c.args.op.now Space _ (held_of c.args.self.now) (held_of c.space.new.self) c.space.result c.in-Space.is refl c.space.ensures

pub returns-in-Attr : goal.returns-in-Attr
returns-in-Attr c = step_as (rules_of c.args.content.now) c.args.op.now (Attr c.in-Attr.attr c.in-Attr.value) _ (held_of c.args.self.now) (held_of c.attr.new.self) c.attr.result c.in-Attr.is (ap (λ (v : List ℕ). attr (rules_of c.args.content.now) c.in-Attr.attr v) (sym c.as_slice-in-Attr.ensures)) c.attr.ensures

pub returns-in-Label : goal.returns-in-Label
returns-in-Label c = step_as (rules_of c.args.content.now) c.args.op.now (Label c.in-Label.label c.in-Label.number) _ (held_of c.args.self.now) (held_of c.label.new.self) c.label.result c.in-Label.is (λ i. label (rules_of c.args.content.now) (sym c.as_slice-in-Label.ensures i) (sym c.as_slice-in-Label-2.ensures i)) c.label.ensures

pub returns-in-Ref : goal.returns-in-Ref
returns-in-Ref c = step_as (rules_of c.args.content.now) c.args.op.now (Ref c.in-Ref.label) _ (held_of c.args.self.now) (held_of c.refer.new.self) c.refer.result c.in-Ref.is (ap (λ (t : List ℕ). refer (rules_of c.args.content.now) t) (sym c.as_slice-in-Ref.ensures)) c.refer.ensures
