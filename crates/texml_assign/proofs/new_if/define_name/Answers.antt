use Rattle.std.proofs.Common.{false, length, subst}
use Rattle.texml_scope.specs.Texts.{Meaning}
use Rattle.texml_scope.specs.Numbers.{name_text}
use Rattle.texml_scope.specs.declared.values.KeyOf.TheVariants.{Name}
use Rattle.texml_expand.specs.State.{change}
use Rattle.texml_expand.specs.Contract.{Local}
use Rattle.texml_assign.specs.Sets.{assign}
use Rattle.texml_assign.proofs.NewConditionals.{plain_within, plain_named}
use Rattle.texml_assign.proofs.new_if.define_name.Goals as goal

pub assign-requires-clause-meaning : goal.assign-requires-clause-meaning
assign-requires-clause-meaning c = plain_within (length c.args.engine.now.names) c.args.body.now c.requires.body c.plain_macro.result c.in-Ok.body c.in-Ok.ensures c.plain_macro.ensures

pub returns-clause-defines : goal.returns-clause-defines
returns-clause-defines c =
    let h = c.args.engine.now in
    let P : Meaning → Type 0 = λ m. Local (change (assign false (Name (name_text h.names c.args.name)) m)) c.assign.result h c.assign.new.engine in
    subst P (plain_named h.names (length h.names) c.args.body.now c.requires.body c.plain_macro.result c.in-Ok.body c.in-Ok.ensures c.plain_macro.ensures) c.assign.ensures.sets
