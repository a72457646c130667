use Rattle.std.proofs.Common.{rules}
use Rattle.texml_expand.proofs.Mapping.{argument_stops, argument_done, argument_shrinks}
use Rattle.texml_match.specs.Shape.{shape_at}
use Rattle.texml_match.specs.Arguments.{reading}
use Rattle.texml_expand.specs.Arguments.{read_by}
use Rattle.texml_expand.proofs.Getting.{gets_lost}
use Rattle.texml_expand.proofs.engine.Engine.argument.Goals as goal

pub returns-in_err-args-clause-gets : goal.returns-in_err-args-clause-gets
returns-in_err-args-clause-gets g c =
    let h = argument_stops c.args.self.now c.in-Ok.shape c.args.long c.args.delimiter c.in-Ok.ensures c.in_err-args.field-0.0 _ _ _ c.in_err-args.ensures.gets in
    search (rules, h)

pub returns-in-Ok-first_of-clause-gets : goal.returns-in-Ok-first_of-clause-gets
returns-in-Ok-first_of-clause-gets g c =
    argument_done c.args.self.now c.in-Ok.shape c.args.long c.args.delimiter c.in-Ok.ensures c.match_shape.new.self c.in_ok-args.args c.in-Ok-first_of.list _ _ c.in_ok-args.ensures.gets c.in-Ok-first_of.ensures

pub returns-in-Ok-first_of-clause-lower : goal.returns-in-Ok-first_of-clause-lower
returns-in-Ok-first_of-clause-lower g c =
    argument_shrinks c.args.self.now c.in-Ok.shape c.args.long c.args.delimiter c.in-Ok.ensures c.match_shape.new.self c.in_ok-args.args c.in-Ok-first_of.list _ _ c.in_ok-args.ensures.lower c.in-Ok-first_of.ensures

pub returns-clause-gets : goal.returns-clause-gets
returns-clause-gets g c =
    let h = c.args.self.now in
    let e = c.no_memory-in-Err-first_of in
    argument_stops h c.in-Ok.shape c.args.long c.args.delimiter c.in-Ok.ensures e.result e.new.self _ _
    (gets_lost (read_by (reading (shape_at h.names c.in-Ok.shape))) _ e.result h c.match_shape.new.self e.new.self _ _ c.in_ok-args.ensures.gets e.ensures.is e.ensures.kept)
