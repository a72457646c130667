use Rattle.std.proofs.Common.{length, ◌++◌, refl}
use Rattle.texml_token.proofs.Translation.{params_more}
use Rattle.texml_expand.proofs.Called.{arguments_stop, arguments_out, arguments_done}
use Rattle.texml_expand.proofs.Stopping.{passed_on}
use Rattle.texml_match.specs.Shape.{shape_of}
use Rattle.texml_match.specs.Arguments.{reading}
use Rattle.texml_expand.specs.State.{give, ◌>>=◌}
use Rattle.std.specs.Option.{option_to_list}
use Rattle.texml_expand.specs.Arguments.{read_by, first_argument, macro_arguments}
use Rattle.texml_expand.specs.Fronts.{macro_at}
use Rattle.texml_expand.proofs.Getting.{gets_stop, gets_lost}
use Rattle.texml_expand.proofs.engine.Engine.macro_arguments.Goals as goal

pub arguments-requires-clause-shape : goal.arguments-requires-clause-shape
arguments-requires-clause-shape g c =
    let s = c.args.self.now in
    let mid = c.first_argument.new.self in
    c.in-Ok.ensures.within (length mid.names) (params_more (length s.names) (length mid.names) c.in_ok-first.ensures.gets.keeps.grows.longer c.args.found.now.params c.requires.found.params)

pub returns-in_err-others-clause-gets : goal.returns-in_err-others-clause-gets
returns-in_err-others-clause-gets g c =
    let h = arguments_stop c.args.self.now c.first_argument.new.self c.in_ok-first.ensures.gets.keeps.grows c.args.found.now c.requires.found c.in-Ok.shape c.in-Ok.ensures.is c.in_ok-first.first _ _ c.in_ok-first.ensures.gets
    c.in_err-others.field-0.0 c.arguments.new.self _ c.in_err-others.ensures.gets in
    rw (passed_on c.from_residual-in_err-others.result c.in_err-others.field-0.0 c.from_residual-in_err-others.ensures) h

pub returns-in-Ok-joined-clause-gets : goal.returns-in-Ok-joined-clause-gets
returns-in-Ok-joined-clause-gets g c =
    arguments_done c.args.self.now c.first_argument.new.self c.in_ok-first.ensures.gets.keeps.grows c.args.found.now c.requires.found c.in-Ok.shape c.in-Ok.ensures.is c.in_ok-first.first _ _ c.in_ok-first.ensures.gets
    c.arguments.new.self _ c.in_ok-first.ensures.within c.in_ok-others.others c.in-Ok-joined.args.items c.in_ok-others.ensures.gets c.in-Ok-joined.ensures

pub returns-clause-gets : goal.returns-clause-gets
returns-clause-gets g c =
    let s = c.args.self.now in
    let m = c.args.found.now in
    let d = arguments_done s c.first_argument.new.self c.in_ok-first.ensures.gets.keeps.grows m c.requires.found c.in-Ok.shape c.in-Ok.ensures.is c.in_ok-first.first _ _ c.in_ok-first.ensures.gets c.arguments.new.self _ c.in_ok-first.ensures.within
    c.in_ok-others.others (option_to_list c.in_ok-first.first ++ c.in_ok-others.others) c.in_ok-others.ensures.gets refl in
    gets_lost (macro_arguments (macro_at s.names m)) _ c.no_memory-in-Err-joined.result s c.arguments.new.self c.no_memory-in-Err-joined.new.self _ _ d c.no_memory-in-Err-joined.ensures.is c.no_memory-in-Err-joined.ensures.kept

pub returns-in_err-first-clause-gets : goal.returns-in_err-first-clause-gets
returns-in_err-first-clause-gets g c =
    let m = macro_at c.args.self.now.names c.args.found.now in
    let h = gets_stop (first_argument m.long m.params.default) (λ first. read_by (reading (shape_of m.long m.params)) >>= (λ others. give (first ++ others))) c.in_err-first.field-0.0 c.args.self.now c.first_argument.new.self _ _ c.in_err-first.ensures.gets in
    rw (passed_on c.from_residual.result c.in_err-first.field-0.0 c.from_residual.ensures) h

pub returns-in-Err-clause-gets : goal.returns-in-Err-clause-gets
returns-in-Err-clause-gets g c =
    let m = c.args.found.now in
    arguments_out c.args.self.now c.first_argument.new.self c.in_ok-first.ensures.gets.keeps.grows m c.requires.found (shape_of m.long m.params) refl c.in_ok-first.first _ _ c.in_ok-first.ensures.gets
    c.no_memory.result c.no_memory.new.self c.no_memory.ensures.is c.no_memory.ensures.kept
