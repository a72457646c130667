use Rattle.std.proofs.Common.{rules, arith, sym, ◌∙◌}
use Rattle.texml_expand.specs.Held.{read_at}
use Rattle.texml_expand.proofs.Spacing.{spacing_none, spacing_on, spacing_ends, spacing_found, spacing_stops, spacing_out}
use Rattle.texml_expand.proofs.engine.Engine.behind_spaces.Goals as goal

pub spaces-init : goal.spaces-init
spaces-init g c = spacing_none _ _ c.requires.running c.requires.sound c.requires.owns

pub returns-in_err-read-clause-gets : goal.returns-in_err-read-clause-gets
returns-in_err-read-clause-gets g c =
    let h = spacing_stops _ _ _ _ _ _ c.spaces.invariant c.in_err-read.field-0.0 c.in_err-read.ensures.gets in
    search (rules, h)

pub returns-in_default-clause-gets : goal.returns-in_default-clause-gets
returns-in_default-clause-gets g c = spacing_ends _ _ _ _ _ _ c.spaces.invariant (rw c.in_default.is at c.in_ok-read.ensures.gets)

pub spaces-smaller : goal.spaces-smaller
spaces-smaller g c = let s = (rw c.in-Some.is at c.in_ok-read.ensures.lower).room c.in_ok-read.ensures.begun in omega arith

pub spaces-preserved : goal.spaces-preserved
spaces-preserved g c =
    spacing_on _ _ _ _ _ _ c.spaces.invariant (read_at c.take_front.new.self.names c.in-Some.read) (rw c.in-Some.is at c.in_ok-read.ensures.gets) (sym c.in-Ok-true.ensures ∙ c.in-Ok-true.field-0-test) (rw c.in-Some.is at c.in_ok-read.ensures.lower)

pub returns-in-Ok-false-clause-gets : goal.returns-in-Ok-false-clause-gets
returns-in-Ok-false-clause-gets g c =
    spacing_found _ _ _ _ _ _ c.spaces.invariant (read_at c.take_front.new.self.names c.in-Some.read) (rw c.in-Some.is at c.in_ok-read.ensures.gets) (sym c.in-Ok-false.ensures ∙ c.in-Ok-false.field-0-test)

pub returns-in-Err-clause-gets : goal.returns-in-Err-clause-gets
returns-in-Err-clause-gets g c =
    spacing_out c.no_memory.result (read_at c.take_front.new.self.names c.in-Some.read) _ _ _ _ _ _ _ c.spaces.invariant (rw c.in-Some.is at c.in_ok-read.ensures.gets) c.no_memory.ensures.is c.no_memory.ensures.kept
