use Rattle.std.proofs.Common.{Ok, sym, ap, ◌∙◌}
use Rattle.texml_scope.specs.Numbers.{key_at}
use Rattle.texml_expand.specs.Variables.{key_of}
use Rattle.texml_expand.specs.State.{give, Done, nothing}
use Rattle.texml_expand.specs.Held.{state_of}
use Rattle.texml_expand.specs.Hearing.{hears, hears_part}
use Rattle.texml_expand.specs.Expand.{read_key}
use Rattle.texml_assign.specs.Targets.{variable_in}
use Rattle.texml_assign.proofs.Readings.{plain_give}
use Rattle.texml_assign.proofs.Doing.{does_call, does_now}
use Rattle.texml_assign.proofs.Quantities.{named_key}
use Rattle.texml_assign.proofs.targets.target_key.Goals as goal

pub returns-in-Named-clause-does : goal.returns-in-Named-clause-does
returns-in-Named-clause-does g c =
    let h = c.args.engine.now in let r = c.in-Named.registers in let n = c.in-Named.number in
    rw c.in-Named.is (does_now _ _ (give (key_of (variable_in r) n)) (plain_give (key_of (variable_in r) n)) (key_at h.names c.register_key.result) h _ _ c.requires.sound c.requires.owns c.requires.running (λ shelf. ap (λ k. Done k (state_of shelf h) nothing) (named_key h.names r n ∙ ap (key_at h.names) (sym c.register_key.ensures))))

pub returns-in_ok-key-in-Behind-clause-does : goal.returns-in_ok-key-in-Behind-clause-does
returns-in_ok-key-in-Behind-clause-does g c =
    let f = c.in_ok-key-in-Behind.ensures in let mid = c.read_variable.new.self in let run = c.requires.running in
    rw c.in-Behind.is (does_call (hears g.T.Teller.wanting g.T.Teller.heard) (hears_part g.T.Teller.wanting g.T.Teller.part) (read_key c.in-Behind.variable) (key_at mid.names) (Ok c.in_ok-key-in-Behind.key) c.args.engine.now mid _ _ _ _ (f.follows run) (f.spends run) (f.stops run) tt (f.keeps run) f.progress f.holds (f.lower run))
