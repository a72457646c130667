use Rattle.std.proofs.Common.{[], ◌+◌, length, false, refl}
use Rattle.texml_token.specs.declared.fault_code.TheConstants.{MISSING_BRACE}
use Rattle.texml_token.specs.Numbers.{tokens_at}
use Rattle.texml_expand.specs.State.{fail}
use Rattle.texml_expand.specs.Absorb.{absorb}
use Rattle.texml_expand.specs.Hearing.{hears, hears_part}
use Rattle.texml_assign.proofs.Readings.{plain_fail}
use Rattle.texml_assign.proofs.Doing.{does_call, does_fault, takes_any, takes_less}
use Rattle.texml_assign.proofs.letters.group_from.Goals as goal

pub returns-in-Group-clause-does : goal.returns-in-Group-clause-does
returns-in-Group-clause-does g c =
    let f = c.absorb.ensures in let new = c.absorb.new.self in let run = c.requires.running in
    rw c.in-Group.is (does_call (hears g.T.Teller.wanting g.T.Teller.heard) (hears_part g.T.Teller.wanting g.T.Teller.part) (absorb false) (tokens_at new.names) c.absorb.result c.args.engine.now new _ _ _ _ (f.follows run) (f.spends run) (f.stops run) (f.limit run) (f.keeps run) f.progress f.holds (takes_any c.absorb.result (λ list. length list + 1) _ _ _ _ (f.lower run)))

pub returns-in-Register-clause-does : goal.returns-in-Register-clause-does
returns-in-Register-clause-does g c =
    rw c.in-Register.is (does_fault _ _ (fail MISSING_BRACE []) (plain_fail _ _ _) MISSING_BRACE c.bare_fault.result c.args.engine.now c.bare_fault.new.self _ _ c.requires.owns (λ shelf. refl) c.bare_fault.ensures.is c.bare_fault.ensures.kept)

pub returns-in-Group-clause-takes : goal.returns-in-Group-clause-takes
returns-in-Group-clause-takes g c = takes_less c.absorb.result length _ _ _ _ (c.absorb.ensures.lower c.requires.running)
