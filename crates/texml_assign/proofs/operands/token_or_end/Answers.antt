use Rattle.std.proofs.Common.{Ok, Err, Some, None, Option, refl}
use Rattle.std.specs.Option.{option_map}
use Rattle.texml_input.specs.Next.{Taken}
use Rattle.texml_expand.specs.State.{give}
use Rattle.texml_expand.specs.Expand.{take}
use Rattle.texml_expand.specs.Hearing.{hears, hears_part}
use Rattle.texml_expand.specs.Held.{read_at}
use Rattle.texml_assign.specs.Operands.{token_of}
use Rattle.texml_expand.proofs.Stopping.{passed_on}
use Rattle.texml_assign.proofs.Readings.{lawful_plain, plain_give}
use Rattle.texml_assign.proofs.Doing.{does_reads, does_then, does_stop, does_now, no_more}
use Rattle.texml_assign.proofs.Commands.{plain_take}
use Rattle.texml_assign.proofs.operands.token_or_end.Goals as goal

pub returns-in_err-taken-clause-does : goal.returns-in_err-taken-clause-does
returns-in_err-taken-clause-does g c =
    let f = c.in_err-taken.ensures in let run = c.requires.running in let new = c.take.new.self in
    let s = does_reads (hears g.T.Teller.wanting g.T.Teller.heard) (hears_part g.T.Teller.wanting g.T.Teller.part) take plain_take (option_map (read_at new.names)) (Err c.in_err-taken.field-0.0) c.args.engine.now new _ _ _ _ f.tell (f.takes run) (f.spends run) (f.stops run) (f.limit run) tt f.progress f.holds tt in
    let h = does_stop _ _ (λ n. take) (λ o n. give (token_of o)) (lawful_plain take plain_take) (λ o. lawful_plain (give (token_of o)) (plain_give _)) _ _ _ _ _ _ _ c.requires.sound s in
    rw (passed_on c.from_residual.result c.in_err-taken.field-0.0 c.from_residual.ensures) h

pub returns-in-Some-clause-does : goal.returns-in-Some-clause-does
returns-in-Some-clause-does g c =
    let f = c.in_ok-taken.ensures in let run = c.requires.running in let new = c.take.new.self in let o = Some (read_at new.names c.in-Some.read) in
    let s = rw c.in-Some.is at (does_reads (hears g.T.Teller.wanting g.T.Teller.heard) (hears_part g.T.Teller.wanting g.T.Teller.part) take plain_take (option_map (read_at new.names)) (Ok c.in_ok-taken.taken) c.args.engine.now new _ _ _ _ f.tell (f.takes run) (f.spends run) (f.stops run) tt (f.keeps run) f.progress f.holds (no_more (f.lower run))) in
    does_then _ _ (λ n. take) (λ o n. give (token_of o)) (lawful_plain take plain_take) (λ o. lawful_plain (give (token_of o)) (plain_give _)) o _ _ new new _ _ _ _ _ _ s
    (does_now _ _ (give (token_of o)) (plain_give _) (token_of o) new _ _ s.keeps.sound s.holds.owns s.stops.kept (λ shelf. refl))

pub returns-in-Some-clause-takes : goal.returns-in-Some-clause-takes
returns-in-Some-clause-takes g c = rw c.in-Some.is at (c.in_ok-taken.ensures.lower c.requires.running)

pub returns-in-None-clause-does : goal.returns-in-None-clause-does
returns-in-None-clause-does g c =
    let f = c.in_ok-taken.ensures in let run = c.requires.running in let new = c.take.new.self in let o : Option Taken = None in
    let s = rw c.in-None.is at (does_reads (hears g.T.Teller.wanting g.T.Teller.heard) (hears_part g.T.Teller.wanting g.T.Teller.part) take plain_take (option_map (read_at new.names)) (Ok c.in_ok-taken.taken) c.args.engine.now new _ _ _ _ f.tell (f.takes run) (f.spends run) (f.stops run) tt (f.keeps run) f.progress f.holds (no_more (f.lower run))) in
    does_then _ _ (λ n. take) (λ o n. give (token_of o)) (lawful_plain take plain_take) (λ o. lawful_plain (give (token_of o)) (plain_give _)) o _ _ new new _ _ _ _ _ _ s
    (does_now _ _ (give (token_of o)) (plain_give _) (token_of o) new _ _ s.keeps.sound s.holds.owns s.stops.kept (λ shelf. refl))

pub returns-in-None-clause-takes : goal.returns-in-None-clause-takes
returns-in-None-clause-takes g c = rw c.in-None.is at (c.in_ok-taken.ensures.lower c.requires.running)
