use Rattle.std.proofs.Common.{Ok, Err, Option}
use Rattle.std.specs.Option.{option_map}
use Rattle.texml_token.specs.Numbers.{token_at}
use Rattle.texml_expand.specs.Hearing.{hears, hears_part}
use Rattle.texml_expand.specs.Expand.{fetch}
use Rattle.texml_expand.proofs.Stopping.{passed_on}
use Rattle.texml_assign.proofs.Readings.{lawful_plain}
use Rattle.texml_assign.proofs.Doing.{does_call, does_then, does_stop, does_judge, no_more}
use Rattle.texml_assign.specs.Arithmetic.{counted_of}
use Rattle.texml_assign.proofs.Quantities.{lawful_fetch, plain_counted_of}
use Rattle.texml_token.specs.Token.{Token}
use Rattle.texml_assign.proofs.arithmetic.next_counted.Goals as goal

pub returns-in_err-next-clause-does : goal.returns-in_err-next-clause-does
returns-in_err-next-clause-does g c =
    let run = c.requires.running in let f = c.in_err-next.ensures in let old = c.args.engine.now in let mid = c.fetch.new.self in
    let s = does_call (hears g.T.Teller.wanting g.T.Teller.heard) (hears_part g.T.Teller.wanting g.T.Teller.part) fetch (option_map (token_at mid.names)) (Err c.in_err-next.field-0.0) old mid _ _ _ _ (f.follows run) (f.spends run) (f.stops run) (f.limit run) tt f.progress f.holds tt in
    let h = does_stop _ _ fetch (λ o n. counted_of o) lawful_fetch (λ o. lawful_plain (counted_of o) (plain_counted_of o)) _ _ _ _ _ _ _ c.requires.sound s in rw (passed_on c.from_residual.result c.in_err-next.field-0.0 c.from_residual.ensures) h

pub returns-clause-does : goal.returns-clause-does
returns-clause-does g c =
    let run = c.requires.running in let f = c.in_ok-next.ensures in let old = c.args.engine.now in let mid = c.fetch.new.self in let new = c.counted_of.new.engine in let o : Option Token = option_map (token_at mid.names) c.in_ok-next.next in
    let s = does_call (hears g.T.Teller.wanting g.T.Teller.heard) (hears_part g.T.Teller.wanting g.T.Teller.part) fetch (option_map (token_at mid.names)) (Ok c.in_ok-next.next) old mid _ _ _ _ (f.follows run) (f.spends run) (f.stops run) tt (f.keeps run) f.progress f.holds (no_more (f.lower run)) in
    does_then _ _ fetch (λ o n. counted_of o) lawful_fetch (λ o. lawful_plain (counted_of o) (plain_counted_of o)) o c.counted_of.result old mid new _ _ _ _ _ _ s
    (does_judge _ _ (counted_of o) (plain_counted_of o) c.counted_of.result mid new _ _ s.holds.owns c.counted_of.ensures.is c.counted_of.ensures.kept c.counted_of.ensures.keeps c.counted_of.ensures.same)
