use Rattle.texml_expand.specs.Contract.{outside}
use Rattle.std.proofs.Common.{None, Some, rules}
use Rattle.texml_token.specs.Numbers.{token_at}
use Rattle.texml_expand.specs.Fronts.{looked_at}
use Rattle.texml_expand.specs.Quantities.{expanded}
use Rattle.texml_expand.specs.Hearing.{hears, hears_part}
use Rattle.texml_expand.proofs.Looking.{lawful_expanded}
use Rattle.texml_expand.proofs.Public.{as_counted, lawful_counted}
use Rattle.texml_expand.proofs.Doing.{does_now, does_stop, does_then}
use Rattle.texml_expand.proofs.engine.Engine.fetch.Goals as goal

pub returns-in_err-looked-clause-follows : goal.returns-in_err-looked-clause-follows
returns-in_err-looked-clause-follows g c = λ running.
    let h = (does_stop _ _ expanded as_counted lawful_expanded lawful_counted _ _ _ _ _ _ _ c.in_err-looked.ensures.does).follows in
    search (rules, h)

pub returns-in-None-clause-follows : goal.returns-in-None-clause-follows
returns-in-None-clause-follows g c = λ running.
    let T = g.T.Teller in
    let F = g.F.Files in
    let new = c.next_looked.new.self in
    let tell = c.next_looked.new.tell in
    let files = c.next_looked.new.files in
    let d = rw c.in-None.is at c.in_ok-looked.ensures.does in
    (does_then (hears T.wanting T.heard) (hears_part T.wanting T.part) expanded as_counted lawful_expanded lawful_counted None _ _ _ _ _ _ _ _ _ _ d (does_now (hears T.wanting T.heard) (hears_part T.wanting T.part) None new (outside (F.shelf files) (F.faults files) (T.faults tell) (T.loan tell)) tell d.keeps.sound d.stops.kept d.holds.owns)).follows

pub returns-in-Some-clause-follows : goal.returns-in-Some-clause-follows
returns-in-Some-clause-follows g c = λ running.
    let T = g.T.Teller in
    let F = g.F.Files in
    let new = c.next_looked.new.self in
    let tell = c.next_looked.new.tell in
    let files = c.next_looked.new.files in
    let d = rw c.in-Some.is at c.in_ok-looked.ensures.does in
    (does_then (hears T.wanting T.heard) (hears_part T.wanting T.part) expanded as_counted lawful_expanded lawful_counted (Some (looked_at new.names c.in-Some.looked)) _ _ _ _ _ _ _ _ _ _ d
    (does_now (hears T.wanting T.heard) (hears_part T.wanting T.part) (Some (token_at new.names c.in-Some.looked.counts)) new (outside (F.shelf files) (F.faults files) (T.faults tell) (T.loan tell)) tell d.keeps.sound d.stops.kept d.holds.owns)).follows

pub returns-in_err-looked-clause-spends : goal.returns-in_err-looked-clause-spends
returns-in_err-looked-clause-spends g c = λ running.
    let h = (does_stop _ _ expanded as_counted lawful_expanded lawful_counted _ _ _ _ _ _ _ c.in_err-looked.ensures.does).spends in
    search (rules, h)

pub returns-in-None-clause-spends : goal.returns-in-None-clause-spends
returns-in-None-clause-spends g c = λ running.
    let T = g.T.Teller in
    let F = g.F.Files in
    let new = c.next_looked.new.self in
    let tell = c.next_looked.new.tell in
    let files = c.next_looked.new.files in
    let d = rw c.in-None.is at c.in_ok-looked.ensures.does in
    (does_then (hears T.wanting T.heard) (hears_part T.wanting T.part) expanded as_counted lawful_expanded lawful_counted None _ _ _ _ _ _ _ _ _ _ d (does_now (hears T.wanting T.heard) (hears_part T.wanting T.part) None new (outside (F.shelf files) (F.faults files) (T.faults tell) (T.loan tell)) tell d.keeps.sound d.stops.kept d.holds.owns)).spends

pub returns-in-Some-clause-spends : goal.returns-in-Some-clause-spends
returns-in-Some-clause-spends g c = λ running.
    let T = g.T.Teller in
    let F = g.F.Files in
    let new = c.next_looked.new.self in
    let tell = c.next_looked.new.tell in
    let files = c.next_looked.new.files in
    let d = rw c.in-Some.is at c.in_ok-looked.ensures.does in
    (does_then (hears T.wanting T.heard) (hears_part T.wanting T.part) expanded as_counted lawful_expanded lawful_counted (Some (looked_at new.names c.in-Some.looked)) _ _ _ _ _ _ _ _ _ _ d
    (does_now (hears T.wanting T.heard) (hears_part T.wanting T.part) (Some (token_at new.names c.in-Some.looked.counts)) new (outside (F.shelf files) (F.faults files) (T.faults tell) (T.loan tell)) tell d.keeps.sound d.stops.kept d.holds.owns)).spends
