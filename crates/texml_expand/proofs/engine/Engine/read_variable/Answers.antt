use Rattle.texml_expand.specs.Contract.{outside}
use Rattle.std.proofs.Common.{sym, ap, ◌∙◌, rules, length, subst}
use Rattle.texml_scope.specs.Numbers.{key_at, KeyWithin}
use Rattle.texml_expand.specs.VariableCodes.{HasNumber}
use Rattle.texml_expand.specs.State.{give}
use Rattle.texml_expand.specs.Variables.{key_of, index_of}
use Rattle.texml_expand.specs.Quantities.{read_index}
use Rattle.texml_expand.specs.Hearing.{hears, hears_part}
use Rattle.texml_expand.proofs.Lawful.{lawful_give}
use Rattle.texml_expand.proofs.Looking.{lawful_index}
use Rattle.texml_expand.proofs.Doing.{does_now, does_stop, does_then}
use Rattle.texml_expand.proofs.Rounds.{index_as}
use Rattle.texml_expand.proofs.Looks.{key_same, key_within}
use Rattle.texml_expand.proofs.engine.Engine.read_variable.Goals as goal

pub returns-clause-follows : goal.returns-clause-follows
returns-clause-follows g c = λ running.
    let T = g.T.Teller in
    let F = g.F.Files in
    let new = c.index.new.self in
    let tell = c.index.new.tell in
    let files = c.index.new.files in
    let v = c.args.variable in
    let n = c.in_ok-number.number in
    let i = c.in_ok-number.ensures.does in
    let d = index_as _ _ _ (index_of v) _ _ _ _ _ _ _ (sym c.index_of.ensures) i in
    let same = ap (key_at new.names) c.key_of.ensures ∙ key_same new.names v n in
    let k = does_then (hears T.wanting T.heard) (hears_part T.wanting T.part) (λ c. read_index c (index_of v)) (λ n c. give (key_of v n)) (lawful_index (index_of v)) (λ n. lawful_give (key_of v n)) n _ _ _ _ _ _ _ _ _ _ d
    (does_now (hears T.wanting T.heard) (hears_part T.wanting T.part) (key_of v n) new (outside (F.shelf files) (F.faults files) (T.faults tell) (T.loan tell)) tell i.keeps.sound i.stops.kept i.holds.owns) in
    rw same k.follows

pub returns-in_err-number-clause-follows : goal.returns-in_err-number-clause-follows
returns-in_err-number-clause-follows g c = λ running.
    let v = c.args.variable in
    let d = index_as _ _ _ (index_of v) _ _ _ _ _ _ _ (sym c.index_of.ensures) c.in_err-number.ensures.does in
    let h = (does_stop _ _ (λ c. read_index c (index_of v)) (λ n c. give (key_of v n)) (lawful_index (index_of v)) (λ n. lawful_give (key_of v n)) _ _ _ _ _ _ _ d).follows in
    search (rules, h)

pub returns-clause-within : goal.returns-clause-within
returns-clause-within g c = λ running.
    let names = c.index.new.self.names in
    let n = c.in_ok-number.number in
    let fits = subst (λ i. HasNumber i n) c.index_of.ensures c.in_ok-number.ensures.fits in
    subst (KeyWithin (length names)) (sym c.key_of.ensures) (key_within (length names) c.args.variable n fits)

pub returns-clause-spends : goal.returns-clause-spends
returns-clause-spends g c = λ running.
    let T = g.T.Teller in
    let F = g.F.Files in
    let new = c.index.new.self in
    let tell = c.index.new.tell in
    let files = c.index.new.files in
    let v = c.args.variable in
    let n = c.in_ok-number.number in
    let i = c.in_ok-number.ensures.does in
    let d = index_as _ _ _ (index_of v) _ _ _ _ _ _ _ (sym c.index_of.ensures) i in
    let same = ap (key_at new.names) c.key_of.ensures ∙ key_same new.names v n in
    let k = does_then (hears T.wanting T.heard) (hears_part T.wanting T.part) (λ c. read_index c (index_of v)) (λ n c. give (key_of v n)) (lawful_index (index_of v)) (λ n. lawful_give (key_of v n)) n _ _ _ _ _ _ _ _ _ _ d
    (does_now (hears T.wanting T.heard) (hears_part T.wanting T.part) (key_of v n) new (outside (F.shelf files) (F.faults files) (T.faults tell) (T.loan tell)) tell i.keeps.sound i.stops.kept i.holds.owns) in
    rw same k.spends

pub returns-in_err-number-clause-spends : goal.returns-in_err-number-clause-spends
returns-in_err-number-clause-spends g c = λ running.
    let v = c.args.variable in
    let d = index_as _ _ _ (index_of v) _ _ _ _ _ _ _ (sym c.index_of.ensures) c.in_err-number.ensures.does in
    let h = (does_stop _ _ (λ c. read_index c (index_of v)) (λ n c. give (key_of v n)) (lawful_index (index_of v)) (λ n. lawful_give (key_of v n)) _ _ _ _ _ _ _ d).spends in
    search (rules, h)
