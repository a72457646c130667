use Rattle.std.proofs.Common.{◌≡◌, List, ap, rules}
use Rattle.texml_scan.specs.declared.looks.Look.{Look}
use Rattle.texml_expand.specs.declared.machine.Value.TheVariants as worths
use Rattle.texml_expand.specs.declared.machine.Machine.TheVariants as machines
use Rattle.texml_expand.specs.Machine.{mapped, machine_rest}
use Rattle.texml_expand.specs.Quantities.{keyword_text}
use Rattle.texml_expand.proofs.Worth.{scan_stop, scan_of, scan_gives, found_same}
use Rattle.texml_expand.proofs.engine.Engine.read_keyword.Goals as goal

pub returns-clause-follows : goal.returns-clause-follows
returns-clause-follows g c = λ running.
    let same : (xs : List Look) → machine_rest (machines.Keyword c.new.result) xs ≡ mapped worths.Found (keyword_text c.args.word.now xs) = λ xs. ap (mapped worths.Found) (c.new.ensures xs) in
    (scan_of _ _ worths.Found (machine_rest (machines.Keyword c.new.result)) (keyword_text c.args.word.now) same c.in-Found.found c.in_ok-found.field-0 _ _ _ _ _ _ c.in-Found.is found_same c.in_ok-found.ensures.does).follows

pub returns-in_err-found-clause-follows : goal.returns-in_err-found-clause-follows
returns-in_err-found-clause-follows g c = λ running.
    let same : (xs : List Look) → machine_rest (machines.Keyword c.new.result) xs ≡ mapped worths.Found (keyword_text c.args.word.now xs) = λ xs. ap (mapped worths.Found) (c.new.ensures xs) in
    let h = (scan_stop _ _ worths.Found (machine_rest (machines.Keyword c.new.result)) (keyword_text c.args.word.now) same _ _ _ _ _ _ _ c.in_err-found.ensures.does).follows in
    search (rules, h)

pub unreachable-requires : goal.unreachable-requires
unreachable-requires g c =
    let same : (xs : List Look) → machine_rest (machines.Keyword c.new.result) xs ≡ mapped worths.Found (keyword_text c.args.word.now xs) = λ xs. ap (mapped worths.Found) (c.new.ensures xs) in
    let h = scan_gives worths.Found (machine_rest (machines.Keyword c.new.result)) (keyword_text c.args.word.now) same _ c.in_ok-found.ensures.gives in
    c.in_default.not-Found h.value h.is

pub returns-clause-spends : goal.returns-clause-spends
returns-clause-spends g c = λ running.
    let same : (xs : List Look) → machine_rest (machines.Keyword c.new.result) xs ≡ mapped worths.Found (keyword_text c.args.word.now xs) = λ xs. ap (mapped worths.Found) (c.new.ensures xs) in
    (scan_of _ _ worths.Found (machine_rest (machines.Keyword c.new.result)) (keyword_text c.args.word.now) same c.in-Found.found c.in_ok-found.field-0 _ _ _ _ _ _ c.in-Found.is found_same c.in_ok-found.ensures.does).spends

pub returns-in_err-found-clause-spends : goal.returns-in_err-found-clause-spends
returns-in_err-found-clause-spends g c = λ running.
    let same : (xs : List Look) → machine_rest (machines.Keyword c.new.result) xs ≡ mapped worths.Found (keyword_text c.args.word.now xs) = λ xs. ap (mapped worths.Found) (c.new.ensures xs) in
    let h = (scan_stop _ _ worths.Found (machine_rest (machines.Keyword c.new.result)) (keyword_text c.args.word.now) same _ _ _ _ _ _ _ c.in_err-found.ensures.does).spends in
    search (rules, h)
