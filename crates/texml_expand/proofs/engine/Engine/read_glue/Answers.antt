use Rattle.std.proofs.Common.{◌≡◌, List, ap, rules}
use Rattle.texml_scan.specs.declared.looks.Look.{Look}
use Rattle.texml_scan.specs.Glue.{glue}
use Rattle.texml_fixed.specs.Glue.{IsGlueWithin}
use Rattle.texml_scan.proofs.Bounds.{glue_gives}
use Rattle.texml_expand.specs.declared.machine.Value.TheVariants as worths
use Rattle.texml_expand.specs.declared.machine.Machine.TheVariants as machines
use Rattle.texml_expand.specs.Machine.{mapped, machine_rest}
use Rattle.texml_expand.specs.Quantities.{glue_text}
use Rattle.texml_expand.proofs.Within.{gives_within}
use Rattle.texml_expand.proofs.Worth.{scan_stop, scan_of, scan_gives, gives_of, glue_same}
use Rattle.texml_expand.proofs.engine.Engine.read_glue.Goals as goal

pub returns-clause-follows : goal.returns-clause-follows
returns-clause-follows g c = λ running.
    let same : (xs : List Look) → machine_rest (machines.Glue c.new.result) xs ≡ mapped worths.Glue (glue_text xs) = λ xs. ap (mapped worths.Glue) (c.new.ensures xs) in
    (scan_of _ _ worths.Glue (machine_rest (machines.Glue c.new.result)) glue_text same c.in-Glue.value c.in_ok-value.field-0 _ _ _ _ _ _ c.in-Glue.is glue_same c.in_ok-value.ensures.does).follows

pub returns-clause-within : goal.returns-clause-within
returns-clause-within g c = λ running.
    let same : (xs : List Look) → machine_rest (machines.Glue c.new.result) xs ≡ mapped worths.Glue (glue_text xs) = λ xs. ap (mapped worths.Glue) (c.new.ensures xs) in
    gives_within IsGlueWithin glue glue_gives c.in-Glue.value (gives_of worths.Glue (machine_rest (machines.Glue c.new.result)) glue_text same c.in-Glue.value c.in_ok-value.field-0 c.in-Glue.is glue_same c.in_ok-value.ensures.gives)

pub returns-in_err-value-clause-follows : goal.returns-in_err-value-clause-follows
returns-in_err-value-clause-follows g c = λ running.
    let same : (xs : List Look) → machine_rest (machines.Glue c.new.result) xs ≡ mapped worths.Glue (glue_text xs) = λ xs. ap (mapped worths.Glue) (c.new.ensures xs) in
    let h = (scan_stop _ _ worths.Glue (machine_rest (machines.Glue c.new.result)) glue_text same _ _ _ _ _ _ _ c.in_err-value.ensures.does).follows in
    search (rules, h)

pub unreachable-requires : goal.unreachable-requires
unreachable-requires g c =
    let same : (xs : List Look) → machine_rest (machines.Glue c.new.result) xs ≡ mapped worths.Glue (glue_text xs) = λ xs. ap (mapped worths.Glue) (c.new.ensures xs) in
    let h = scan_gives worths.Glue (machine_rest (machines.Glue c.new.result)) glue_text same _ c.in_ok-value.ensures.gives in
    c.in_default.not-Glue h.value h.is

pub returns-clause-spends : goal.returns-clause-spends
returns-clause-spends g c = λ running.
    let same : (xs : List Look) → machine_rest (machines.Glue c.new.result) xs ≡ mapped worths.Glue (glue_text xs) = λ xs. ap (mapped worths.Glue) (c.new.ensures xs) in
    (scan_of _ _ worths.Glue (machine_rest (machines.Glue c.new.result)) glue_text same c.in-Glue.value c.in_ok-value.field-0 _ _ _ _ _ _ c.in-Glue.is glue_same c.in_ok-value.ensures.does).spends

pub returns-in_err-value-clause-spends : goal.returns-in_err-value-clause-spends
returns-in_err-value-clause-spends g c = λ running.
    let same : (xs : List Look) → machine_rest (machines.Glue c.new.result) xs ≡ mapped worths.Glue (glue_text xs) = λ xs. ap (mapped worths.Glue) (c.new.ensures xs) in
    let h = (scan_stop _ _ worths.Glue (machine_rest (machines.Glue c.new.result)) glue_text same _ _ _ _ _ _ _ c.in_err-value.ensures.does).spends in
    search (rules, h)
