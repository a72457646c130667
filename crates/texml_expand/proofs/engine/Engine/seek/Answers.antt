use Rattle.std.proofs.Common.{rules, arith, ◌≤◌, ◌<◌, ◌+◌, length, sym, ap, ◌∙◌}
use Rattle.std.proofs.lemmas.Bool.{lt-leb, le-leb}
use Rattle.texml_expand.specs.Held.{Held}
use Rattle.texml_expand.proofs.Seeking.{seeking_none, seeking_stops, seeking_inner, seeking_passes, seeking_ends, seeking_chooses, seeking_forbids}
use Rattle.texml_expand.proofs.engine.Engine.seek.Goals as goal

pub words-init : goal.words-init
words-init g c = seeking_none c.args.at c.args.sought c.args.self.now _ c.requires.running c.requires.sound c.requires.owns

pub returns-in_err-word-clause-gets : goal.returns-in_err-word-clause-gets
returns-in_err-word-clause-gets g c =
    let h = seeking_stops c.args.at c.args.sought c.words.sought c.args.self.now c.words.self c.skipped.new.self _ _ _ c.words.invariant c.in_err-word.field-0.0 c.in_err-word.ensures.gets in
    search (rules, h)

pub words-preserved-then-saturating_sub-gt1 : goal.words-preserved-then-saturating_sub-gt1
words-preserved-then-saturating_sub-gt1 g c =
    let mid = c.skipped.new.self in
    let lt : c.args.at + 1 < length mid.conditionals = omega (arith, c.if-saturating_sub-gt1.true, c.saturating_sub.ensures, c.len.ensures, ap (λ (h : Held). length h.conditionals) c.self.view_is) in
    seeking_inner c.args.at c.args.sought c.words.sought c.args.self.now c.words.self mid _ _ _ c.words.invariant c.in_ok-word.word c.in_ok-word.ensures.gets c.in_ok-word.ensures.lower c.pass_inner.new.self
    (lt-leb (length mid.conditionals) (c.args.at + 1) lt) c.pass_inner.ensures

pub words-preserved : goal.words-preserved
words-preserved g c =
    let mid = c.skipped.new.self in
    let le : length mid.conditionals ≤ c.args.at + 1 = omega (arith, c.if-saturating_sub-gt1.false, c.saturating_sub.ensures, c.len.ensures, ap (λ (h : Held). length h.conditionals) c.self.view_is) in
    seeking_passes c.args.at c.args.sought c.words.sought c.args.self.now c.words.self mid _ _ _ c.words.invariant c.in_ok-word.word c.in_ok-word.ensures.gets c.in_ok-word.ensures.lower c.in-Passes.next
    (le-leb (length mid.conditionals) (c.args.at + 1) le) (sym c.meets.ensures ∙ c.in-Passes.is)

pub returns-in-Ends-clause-gets : goal.returns-in-Ends-clause-gets
returns-in-Ends-clause-gets g c =
    let mid = c.skipped.new.self in
    let le : length mid.conditionals ≤ c.args.at + 1 = omega (arith, c.if-saturating_sub-gt1.false, c.saturating_sub.ensures, c.len.ensures, ap (λ (h : Held). length h.conditionals) c.self.view_is) in
    seeking_ends c.args.at c.args.sought c.words.sought c.args.self.now c.words.self mid _ _ _ c.words.invariant c.in_ok-word.word c.in_ok-word.ensures.gets c.in_ok-word.ensures.lower c.close.new.self
    (le-leb (length mid.conditionals) (c.args.at + 1) le) (sym c.meets.ensures ∙ c.in-Ends.is) c.close.ensures

pub returns-in-Chooses-clause-gets : goal.returns-in-Chooses-clause-gets
returns-in-Chooses-clause-gets g c =
    let mid = c.skipped.new.self in
    let le : length mid.conditionals ≤ c.args.at + 1 = omega (arith, c.if-saturating_sub-gt1.false, c.saturating_sub.ensures, c.len.ensures, ap (λ (h : Held). length h.conditionals) c.self.view_is) in
    seeking_chooses c.args.at c.args.sought c.words.sought c.args.self.now c.words.self mid _ _ _ c.words.invariant c.in_ok-word.word c.in_ok-word.ensures.gets c.in_ok-word.ensures.lower c.in-Chooses.limit c.bound.new.self
    (le-leb (length mid.conditionals) (c.args.at + 1) le) (sym c.meets.ensures ∙ c.in-Chooses.is) c.bound.ensures

pub returns-in-Forbidden-clause-gets : goal.returns-in-Forbidden-clause-gets
returns-in-Forbidden-clause-gets g c =
    let mid = c.skipped.new.self in
    let le : length mid.conditionals ≤ c.args.at + 1 = omega (arith, c.if-saturating_sub-gt1.false, c.saturating_sub.ensures, c.len.ensures, ap (λ (h : Held). length h.conditionals) c.self.view_is) in
    seeking_forbids c.args.at c.args.sought c.words.sought c.args.self.now c.words.self mid _ _ _ c.words.invariant c.in_ok-word.word c.in_ok-word.ensures.gets c.in_ok-word.ensures.lower c.bare_fault.result c.bare_fault.new.self
    (le-leb (length mid.conditionals) (c.args.at + 1) le) (sym c.meets.ensures ∙ c.in-Forbidden.is) c.bare_fault.ensures.is c.bare_fault.ensures.kept

pub words-smaller : goal.words-smaller
words-smaller g c = let s = c.in_ok-word.ensures.lower.room c.in_ok-word.ensures.begun in omega arith
