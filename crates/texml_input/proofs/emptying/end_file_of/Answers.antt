use Rattle.std.proofs.Common.{◌≡◌, ◌+◌, ◌-◌, ◌<◌, [], length, get_or, set, drop, sym, ap, ◌∙◌, subst, arith}
use Rattle.std.proofs.lemmas.List.{set-get_or}
use Rattle.texml_input.specs.Held.{ids_of, end_first}
use Rattle.texml_input.specs.Inside.{sources_of}
use Rattle.texml_input.proofs.Sources.{ended_at, none_behind, no_file, end_first_none}
use Rattle.texml_input.proofs.emptying.end_file_of.Goals as goal

pub returns-in-File : goal.returns-in-File
returns-in-File c =
    let i = c.loop-at.at - 1 in
    let next : c.loop-at.at ≡ i + 1 = omega arith in
    let lt : i < length c.loop-at.frames.items = omega (arith, c.loop-at.frames.ok.0) in
    ended_at c.loop-at.frames.items i c.in-File.file c.end.new.self lt (sym c.in-File.is ∙ c.index_mut.ensures.value ∙ ap (get_or c.loop-at.frames.items i) c.in-File.is)
    (subst (λ n. ids_of (sources_of (drop n c.loop-at.frames.items)) ≡ []) next c.loop-at.invariant.none) c.end.ensures
    ∙ ap (λ l. end_first (sources_of l)) c.loop-at.invariant.same

pub loop-at-preserved : goal.loop-at-preserved
loop-at-preserved c =
    let i = c.loop-at.at - 1 in
    let next : c.loop-at.at ≡ i + 1 = omega arith in
    let lt : i < length c.loop-at.frames.items = omega (arith, c.loop-at.frames.ok.0) in
    let same = ap (set c.loop-at.frames.items i) c.index_mut.ensures.value ∙ set-get_or c.loop-at.frames.items i c.index_mut.result.now in
    record {
      within = omega arith;
      same = same ∙ c.loop-at.invariant.same;
      none = ap (λ l. ids_of (sources_of (drop i l))) same
          ∙ none_behind c.loop-at.frames.items i c.index_mut.result.now lt c.index_mut.ensures.value (no_file c.index_mut.result.now c.in_default.not-File)
          (subst (λ n. ids_of (sources_of (drop n c.loop-at.frames.items)) ≡ []) next c.loop-at.invariant.none);
    }

pub returns : goal.returns
returns c =
    let zero : c.loop-at.at ≡ 0 = omega arith in
    let none : ids_of (sources_of c.loop-at.frames.items) ≡ [] = subst (λ n. ids_of (sources_of (drop n c.loop-at.frames.items)) ≡ []) zero c.loop-at.invariant.none in
    sym (end_first_none (sources_of c.loop-at.frames.items) none) ∙ ap (λ l. end_first (sources_of l)) c.loop-at.invariant.same
