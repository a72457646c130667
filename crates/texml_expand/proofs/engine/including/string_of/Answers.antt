use Rattle.std.proofs.Common.{◌∙◌, ◌++◌, ap, ap₂, sym, subst, take, take_all, append-nil, encode_utf8_all}
use Rattle.std.specs.List.{All}
use Rattle.std.specs.Char.{IsScalar, encode_utf8}
use Rattle.std.proofs.lemmas.Str.{encodes-append}
use Rattle.std.proofs.lemmas.List.{take_more}
use Rattle.std.proofs.lemmas.List.Elements.{All-get_or}
use Rattle.texml_expand.proofs.engine.including.string_of.Goals as goal

pub unreachable-requires : goal.unreachable-requires
unreachable-requires c =
    let all = subst (All IsScalar) (sym c.as_slice-code-items.ensures) (c.in_ok-line.ensures.scalars c.requires.0 c.requires.1) in
    c.in-None.ensures.value (All-get_or IsScalar c.as_slice-code-items.result.now c.loop-code.code-index 0 c.loop-code-test.true all)

pub loop-code-preserved : goal.loop-code-preserved
loop-code-preserved c =
    let codes = c.as_slice-code-items.result.now in
    let i = c.loop-code.code-index in
    c.in_ok-push-in-Some.ensures.bytes ∙ ap₂ (λ bs x. bs ++ encode_utf8 x) c.loop-code.invariant c.in-Some.ensures.value.1
    ∙ ap (λ bs. encode_utf8_all (take i codes) ++ bs) (sym (append-nil _))
    ∙ sym (ap encode_utf8_all (take_more codes i 0 c.loop-code-test.true) ∙ encodes-append (take i codes) _)

pub returns : goal.returns
returns c = λ texts.
    c.loop-code.invariant
    ∙ ap encode_utf8_all (take_all c.loop-code.code-index c.as_slice-code-items.result.now c.loop-code-test.false ∙ c.as_slice-code-items.ensures ∙ c.in_ok-line.ensures.is texts)
