use Rattle.std.proofs.Common.{◌≡◌, slice_index_or, rules, [], ◌∷◌, ◌++◌, sym, ap, ap₂, ◌∙◌, subst}
use Rattle.std.proofs.lemmas.List.{map-append, map_more, take_all}
use Rattle.std.proofs.lemmas.List.Elements.{All-nil, All-cons, All-append}
use Rattle.texml_token.specs.Numbers.{token_at, tokens_at, TokenWithin, TokensWithin}
use Rattle.texml_expand.specs.Printed.{printed_char, printed_tokens}
use Rattle.texml_expand.proofs.printed.tokens_of.Goals as goal

pub loop-code-preserved : goal.loop-code-preserved
loop-code-preserved c =
    let text = c.args.text.now in
    let i = c.loop-code.code-index in
    let t = c.printed_char.result in
    let same : c.from.result ≡ slice_index_or text i 0 = search rules in
    record {
      is = λ texts.
          ap (tokens_at texts) c.in_ok-push.ensures.ok ∙ map-append (token_at texts) c.loop-code.list (t ∷ [])
          ∙ ap₂ (λ xs x. xs ++ x ∷ []) (c.loop-code.invariant.is texts) (c.printed_char.ensures.is texts ∙ ap printed_char same) ∙ sym (map_more printed_char text i 0 c.loop-code-test.true);
      within = λ count.
          subst (TokensWithin count) (sym c.in_ok-push.ensures.ok)
          (All-append (TokenWithin count) c.loop-code.list (t ∷ []) (c.loop-code.invariant.within count) (All-cons (TokenWithin count) t [] (c.printed_char.ensures.within count) (All-nil (TokenWithin count))));
    }

pub returns-clause-is : goal.returns-clause-is
returns-clause-is c = λ texts. c.loop-code.invariant.is texts ∙ ap printed_tokens (take_all c.loop-code.code-index c.args.text.now c.loop-code-test.false)
