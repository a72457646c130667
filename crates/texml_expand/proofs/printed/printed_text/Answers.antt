use Rattle.std.proofs.Common.{[], ◌∷◌, ◌++◌, sym, ap, ap₂, ◌∙◌, subst}
use Rattle.std.proofs.lemmas.List.{map-append, map_more, take_all}
use Rattle.std.proofs.lemmas.List.Elements.{All-nil, All-cons, All-append}
use Rattle.texml_token.specs.Numbers.{token_at, tokens_at, TokenWithin, TokensWithin}
use Rattle.texml_expand.specs.Printed.{printed_char, printed_tokens}
use Rattle.texml_expand.proofs.printed.printed_text.Goals as goal

pub loop-c-preserved : goal.loop-c-preserved
loop-c-preserved c =
    let text = c.args.text.now in
    let i = c.loop-c.c-index in
    let t = c.printed_char.result in
    record {
      is = λ texts.
          ap (tokens_at texts) c.in_ok-push.ensures.ok ∙ map-append (token_at texts) c.loop-c.list (t ∷ [])
          ∙ ap₂ (λ xs x. xs ++ x ∷ []) (c.loop-c.invariant.is texts) (c.printed_char.ensures.is texts ∙ ap printed_char c.c-item.is) ∙ sym (map_more printed_char text i c.c-item.result c.loop-c-test.true);
      within = λ count.
          subst (TokensWithin count) (sym c.in_ok-push.ensures.ok)
          (All-append (TokenWithin count) c.loop-c.list (t ∷ []) (c.loop-c.invariant.within count) (All-cons (TokenWithin count) t [] (c.printed_char.ensures.within count) (All-nil (TokenWithin count))));
    }

pub returns-clause-is : goal.returns-clause-is
returns-clause-is c = λ texts. c.loop-c.invariant.is texts ∙ ap printed_tokens (take_all c.loop-c.c-index c.args.text.now c.loop-c-test.false)
