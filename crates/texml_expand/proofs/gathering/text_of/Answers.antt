use Rattle.std.proofs.Common.{[], ◌∷◌, take, ◌++◌, sym, ap, ap₂, ◌∙◌, subst}
use Rattle.std.proofs.lemmas.List.{map-append, map_more, take_all}
use Rattle.std.proofs.lemmas.List.Elements.{All-nil, All-cons, All-append, All-get_or}
use Rattle.std.specs.List.{All}
use Rattle.std.specs.Char.{IsScalar}
use Rattle.texml_token.specs.Numbers.{token_at, tokens_at, TokenWithin}
use Rattle.texml_expand.specs.Names.{char_code, text_of}
use Rattle.texml_expand.proofs.gathering.text_of.Goals as goal

pub loop-token-preserved : goal.loop-token-preserved
loop-token-preserved c =
    let list = c.args.list.now in
    let i = c.loop-token.token-index in
    let x = c.char_code.result in
    record {
      is = λ texts.
          c.in_ok-push.ensures.ok ∙ ap₂ (λ xs y. xs ++ y ∷ []) (c.loop-token.invariant.is texts) (c.char_code.ensures.is texts)
          ∙ sym (ap text_of (map_more (token_at texts) list i _ c.loop-token-test.true) ∙ map-append char_code (tokens_at texts (take i list)) _);
      scalars = λ count h.
          subst (All IsScalar) (sym c.in_ok-push.ensures.ok)
          (All-append IsScalar c.loop-token.line (x ∷ []) (c.loop-token.invariant.scalars count h) (All-cons IsScalar x [] (c.char_code.ensures.scalar count (All-get_or (TokenWithin count) list i _ c.loop-token-test.true h)) (All-nil IsScalar)));
    }

pub returns-clause-is : goal.returns-clause-is
returns-clause-is c = λ texts. c.loop-token.invariant.is texts ∙ ap (λ l. text_of (tokens_at texts l)) (take_all c.loop-token.token-index c.args.list.now c.loop-token-test.false)
