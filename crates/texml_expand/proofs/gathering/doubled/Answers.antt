use Rattle.std.proofs.Common.{◌≡◌, List, [], ◌∷◌, ◌++◌, take, get_or, sym, ap, ◌∙◌, append-nil}
use Rattle.std.proofs.lemmas.List.{map_more, take_all}
use Rattle.std.proofs.lemmas.List.Elements.{All-get_or}
use Rattle.std.proofs.lemmas.Grind.{flat_map-append}
use Rattle.texml_token.specs.Token.{Token}
use Rattle.texml_token.specs.declared.tokens.Token.TheVariants.{Char}
use Rattle.texml_token.specs.Numbers.{token_at, tokens_at, TokenWithin}
use Rattle.texml_expand.specs.Gathering.{doubled_token, doubled}
use Rattle.texml_expand.proofs.gathering.doubled.Goals as goal

doubled_more : (list : List Token) (t : Token) → doubled (list ++ t ∷ []) ≡ doubled list ++ doubled_token t
doubled_more list t = flat_map-append doubled_token list (t ∷ []) ∙ ap (λ x. doubled list ++ x) (append-nil (doubled_token t))

pub loop-token-preserved : goal.loop-token-preserved
loop-token-preserved c =
    let list = c.args.list.now in
    let i = c.loop-token.token-index in
    record {
      is = λ texts.
          c.in_ok-push_doubled.ensures.is texts ∙ ap (λ xs. xs ++ doubled_token (token_at texts (get_or list i (Char 0 0)))) (c.loop-token.invariant.is texts)
          ∙ sym (ap doubled (map_more (token_at texts) list i (Char 0 0) c.loop-token-test.true) ∙ doubled_more (tokens_at texts (take i list)) (token_at texts (get_or list i (Char 0 0))));
      within = λ count h. c.in_ok-push_doubled.ensures.within count (All-get_or (TokenWithin count) list i (Char 0 0) c.loop-token-test.true h) (c.loop-token.invariant.within count h);
    }

pub returns-clause-is : goal.returns-clause-is
returns-clause-is c = λ texts. c.loop-token.invariant.is texts ∙ ap (λ l. doubled (tokens_at texts l)) (take_all c.loop-token.token-index c.args.list.now c.loop-token-test.false)
