use Rattle.std.proofs.Common.{◌≡◌, Bool, true, false, if◌then◌else◌, List, [], ◌∷◌, ◌++◌, take, get_or, refl, sym, ap, ◌∙◌, subst}
use Rattle.std.proofs.lemmas.List.{map_more, take_all}
use Rattle.std.proofs.lemmas.List.Elements.{All-get_or}
use Rattle.texml_token.specs.Token.{Token, has_category}
use Rattle.texml_token.specs.declared.category.TheConstants.{SPACE}
use Rattle.texml_token.specs.declared.tokens.Token.TheVariants.{Char}
use Rattle.texml_token.specs.Numbers.{token_at, tokens_at, TokenWithin, TokensWithin}
use Rattle.texml_expand.specs.Gathering.{file_part}
use Rattle.texml_expand.specs.Fronts.{behind_spaces}
use Rattle.texml_expand.proofs.gathering.Gathered.file_part.Goals as goal

-- one more token
more_by : (b : Bool) (x : Token) (xs : List Token) (t : Token) → file_part (xs ++ t ∷ []) ≡ behind_spaces (file_part xs) t
    → (if b then file_part (xs ++ t ∷ []) else x ∷ xs ++ t ∷ []) ≡ behind_spaces (if b then file_part xs else x ∷ xs) t
more_by true x xs t h = h
more_by false x xs t h = refl

file_more : (xs : List Token) (t : Token) → file_part (xs ++ t ∷ []) ≡ behind_spaces (file_part xs) t
file_more [] t = refl
file_more (x ∷ xs) t = more_by (has_category SPACE x) x xs t (file_more xs t)

pub loop-token-preserved : goal.loop-token-preserved
loop-token-preserved c =
    let list = c.as_slice-token-items.result.now in
    let i = c.loop-token.token-index in
    record {
      is = λ texts.
          c.in_ok-push_behind_spaces.ensures.is texts ∙ ap (λ xs. behind_spaces xs (token_at texts (get_or list i (Char 0 0)))) (c.loop-token.invariant.is texts)
          ∙ sym (ap file_part (map_more (token_at texts) list i (Char 0 0) c.loop-token-test.true) ∙ file_more (tokens_at texts (take i list)) (token_at texts (get_or list i (Char 0 0))));
      within = λ count h. c.in_ok-push_behind_spaces.ensures.within count (All-get_or (TokenWithin count) list i (Char 0 0) c.loop-token-test.true h) (c.loop-token.invariant.within count h);
    }

pub returns-clause-is : goal.returns-clause-is
returns-clause-is c = λ texts. c.loop-token.invariant.is texts ∙ ap (λ l. file_part (tokens_at texts l)) (take_all c.loop-token.token-index c.as_slice-token-items.result.now c.loop-token-test.false ∙ c.as_slice-token-items.ensures ∙ c.self.view_is)

pub returns-clause-within : goal.returns-clause-within
returns-clause-within c = λ count h. c.loop-token.invariant.within count (subst (TokensWithin count) (sym (c.as_slice-token-items.ensures ∙ c.self.view_is)) h)
