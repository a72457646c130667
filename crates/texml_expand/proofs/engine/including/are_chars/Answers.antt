use Rattle.std.proofs.Common.{◌∙◌, ◌&&◌, true, ap, ap₂, sym, take, take_all}
use Rattle.std.specs.List.{list_all}
use Rattle.std.proofs.lemmas.List.{map_more}
use Rattle.std.proofs.lemmas.List.Folds.{list_all-append, list_all_at, list_all-map}
use Rattle.texml_token.specs.Numbers.{token_at, tokens_at}
use Rattle.texml_expand.specs.Include.{is_char}
use Rattle.texml_expand.proofs.engine.including.are_chars.Goals as goal

pub loop-token-preserved : goal.loop-token-preserved
loop-token-preserved c = λ texts.
    let list = c.args.list.now in
    let i = c.loop-token.token-index in
    ap (list_all is_char) (map_more (token_at texts) list i _ c.loop-token-test.true) ∙ list_all-append is_char (tokens_at texts (take i list)) _
    ∙ ap₂ (λ a b. a && (b && true)) (c.loop-token.invariant texts) (sym (c.is_char.ensures texts) ∙ c.if-not-is_char.false)

pub returns-then-not-is_char : goal.returns-then-not-is_char
returns-then-not-is_char c = λ texts.
    let list = c.args.list.now in
    sym
    (list_all-map is_char (token_at texts) list
    ∙ list_all_at (λ t. is_char (token_at texts t)) list c.loop-token.token-index _ c.loop-token-test.true (sym (c.is_char.ensures texts) ∙ c.if-not-is_char.true))

pub returns : goal.returns
returns c = λ texts.
    sym (ap (λ l. list_all is_char (tokens_at texts l)) (sym (take_all c.loop-token.token-index c.args.list.now c.loop-token-test.false)) ∙ c.loop-token.invariant texts)
