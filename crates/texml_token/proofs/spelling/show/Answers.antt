use Rattle.std.proofs.Common.{rules, arith, length, ◌≡◌, take_all, ap, ◌∙◌, sym, encode_utf8_all}
use Rattle.std.specs.List.{flat_map}
use Rattle.texml_token.specs.Spelling.{shown, shown_token}
use Rattle.texml_token.specs.Numbers.{token_at, tokens_at}
use Rattle.texml_token.proofs.Writing.{encodes_flat_map_at}
use Rattle.texml_token.proofs.spelling.show.Goals as goal

pub returns-clause-ok : goal.returns-clause-ok
returns-clause-ok c =
    let listed : c.as_slice-token-items.result.now ≡ c.args.list.now = c.as_slice-token-items.ensures in
    let written : c.as_slice.result.now ≡ encode_utf8_all (shown (tokens_at c.args.names.now c.args.list.now)) =
    c.as_slice.ensures ∙ (c.loop-token.invariant ∙
    (ap (flat_map (λ t. encode_utf8_all (shown_token (token_at c.args.names.now t)))) (take_all c.loop-token.token-index c.args.list.now (omega (arith, ap length listed))) ∙
    sym (encodes_flat_map_at shown_token (token_at c.args.names.now) c.args.list.now))) in
    search (rules, written)
