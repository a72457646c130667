use Rattle.std.proofs.Common.{◌++◌, FitsSigned, w32, rules, sym, ap, ◌∙◌, subst}
use Rattle.std.proofs.lemmas.Int.{to_z-of_z}
use Rattle.std.specs.Prelude.{encode_utf8_all}
use Rattle.std.specs.Str.{IsUtf8, chars}
use Rattle.texml_token.specs.Spelling.{spelled}
use Rattle.texml_token.specs.Numbers.{token_at}
use Rattle.texml_token.proofs.Scalar.{spelled_scalar}
use Rattle.texml_expand.proofs.Spelled.{characters_utf8, characters_back}
use Rattle.texml_expand.proofs.Printing.{written}
use Rattle.texml_expand.proofs.engine.names.spelled.Goals as goal

pub unreachable-requires : goal.unreachable-requires
unreachable-requires c =
    let texts = c.args.names.now in
    let fits : FitsSigned w32 c.args.escape = search rules in
    let cs = spelled c.args.escape (token_at texts c.args.token) in
    let same = c.as_slice.ensures ∙ c.in_ok-spell.ensures.ok ∙ ap (λ e. c.new-text.result ++ encode_utf8_all (spelled e (token_at texts c.args.token))) (to_z-of_z w32 c.args.escape fits) ∙ ap (λ t. t ++ encode_utf8_all cs) c.new-text.ensures in
    c.in-Err.ensures.cases.0 (subst IsUtf8 (sym same) (characters_utf8 cs (spelled_scalar texts c.given-given.ensures.scalars c.args.escape c.args.token c.requires)))

pub returns-clause-is : goal.returns-clause-is
returns-clause-is c =
    let texts = c.args.names.now in
    let fits : FitsSigned w32 c.args.escape = search rules in
    let cs = spelled c.args.escape (token_at texts c.args.token) in
    let same = c.as_slice.ensures ∙ c.in_ok-spell.ensures.ok ∙ ap (λ e. c.new-text.result ++ encode_utf8_all (spelled e (token_at texts c.args.token))) (to_z-of_z w32 c.args.escape fits) ∙ ap (λ t. t ++ encode_utf8_all cs) c.new-text.ensures in
    let text = c.deref.ensures.value ∙ c.in_ok-text-in-Ok.ensures ∙ ap chars (c.in-Ok.ensures.cases.0 ∙ same) in
    written c.printed_text.result _ _ (text ∙ characters_back cs (spelled_scalar texts c.given-given.ensures.scalars c.args.escape c.args.token c.requires)) c.printed_text.ensures.is
