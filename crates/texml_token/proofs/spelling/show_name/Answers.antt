use Rattle.std.proofs.Common.{rules, take_all, ap, ◌∙◌, ◌≡◌, [], ◌∷◌, ◌++◌, encode_utf8_all}
use Rattle.std.specs.List.{flat_map}
use Rattle.texml_token.specs.Spelling.{name_end, shown_code}
use Rattle.texml_token.proofs.Writing.{name_written, space_written}
use Rattle.texml_token.proofs.spelling.show_name.Goals as goal

pub returns-in_ok-push-2 : goal.returns-in_ok-push-2
returns-in_ok-push-2 c =
    let all : c.loop-code.into ≡ c.push.new.self ++ flat_map (λ k. encode_utf8_all (shown_code k)) c.args.text.now =
    c.loop-code.invariant ∙ ap (λ ks. c.push.new.self ++ flat_map (λ k. encode_utf8_all (shown_code k)) ks) (take_all c.loop-code.code-index c.args.text.now c.loop-code-test.false) in
    let space : name_end c.args.text.now ≡ 32 ∷ [] = search rules in
    name_written c.args.into.now c.push.new.self c.loop-code.into _ c.args.text.now c.in_ok-push.ensures.ok all (c.in_ok-push-2.ensures.ok ∙ ap (λ bs. c.loop-code.into ++ bs) (space_written c.args.text.now space))
