use Rattle.std.proofs.Common.{◌≡◌, take, encode_utf8_all}
use Rattle.std.specs.List.{flat_map}
use Rattle.texml_token.specs.Spelling.{shown_token}
use Rattle.texml_token.specs.Numbers.{token_at}
use Rattle.texml_token.proofs.spelling.show.Given as goal

abbrev pub invariant-loop-token : goal.invariant-loop-token
invariant-loop-token l = l.text ≡ flat_map (λ t. encode_utf8_all (shown_token (token_at l.names t))) (take l.token-index l.list)
