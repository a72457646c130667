use Rattle.std.proofs.Common.{◌≡◌, ◌++◌, take, encode_utf8_all}
use Rattle.std.specs.List.{flat_map}
use Rattle.texml_token.specs.Spelling.{shown_code}
use Rattle.texml_token.proofs.spelling.show_name.Given as goal

abbrev pub invariant-loop-code : goal.invariant-loop-code
invariant-loop-code l = l.into ≡ l.initial.into ++ flat_map (λ c. encode_utf8_all (shown_code c)) (take l.code-index l.text)
