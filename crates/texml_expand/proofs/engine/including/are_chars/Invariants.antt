use Rattle.std.proofs.Common.{◌≡◌, true, take}
use Rattle.std.specs.List.{list_all}
use Rattle.texml_token.specs.Numbers.{Table, tokens_at}
use Rattle.texml_expand.specs.Include.{is_char}
use Rattle.texml_expand.proofs.engine.including.are_chars.Given as goal

abbrev pub invariant-loop-token : goal.invariant-loop-token
invariant-loop-token l = (texts : Table) → list_all is_char (tokens_at texts (take l.token-index l.list)) ≡ true
