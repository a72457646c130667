-- The tokens of a group in braces (The TeXbook, chapter 20).
use Rattle.std.specs.Prelude.{◌+◌, ◌-◌, ◌==◌, Bool, List, length, take, if◌then◌else◌}
use Rattle.std.specs.List.{count_by}
use Rattle.texml_token.specs.Token.{Token, has_category}
use Rattle.texml_token.specs.declared.category.TheConstants.{BEGIN_GROUP, END_GROUP}
use Rattle.texml_expand.specs.declared.feeding.Verdict.{Verdict}
use Rattle.texml_expand.specs.declared.feeding.Verdict.TheVariants.{TooShort, Yields}

-- behind a begun group: one more group was ended in these tokens than begun
abbrev pub closes : List Token → Bool
closes list = count_by (has_category END_GROUP) list == count_by (has_category BEGIN_GROUP) list + 1

-- the tokens before the last one, where that closes the group
abbrev pub absorbed : List Token → Verdict (List Token)
absorbed list = if closes list then Yields (take (length list - 1) list) else TooShort
