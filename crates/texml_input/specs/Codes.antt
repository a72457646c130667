-- The categories of characters and the end character, as a world has them (The TeXbook, chapters 7 and 8).
use Rattle.std.specs.Prelude.{ℕ, ℤ, pos, negsuc, Option, Some, None}
use Rattle.texml_token.specs.declared.category.TheConstants.{OTHER}
use Rattle.texml_scope.specs.declared.values.KeyOf.TheVariants.{Cat, EndLineChar}
use Rattle.texml_scope.specs.Values.{number_in}
use Rattle.texml_scope.specs.World.{WorldOf}
use Rattle.texml_text.specs.File.{character}

-- the category that a number is. The value of each character's key is one
abbrev pub category_of : Option ℤ → ℕ
category_of (Some (pos n)) = n
category_of (Some (negsuc n)) = OTHER
category_of None = OTHER

abbrev pub cats_of : {N T : Type 0} → WorldOf N T → ℕ → ℕ
cats_of w c = category_of (number_in (w.top (Cat c)))

-- the character of a number, if there is one, and it is the code of one
abbrev pub character_of : Option ℤ → Option ℕ
character_of (Some z) = character z
character_of None = None

-- the character at the end of each line that is loaded: `\endlinechar`, where it is the code of one
abbrev pub end_of : {N T : Type 0} → WorldOf N T → Option ℕ
end_of w = character_of (number_in (w.top EndLineChar))
