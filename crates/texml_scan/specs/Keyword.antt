-- Keywords (The TeXbook, chapter 24): spaces, then the letters in either case and of any category.
use Rattle.std.specs.Prelude.{ℕ, ◌+◌, Bool, true, false, List, [], ◌∷◌, if◌then◌else◌, ◌==◌, ◌||◌}
use Rattle.texml_scan.specs.declared.looks.Look.{Look}
use Rattle.texml_scan.specs.declared.looks.Look.TheVariants.{End, Character, Other}
use Rattle.texml_scan.specs.declared.looks.Turn.{Turn}
use Rattle.texml_scan.specs.declared.looks.Turn.TheVariants.{On, Stop}
use Rattle.texml_scan.specs.Looks.{is_space}
use Rattle.texml_scan.specs.Grammar.{Text, Wants, Gives, Expanded, ◌>>◌, while}

-- a small letter, or its capital
abbrev pub is_letter : ℕ → Look → Bool
is_letter c End = false
is_letter c (Character d k) = d == c || d + 32 == c
is_letter c (Other d q) = false

abbrev pub space_turn : Unit {0} → Look → Turn (Unit {0})
space_turn u x = if is_space x then On u else Stop

abbrev pub spaces : Text (Unit {0})
spaces = while space_turn tt

-- the letters of a word. Where one is missing, nothing of the whole list is taken
abbrev pub letters : List ℕ → List Look → Text Bool
letters [] whole xs = Gives true xs
letters (c ∷ cs) whole [] = Wants Expanded
letters (c ∷ cs) whole (x ∷ xs) = if is_letter c x then letters cs whole xs else Gives false whole

abbrev pub word : List ℕ → Text Bool
word cs xs = letters cs xs xs

-- spaces that were skipped stay skipped
abbrev pub keyword : List ℕ → Text Bool
keyword cs = do
  spaces
  word cs
