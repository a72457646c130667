-- What is left of a keyword, by how many letters were seen: what these were doesn't matter.
use Rattle.std.specs.Prelude.{ℕ, ◌+◌, Bool, true, false, List, ◌∷◌, ◌++◌, drop, replicate, if◌then◌else◌, ◌==◌}
use Rattle.texml_scan.specs.declared.looks.Look.{Look}
use Rattle.texml_scan.specs.declared.looks.Look.TheVariants.{End}
use Rattle.texml_scan.specs.declared.keyword.KeywordScan.{KeywordScan}
use Rattle.texml_scan.specs.declared.keyword.Letter.{Letter}
use Rattle.texml_scan.specs.declared.keyword.Letter.TheVariants.{Skipped, Next, Whole, Missing}
use Rattle.texml_scan.specs.Grammar.{Text, Gives, verdict, Remainder}
use Rattle.texml_scan.specs.Keyword.{letters, keyword}

abbrev pub keyword_at : ℕ → List ℕ → Text Bool
keyword_at k cs more = if k == 0 then keyword cs more else letters (drop k cs) (replicate k End ++ more) more

-- what was found in the place of a letter
abbrev pub lettered : Letter → ℕ → List ℕ → Look → Text Bool
lettered Skipped k cs x more = keyword_at k cs more
lettered Next k cs x more = letters (drop (k + 1) cs) (replicate k End ++ x ∷ more) more
lettered Whole k cs x more = Gives true more
lettered Missing k cs x more = Gives false (replicate k End ++ x ∷ more)

abbrev pub keyword_rest : KeywordScan → Remainder Bool
keyword_rest s more = verdict (keyword_at s.at s.word.now more)
