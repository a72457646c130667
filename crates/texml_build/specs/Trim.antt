-- What is left of the children of an element flagged `block`: a text that comes first loses the spaces it begins with, a
-- text that comes last those it ends with, and an empty text goes.
use Rattle.std.specs.Prelude.{ℕ, ◌==◌, Bool, true, false, List, [], ◌∷◌, ◌++◌, reverse, if◌then◌else◌}
use Rattle.texml_tree.specs.Tree.{Tree, text, element}

-- the text without the spaces at its start, and at its end
abbrev pub strip_start : List ℕ → List ℕ
strip_start [] = []
strip_start (c ∷ cs) = if c == 32 then strip_start cs else c ∷ cs

abbrev pub strip_end : List ℕ → List ℕ
strip_end t = reverse (strip_start (reverse t))

-- a text is a child where it isn't empty
abbrev pub texts : List ℕ → List Tree
texts [] = []
texts (c ∷ cs) = text (c ∷ cs) ∷ []

abbrev pub trim_first : List Tree → List Tree
trim_first [] = []
trim_first (text t ∷ rest) = texts (strip_start t) ++ rest
trim_first (element h kids ∷ rest) = element h kids ∷ rest

abbrev pub trim_one : Tree → List Tree
trim_one (text t) = texts (strip_end t)
trim_one (element h kids) = element h kids ∷ []

abbrev pub trim_after : Tree → List Tree → List Tree
trim_after x [] = trim_one x
trim_after x (y ∷ ys) = x ∷ trim_after y ys

abbrev pub trim_last : List Tree → List Tree
trim_last [] = []
trim_last (x ∷ xs) = trim_after x xs

abbrev pub trimmed : Bool → List Tree → List Tree
trimmed false kids = kids
trimmed true kids = trim_last (trim_first kids)
