-- The names that make a conditional, as private contracts say it.
use Rattle.std.specs.Prelude.{◌≡◌, ℕ, List, ◌++◌, length, codes}
use Rattle.texml_token.specs.Numbers.{Table}
use Rattle.texml_token.specs.declared.tokens.Name.{Name as NameCode}
use Rattle.texml_scope.specs.Numbers.{name_text, IsGiven}
use Rattle.texml_assign.specs.declared.new_if.ConditionalNames.{ConditionalNames}

-- a given name has this text
abbrev pub IsName : Table → List ℕ → NameCode → Type 0
IsName texts text n = IsGiven (length texts) n × (name_text texts n ≡ text)

pub record AreNames (texts : Table) (part : List ℕ) (n : ConditionalNames) : Type 0 where
  pub test : IsName texts (codes "if" ++ part) n.test
  pub set_true : IsName texts (part ++ codes "true") n.set_true
  pub set_false : IsName texts (part ++ codes "false") n.set_false
  pub lets : IsName texts (codes "let") n.lets
  pub if_true : IsName texts (codes "if" ++ codes "true") n.if_true
  pub if_false : IsName texts (codes "if" ++ codes "false") n.if_false
