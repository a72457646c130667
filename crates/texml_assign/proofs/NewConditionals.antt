-- New conditionals have one answer, and leave no more to be read.
use Rattle.std.proofs.Common.{◌≡◌, ◌≤◌, ℕ, zero, suc, List, [], ◌∷◌, ◌++◌, map, codes, false, Option, Some, None, refl, sym, ap, ap₂, subst, ◌∙◌, arith}
use Rattle.std.specs.List.{All}
use Rattle.std.proofs.lemmas.List.Elements.{All-head, All-tail, All-map}
use Rattle.texml_token.specs.Numbers.{Table, Extends, name_at, text_at, token_at, BodyWithin, BodyTokenWithin}
use Rattle.texml_token.specs.declared.tokens.Name.{Name as NameCode}
use Rattle.texml_token.specs.declared.tokens.Token.{Token as TokenCode}
use Rattle.texml_token.specs.declared.tokens.Token.TheVariants as tokens
use Rattle.texml_scope.specs.Numbers.{name_text, meaning_at, IsGiven, MacroWithin}
use Rattle.texml_scope.specs.Values.{plain_macro, Macro as MacroBy}
use Rattle.texml_scope.specs.declared.values.MeaningOf.TheVariants.{Macro}
use Rattle.texml_token.specs.Token.{Token, Named}
use Rattle.texml_scope.specs.declared.values.KeyOf.TheVariants.{Name}
use Rattle.texml_expand.specs.State.{change}
use Rattle.texml_expand.specs.Take.{means}
use Rattle.texml_assign.specs.declared.new_if.ConditionalNames.{ConditionalNames}
use Rattle.texml_assign.specs.ConditionalNames.{IsName, AreNames}
use Rattle.texml_assign.specs.Sets.{assign}
use Rattle.texml_assign.specs.Operands.{next_token}
use Rattle.texml_assign.specs.NewIf.{part_in, needed_part, let_name, define_name, set_to, conditional, new_if_of, new_if}
use Rattle.texml_assign.proofs.Readings.{Plain, plain_give, plain_fail, plain_by, plain_then}
use Rattle.texml_assign.proofs.Parts.{plain_next, plain_assign}
use Rattle.texml_assign.proofs.NewCommands.{command_within}

pub plain_needed_part : (o : Option (List ℕ)) → Plain (needed_part o)
plain_needed_part None = plain_fail _ _ _
plain_needed_part (Some part) = plain_give part

pub plain_let_name : (name other : List ℕ) → Plain (change (let_name name other))
plain_let_name name other = plain_by (λ s. means s.world (Named other)) (λ m. change (assign false (Name name) m)) (λ m. plain_assign false (Name name) m)

pub plain_set_to : (truth part : List ℕ) → Plain (change (set_to truth part))
plain_set_to truth part = plain_assign false (Name (part ++ truth)) _

pub plain_conditional : (part : List ℕ) → Plain (conditional part)
plain_conditional part =
    plain_then (change (let_name (codes "if" ++ part) (codes "if" ++ codes "false"))) _ (plain_let_name (codes "if" ++ part) (codes "if" ++ codes "false"))
    (λ _. plain_then (change (set_to (codes "true") part)) (λ _. change (set_to (codes "false") part)) (plain_set_to (codes "true") part) (λ _. plain_set_to (codes "false") part))

pub plain_new_if_of : (t : Token) → Plain (new_if_of t)
plain_new_if_of t = plain_then (needed_part (part_in t)) conditional (plain_needed_part (part_in t)) plain_conditional

pub plain_new_if : Plain new_if
plain_new_if = plain_then next_token new_if_of plain_next plain_new_if_of

-- Names

-- what a given name stands for
pub name_named : (texts : Table) (n : ℕ) → 1 ≤ n → name_at texts n ≡ Named (text_at texts n)
name_named texts zero le = absurd (omega (arith, le))
name_named texts (suc n) le = refl

pub tokens_named : (texts : Table) (count : ℕ) (names : List NameCode) → All (IsGiven count) names → map (token_at texts) (map tokens.Named names) ≡ map Named (map (name_text texts) names)
tokens_named texts count [] h = refl
tokens_named texts count (n ∷ names) h =
    ap₂ (λ t list. t ∷ list) (name_named texts n.0 (All-head (IsGiven count) n names h).0) (tokens_named texts count names (All-tail (IsGiven count) n names h))

pub body_named : (count : ℕ) (names : List NameCode) → All (IsGiven count) names → BodyWithin count 0 (map tokens.Named names)
body_named count names h = All-map (BodyTokenWithin count 0) tokens.Named names (λ k d lt. (h k d lt).1)

-- a macro of these names
pub plain_within : (count : ℕ) (names : List NameCode) → All (IsGiven count) names → (made : MacroBy TokenCode) (body : List TokenCode) → body ≡ map tokens.Named names → made ≡ plain_macro body → MacroWithin count made
plain_within count names h made body b m =
    subst (MacroWithin count) (sym (m ∙ ap plain_macro b)) (command_within count false 0 None (map tokens.Named names) (omega arith) tt tt (body_named count names h))

pub plain_named : (texts : Table) (count : ℕ) (names : List NameCode) → All (IsGiven count) names → (made : MacroBy TokenCode) (body : List TokenCode) → body ≡ map tokens.Named names → made ≡ plain_macro body
    → meaning_at texts (Macro made) ≡ Macro (plain_macro (map Named (map (name_text texts) names)))
plain_named texts count names h made body b m =
    ap (λ (k : MacroBy TokenCode). meaning_at texts (Macro k)) (m ∙ ap plain_macro b) ∙ ap (λ l. Macro (plain_macro l)) (tokens_named texts count names h)

-- names stay as the table grows
pub name_stays : (old new : Table) (text : List ℕ) (n : NameCode) → Extends old new → IsName old text n → IsName new text n
name_stays old new text n g h = ((h.0.0, omega (arith, h.0.1, g.longer)), g.texts n.0 h.0.1 ∙ h.1)

pub names_stay : (old new : Table) (part : List ℕ) (n : ConditionalNames) → Extends old new → AreNames old part n → AreNames new part n
names_stay old new part n g h = record {
  test = name_stays old new _ n.test g h.test;
  set_true = name_stays old new _ n.set_true g h.set_true;
  set_false = name_stays old new _ n.set_false g h.set_false;
  lets = name_stays old new _ n.lets g h.lets;
  if_true = name_stays old new _ n.if_true g h.if_true;
  if_false = name_stays old new _ n.if_false g h.if_false;
}

-- what the names of a conditional change
module _ (texts : Table) (part : List ℕ) (n : ConditionalNames) (h : AreNames texts part n) where
  pub let_named : let_name (name_text texts n.test) (name_text texts n.if_false) ≡ let_name (codes "if" ++ part) (codes "if" ++ codes "false")
  let_named = λ i. let_name (h.test.1 i) (h.if_false.1 i)

  pub true_named : define_name (name_text texts n.set_true) (map (name_text texts) (n.lets ∷ n.test ∷ n.if_true ∷ [])) ≡ set_to (codes "true") part
  true_named = λ i. define_name (h.set_true.1 i) (h.lets.1 i ∷ h.test.1 i ∷ h.if_true.1 i ∷ [])

  pub false_named : define_name (name_text texts n.set_false) (map (name_text texts) (n.lets ∷ n.test ∷ n.if_false ∷ [])) ≡ set_to (codes "false") part
  false_named = λ i. define_name (h.set_false.1 i) (h.lets.1 i ∷ h.test.1 i ∷ h.if_false.1 i ∷ [])
