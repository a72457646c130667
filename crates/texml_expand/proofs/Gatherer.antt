-- What is decided on tokens that are gathered, and what is taken at once of what \the gives, by the code's numbers.
use Rattle.std.proofs.Common.{◌≡◌, ◌-◌, ℕ, zero, suc, Result, Ok, Err, Bool, true, false, if◌then◌else◌, List, [], ◌∷◌, ◌++◌, length, take, refl, sym, ap, ◌∙◌, subst}
use Rattle.std.specs.Result.{IfOk}
use Rattle.std.proofs.lemmas.List.Elements.{All-nil}
use Rattle.texml_token.specs.Token.{Token}
use Rattle.texml_token.specs.Numbers.{Table, name_at, token_at, tokens_at, TokenWithin, TokensWithin}
use Rattle.texml_token.specs.declared.tokens.Token.TheVariants as tokens
use Rattle.texml_token.specs.declared.tokens.Token.{Token as TokenCode}
use Rattle.texml_token.specs.declared.fault_code.TheConstants.{FILE_ENDED, MISSING_ENDCSNAME}
use Rattle.texml_input.specs.declared.fault.Read.{Read}
use Rattle.texml_scope.specs.Texts.{World}
use Rattle.texml_scope.specs.Numbers.{MeaningCode, meaning_at}
use Rattle.texml_expand.specs.Take.{means}
use Rattle.texml_expand.specs.declared.feeding.Verdict.TheVariants.{TooShort, Yields, Refuses}
use Rattle.texml_expand.specs.declared.gathering.Gathering.TheVariants.{Group}
use Rattle.texml_expand.specs.declared.internal.Internal.{Internal as InternalCode}
use Rattle.texml_expand.specs.declared.internal.Internal.TheVariants as internals
use Rattle.texml_expand.specs.declared.engine.gathering.Parts.{Parts}
use Rattle.texml_expand.specs.Fronts.{PartsWithin}
use Rattle.texml_expand.specs.Braces.{closes}
use Rattle.texml_expand.specs.Quantities.{shown}
use Rattle.texml_expand.specs.Gathering.{judged, of_name, ends_name, kept_of, returned}
use Rattle.texml_expand.specs.VariableCodes.{internal_at}
use Rattle.texml_expand.specs.Held.{read_at}
use Rattle.texml_expand.proofs.Least.{choose_yes, choose_no}
use Rattle.texml_expand.proofs.Groups.{pushed, without_last}

module _ (texts : Table) (w : World) (seen : List TokenCode) (r : Read) where
  group_by : (b : Bool) → r.crossed ≡ b → judged Group w (tokens_at texts seen) (read_at texts r) ≡ judged Group w (tokens_at texts seen) (record (read_at texts r) { crossed = b })
  group_by b e = ap (λ c. judged Group w (tokens_at texts seen) (record (read_at texts r) { crossed = c })) e

  -- behind the end of a text
  pub group_crossed : r.crossed ≡ true → Refuses FILE_ENDED ≡ judged Group w (tokens_at texts seen) (read_at texts r)
  group_crossed e = sym (group_by true e)

  pub group_closed : r.crossed ≡ false → true ≡ closes (tokens_at texts (seen ++ r.token ∷ [])) → Yields (tokens_at texts seen) ≡ judged Group w (tokens_at texts seen) (read_at texts r)
  group_closed e c =
      let list = tokens_at texts seen ++ token_at texts r.token ∷ [] in
      sym (group_by false e ∙ choose_yes (closes list) (Yields (take (length list - 1) list)) TooShort (ap closes (sym (pushed texts seen r.token)) ∙ sym c) ∙ ap Yields (without_last (tokens_at texts seen) (token_at texts r.token)))

  pub group_goes_on : r.crossed ≡ false → false ≡ closes (tokens_at texts (seen ++ r.token ∷ [])) → TooShort ≡ judged Group w (tokens_at texts seen) (read_at texts r)
  group_goes_on e c =
      let list = tokens_at texts seen ++ token_at texts r.token ∷ [] in
      sym (group_by false e ∙ choose_no (closes list) (Yields (take (length list - 1) list)) TooShort (ap closes (sym (pushed texts seen r.token)) ∙ sym c))

-- what isn't a character ends a name, or is refused
module _ (texts : Table) (w : World) (seen : List Token) where
  name_by : (n : ℕ) → of_name w seen (name_at texts n) ≡ (if ends_name (means w (name_at texts n)) then Yields seen else Refuses MISSING_ENDCSNAME)
  name_by zero = refl
  name_by (suc k) = refl

  name_on : (t : TokenCode) → ((c k : ℕ) → t ≡ tokens.Char c k → ⊥) → of_name w seen (token_at texts t) ≡ (if ends_name (means w (token_at texts t)) then Yields seen else Refuses MISSING_ENDCSNAME)
  name_on (tokens.Char c k) other = absurd (other c k refl)
  name_on (tokens.Active c) other = refl
  name_on (tokens.Param n) other = refl
  name_on (tokens.Named n) other = name_by n.0

  pub name_ends : (t : TokenCode) → ((c k : ℕ) → t ≡ tokens.Char c k → ⊥) → (x : Token) → token_at texts t ≡ x → (m : MeaningCode) → meaning_at texts m ≡ means w (token_at texts t) → (b : Bool) → b ≡ ends_name (meaning_at texts m)
      → (if b then Yields seen else Refuses MISSING_ENDCSNAME) ≡ of_name w seen x
  name_ends t other x e m i b d =
      sym (ap (of_name w seen) (sym e) ∙ name_on t other ∙ ap (λ m. if ends_name m then Yields seen else Refuses MISSING_ENDCSNAME) (sym i) ∙ ap (λ b. if b then Yields seen else Refuses MISSING_ENDCSNAME) (sym d))

-- of a quantity all goes back, and nothing is taken
pub quantity_back : (texts : Table) (q : InternalCode) → ((list : List TokenCode) → q ≡ internals.Tokens list → ⊥) → returned (internal_at texts q) ≡ shown (internal_at texts q)
quantity_back texts (internals.Number i) other = refl
quantity_back texts (internals.Dimension d) other = refl
quantity_back texts (internals.Glue g) other = refl
quantity_back texts (internals.Tokens list) other = absurd (other list refl)

pub quantity_kept : (texts : Table) (q : InternalCode) → ((list : List TokenCode) → q ≡ internals.Tokens list → ⊥) → kept_of (internal_at texts q) ≡ []
quantity_kept texts (internals.Number i) other = refl
quantity_kept texts (internals.Dimension d) other = refl
quantity_kept texts (internals.Glue g) other = refl
quantity_kept texts (internals.Tokens list) other = absurd (other list refl)

pub ok_on : {A E : Type 0} {P Q : A → Type 0} (r : Result A E) → IfOk r P → ((x : A) → P x → Q x) → IfOk r Q
ok_on (Ok x) h f = f x h
ok_on (Err e) h f = tt

-- what a list and a quantity are parted into
pub parts_taken : (count : ℕ) (parts : Parts) → parts.back ≡ [] → TokensWithin count parts.told → TokensWithin count parts.kept → PartsWithin count parts
parts_taken count parts e told kept = record { back = subst (TokensWithin count) (sym e) (All-nil (TokenWithin count)); told = told; kept = kept }

pub parts_returned : (count : ℕ) (parts : Parts) (list : List TokenCode) → parts ≡ record { back = list; told = list; kept = [] } → TokensWithin count list → PartsWithin count parts
parts_returned count parts list e within = subst (PartsWithin count) (sym e) (record { back = within; told = within; kept = All-nil (TokenWithin count) })
