-- What a line gives, by the first character as it is looked at.
use Rattle.std.proofs.Common.{◌≡◌, ℕ, Bool, true, cond, List, [], ◌∷◌, Option, Result, Err, refl, sym, ap, subst, ◌∙◌, rules, false, ◌==◌}
use Rattle.std.proofs.lemmas.Bool.Decides.{nat_tests}
use Rattle.texml_token.specs.Token.{Named}
use Rattle.texml_mouth.specs.declared.LineState.TheVariants.{SkippingBlanks}
use Rattle.texml_mouth.specs.Looked.{look, settled}
use Rattle.texml_token.specs.Numbers.{Table}
use Rattle.texml_token.specs.declared.tokens.Token.{Token as TokenCode}
use Rattle.texml_mouth.specs.declared.MouthFault.{MouthFault}
use Rattle.texml_mouth.specs.declared.MouthFault.TheVariants.{NoMemory}
use Rattle.texml_mouth.specs.Seen.{GivesName, Bitten, answer_at}
use Rattle.texml_mouth.specs.Mouth.{Spot, Bite, Dry, bite, bites, name, word, no_word, word_from, name_from, state_behind, gives}
use Rattle.texml_mouth.proofs.Looking.{look-front, at_front}

-- a fold at a text whose front is known
pub look_step : {A : Type 0} (cats : ℕ → ℕ) (empty : A) (step : ℕ → List ℕ → A → A) (text : List ℕ) (c : ℕ) (tail : List ℕ)
    → settled cats text ≡ c ∷ tail → look cats empty step text ≡ step c tail (look cats empty step tail)
look_step cats empty step text c tail is = look-front cats empty step text ∙ ap (at_front cats empty step) is

pub look_end : {A : Type 0} (cats : ℕ → ℕ) (empty : A) (step : ℕ → List ℕ → A → A) (text : List ℕ) → settled cats text ≡ [] → look cats empty step text ≡ empty
look_end cats empty step text is = look-front cats empty step text ∙ ap (at_front cats empty step) is

-- the case table at the front of the characters left
pub bites_step : (cats : ℕ → ℕ) (spot : Spot) (c : ℕ) (tail : List ℕ) → settled cats spot.tail ≡ c ∷ tail
    → bites cats spot ≡ bite cats spot.state c tail (bites cats (record { state = spot.state; tail = tail }))
bites_step cats spot c tail is = look_step cats Dry (bite cats spot.state) spot.tail c tail is

settled_plain : (cats : ℕ → ℕ) (c : ℕ) (tail : List ℕ) → (cats c == 7) ≡ false → settled cats (c ∷ tail) ≡ c ∷ tail
settled_plain cats c [] e = refl
settled_plain cats c (d ∷ []) e = refl
settled_plain cats c (d ∷ x ∷ []) e = rw e refl
settled_plain cats c (d ∷ x ∷ y ∷ tail) e = rw e refl

-- a character of another category than 7 is looked at as it stands
pub plain_step : (cats : ℕ → ℕ) (spot : Spot) (c : ℕ) (tail : List ℕ) → spot.tail ≡ c ∷ tail → (cats c ≡ 7 → ⊥)
    → bites cats spot ≡ bite cats spot.state c tail (bites cats (record { state = spot.state; tail = tail }))
plain_step cats spot c tail is other =
    let test : (cats c == 7) ≡ false = search (rules, nat_tests) in
    bites_step cats spot c tail (ap (settled cats) is ∙ settled_plain cats c tail test)

pub bites_end : (cats : ℕ → ℕ) (spot : Spot) → settled cats spot.tail ≡ [] → bites cats spot ≡ Dry
bites_end cats spot is = look_end cats Dry (bite cats spot.state) spot.tail is

-- a word at the front of a text
module _ (cats : ℕ → ℕ) (text : List ℕ) (c : ℕ) (tail : List ℕ) (is : settled cats text ≡ c ∷ tail) where
  at_word : word cats text ≡ word_from cats c tail (word cats tail)
  at_word = look_step cats (no_word []) (word_from cats) text c tail is

  pub word_letter : cats c ≡ 11 → word cats text ≡ record { letters = c ∷ (word cats tail).letters; behind = (word cats tail).behind }
  word_letter letter = at_word ∙ rw letter refl

  pub word_other : (cats c ≡ 11 → ⊥) → word cats text ≡ no_word (c ∷ tail)
  word_other other = let test : (cats c == 11) ≡ false = search (rules, nat_tests) in at_word ∙ rw test refl

  at_name : name cats text ≡ name_from cats (word cats text) c tail
  at_name = look_step cats (gives (Named []) SkippingBlanks []) (λ d rest onward. name_from cats (word cats text) d rest) text c tail is

  pub name_word : cats c ≡ 11 → name cats text ≡ gives (Named (c ∷ (word cats tail).letters)) SkippingBlanks (word cats tail).behind
  name_word letter = at_name ∙ (ap (λ w. name_from cats w c tail) (word_letter letter) ∙ rw letter refl)

  pub name_other : (cats c ≡ 11 → ⊥) → name cats text ≡ gives (Named (c ∷ [])) (state_behind (cats c)) tail
  name_other other = let test : (cats c == 11) ≡ false = search (rules, nat_tests) in at_name ∙ rw test refl

pub word_end : (cats : ℕ → ℕ) (text : List ℕ) → settled cats text ≡ [] → word cats text ≡ no_word []
word_end cats text is = look_end cats (no_word []) (word_from cats) text is

pub name_end : (cats : ℕ → ℕ) (text : List ℕ) → settled cats text ≡ [] → name cats text ≡ gives (Named []) SkippingBlanks []
name_end cats text is = look_end cats (gives (Named []) SkippingBlanks []) (λ d rest onward. name_from cats (word cats text) d rest) text is

-- a name is given, where there is memory
pub name_gives : (cats : ℕ → ℕ) (text : List ℕ) → GivesName (name cats text)
name_gives cats text = by (settled cats text) refl
  where
    either : (b : Bool) (letters behind tail : List ℕ) (c : ℕ) → GivesName (cond b (gives (Named letters) SkippingBlanks behind) (gives (Named (c ∷ [])) (state_behind (cats c)) tail))
    either true letters behind tail c = tt
    either false letters behind tail c = tt

    by : (list : List ℕ) → settled cats text ≡ list → GivesName (name cats text)
    by [] is = subst GivesName (sym (name_end cats text is)) tt
    by (c ∷ tail) is = subst GivesName (sym (at_name cats text c tail is)) (either (cats c == 11) (word cats text).letters (word cats text).behind tail c)

pub no_memory : (b : Bite) (texts : Table) (r : Result (Option TokenCode) MouthFault) (spot : Spot) → r ≡ Err NoMemory → GivesName b → Bitten b (answer_at texts r) spot
no_memory b texts r spot is h = subst (λ x. Bitten b (answer_at texts x) spot) (sym is) h

pub ruleset biting = (bites_step, bites_end)
