-- The categories that are kept stay those of the table.
use Rattle.std.proofs.Common.{rules, ◌≡◌, ◌≢◌, ◌<◌, ◌∙◌, ap, sym, refl, subst, arith, ℕ, ℤ, pos, negsuc, Bool, true, false, true≢false, cond, List, [], length, Option, Some, ◌&&◌, nat_lt}
use Rattle.std.specs.Prelude.{slice_index, slice_set}
use Rattle.std.proofs.lemmas.Bool.Decides.{nat_tests}
use Rattle.std.proofs.lemmas.List.{get_or-set_same, get_or-set_other}
use Rattle.texml_scope.specs.declared.table.Entry.{Entry}
use Rattle.texml_scope.specs.declared.values.KeyOf.TheVariants.{Cat}
use Rattle.texml_scope.specs.declared.values.ValueOf.TheVariants as values
use Rattle.texml_scope.specs.Groups.{put_at}
use Rattle.texml_scope.specs.Values.{same_key, number_in}
use Rattle.texml_scope.specs.World.{IsCategory, IsNumber}
use Rattle.texml_scope.specs.Starting.{initial_category}
use Rattle.texml_scope.specs.Shown.{KeyCode, ValueCode, KeepsCategories, entries_of, kept}
use Rattle.texml_scope.proofs.Same.{key-decides}

set_other : (b : Bool) (categories : List ℕ) (c n code : ℕ) → code ≢ c → slice_index (cond b (slice_set categories c n) categories) code ≡ slice_index categories code
set_other true categories c n code ne = get_or-set_other categories c code n 0 ne
set_other false categories c n code ne = refl

-- another key's category stays
kept_other : (k : KeyCode) (z : Option ℤ) (categories : List ℕ) (code : ℕ) → k ≢ Cat code → slice_index (kept k z categories) code ≡ slice_index categories code
kept_other (Cat c) (Some (pos n)) categories code ne = set_other (nat_lt c 128 && nat_lt n 16) categories c n code (λ e. ne (ap Cat (sym e)))
kept_other k z categories code ne = refl

kept_same : (categories : List ℕ) (code n : ℕ) → code < 128 → n < 16 → length categories ≡ 128 → slice_index (kept (Cat code) (Some (pos n)) categories) code ≡ n
kept_same categories code n below small long =
    let yes : (nat_lt code 128 && nat_lt n 16) ≡ true = grind (arith, nat_tests) in
    subst (λ b. slice_index (cond b (slice_set categories code n) categories) code ≡ n) (sym yes) (get_or-set_same categories code n 0 (omega arith))

pub keeps_put : (categories : List ℕ) (t : KeyCode → Entry) (k : KeyCode) (x : Entry) → length categories ≡ 128 → KeepsCategories categories t → KeepsCategories (kept k (number_in x.value) categories) (put_at same_key k x t)
keeps_put categories t k x long h code n below small = by (same_key k (Cat code)) refl
  where
    by : (b : Bool) → same_key k (Cat code) ≡ b → (cond b x (t (Cat code))).value ≡ values.Number (pos n) → slice_index (kept k (number_in x.value) categories) code ≡ n
    by true e is = subst (λ k. slice_index (kept k (number_in x.value) categories) code ≡ n) (sym ((key-decides k (Cat code)).0 e)) (subst (λ (v : ValueCode). slice_index (kept (Cat code) (number_in v) categories) code ≡ n) (sym is) (kept_same categories code n below small long))
    by false e is = kept_other k (number_in x.value) categories code (λ q. true≢false (sym ((key-decides k (Cat code)).1 q) ∙ e)) ∙ h code n below small is

number_of_category : (v : ValueCode) (m n : ℕ) → v ≡ values.Number (pos m) → v ≡ values.Number (pos n) → m ≡ n
number_of_category v m n a b = search rules

pub keeps_first : (categories : List ℕ) → ((code : ℕ) → code < 128 → slice_index categories code ≡ initial_category code) → KeepsCategories categories (entries_of [])
keeps_first categories h code n below small is = h code below ∙ number_of_category (values.Number (pos (initial_category code))) (initial_category code) n refl is

-- a value that is a category is that of a number
pub category_number : (v : ValueCode) → IsNumber IsCategory v → (n : ℕ) × (n < 16) × (v ≡ values.Number (pos n))
category_number (values.Number (pos n)) is = (n, omega arith, refl)
category_number (values.Number (negsuc n)) is = absurd is
category_number v is = absurd is
