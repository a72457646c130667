-- What entering builtins in order does to a world and the table of names.
use Rattle.std.proofs.Common.{rules, arith, ◌≡◌, ◌≤◌, ◌<◌, ◌+◌, ◌==◌, ◌∙◌, ap, sym, refl, subst, ℕ, zero, suc, Bool, true, false, true≢false, cond, List, [], ◌∷◌, map, take, drop, length, get_or, fold, find, nat_lt, option_map, Option, None, Some, ◌&&◌}
use Rattle.std.proofs.Math.Seq.{drop-cons}
use Rattle.std.proofs.lemmas.List.{take_all}
use Rattle.std.proofs.lemmas.List.Folds.{fold-map}
use Rattle.std.proofs.lemmas.List.Sums.{fold_more}
use Rattle.std.proofs.lemmas.List.Elements.{All-nil, All-cons}
use Rattle.std.proofs.lemmas.Bool.Decides.{Decides-ltb}
use Rattle.std.specs.List.{All, list_all}
use denote.Ref.{Bor}
use Rattle.texml_token.specs.Token.{text_eq}
use Rattle.texml_token.specs.Numbers.{Table, text_at, Numbered, Extends}
use Rattle.texml_token.proofs.Table.{text-decides, extends_refl, extends_trans}
use Rattle.texml_scope.specs.declared.values.KeyOf.TheVariants as keys
use Rattle.texml_scope.specs.declared.values.MeaningOf.TheVariants as meanings
use Rattle.texml_scope.specs.declared.values.ValueOf.TheVariants as values
use Rattle.texml_scope.specs.declared.builtins.Status.{Status}
use Rattle.texml_scope.specs.declared.builtins.TheConstants.{BUILTINS}
use Rattle.texml_scope.specs.Groups.{set_local}
use Rattle.texml_scope.specs.Values.{same_key}
use Rattle.texml_scope.specs.World.{World as WorldCode}
use Rattle.texml_scope.specs.Texts.{World, Name, key_eq, Means, Builtin}
use Rattle.texml_scope.specs.Numbers.{world_at, WorldCovered}
use Rattle.texml_scope.specs.Builtins.{Row, row_of, is_built, place_in}
use Rattle.texml_scope.proofs.Texts.{world_set_local, world_stays}
use Rattle.texml_scope.proofs.Covering.{set_local_covered, world_more}

-- the place of a builtin is that of the first one, or else is looked for among the others
first-or : (b : Row) (bs : List Row) (name : List ℕ) → place_in (b ∷ bs) name ≡ cond (is_built b && text_eq b.1 name) (Some b.0) (place_in bs name)
first-or b bs name = by (is_built b && text_eq b.1 name)
  where
    by : (t : Bool) → option_map (λ (b : Row). b.0) (cond t (Some b) (find (λ b. is_built b && text_eq b.1 name) bs)) ≡ cond t (Some b.0) (place_in bs name)
    by true = refl
    by false = refl

and-parts : (s t : Bool) → (s && t) ≡ true → (s ≡ true) × (t ≡ true)
and-parts true t e = (refl, e)
and-parts false t e = absurd (true≢false (sym e))

and-not : (s t : Bool) → (t ≡ true → ⊥) → (s && t) ≡ false
and-not true true h = absurd (h refl)
and-not true false h = refl
and-not false t h = refl

abbrev pub RowCode : Type 0
RowCode = ℕ × Bor (List ℕ) × Bor (List (Bor (List ℕ))) × Status

module _ (bs : List RowCode) (name : List ℕ) (i : ℕ) (d : RowCode) (lt : i < length bs) where
  at : place_in (map row_of (drop i bs)) name ≡ cond (is_built (row_of (get_or bs i d)) && text_eq (get_or bs i d).1.now name) (Some (get_or bs i d).0) (place_in (map row_of (drop (suc i) bs)) name)
  at = ap (λ l. place_in (map row_of l) name) (drop-cons bs i d lt) ∙ first-or (row_of (get_or bs i d)) (map row_of (drop (suc i) bs)) name

  -- it is found
  pub place-found : is_built (row_of (get_or bs i d)) ≡ true → text_eq (get_or bs i d).1.now name ≡ true → place_in (map row_of (drop i bs)) name ≡ Some (get_or bs i d).0
  place-found is same = at ∙ ap (λ (t : Bool). cond (t && text_eq (get_or bs i d).1.now name) (Some (get_or bs i d).0) (place_in (map row_of (drop (suc i) bs)) name)) is ∙ ap (λ (t : Bool). cond t (Some (get_or bs i d).0) (place_in (map row_of (drop (suc i) bs)) name)) same

  -- it is looked for among the others
  place-later : is_built (row_of (get_or bs i d)) && text_eq (get_or bs i d).1.now name ≡ false → place_in (map row_of (drop (i + 1) bs)) name ≡ place_in (map row_of (drop i bs)) name
  place-later other = let next : i + 1 ≡ suc i = omega arith in ap (λ n. place_in (map row_of (drop n bs)) name) next ∙ sym (at ∙ ap (λ (t : Bool). cond t (Some (get_or bs i d).0) (place_in (map row_of (drop (suc i) bs)) name)) other)

  pub place-not-text : (name ≡ (get_or bs i d).1.now → ⊥) → place_in (map row_of (drop (i + 1) bs)) name ≡ place_in (map row_of (drop i bs)) name
  place-not-text other = place-later (and-not (is_built (row_of (get_or bs i d))) (text_eq (get_or bs i d).1.now name) (λ e. other (sym ((text-decides (get_or bs i d).1.now name).0 e))))

  pub place-not-built : is_built (row_of (get_or bs i d)) ≡ false → place_in (map row_of (drop (i + 1) bs)) name ≡ place_in (map row_of (drop i bs)) name
  place-not-built not = place-later (ap (λ s. s && text_eq (get_or bs i d).1.now name) not)

-- from one table and world to another: what the new ones are, and that the new table gives the new world's names
pub record Enters (old now : Table) (v : WorldCode) (meant : World) (named : Table) : Type 0 where
  pub world : world_at now v ≡ meant
  pub names : now ≡ named
  pub covered : WorldCovered (length now) v
  pub grows : Extends old now
  pub numbered : Numbered now

pub enters_none : (old : Table) (v : WorldCode) → WorldCovered (length old) v → Numbered old → Enters old old v (world_at old v) old
enters_none old v covered numbered = record { world = refl; names = refl; covered = covered; grows = extends_refl old; numbered = numbered }

module _ {X Y : Type 0} (h : X → Y) (f : World → Y → World) (g : Table → Y → Table) (xs : List X) where
  -- a fold over one item more
  one-more : {B : Type 0} (f : B → Y → B) (a : B) (i : ℕ) (d : X) → i < length xs → fold f a (map h (take (i + 1) xs)) ≡ f (fold f a (map h (take i xs))) (h (get_or xs i d))
  one-more f a i d lt = fold-map f h a (take (i + 1) xs) ∙ fold_more (λ b x. f b (h x)) a xs i d lt ∙ ap (λ b. f b (h (get_or xs i d))) (sym (fold-map f h a (take i xs)))

  module _ (a : World) (b : Table) where
    abbrev pub EntersFirst : ℕ → Table → Table → WorldCode → Type 0
    EntersFirst i old now v = Enters old now v (fold f a (map h (take i xs))) (fold g b (map h (take i xs)))

    pub enters_more : (i : ℕ) (d : X) (old now new : Table) (v w : WorldCode) → i < length xs → EntersFirst i old now v
        → world_at new w ≡ f (world_at now v) (h (get_or xs i d)) → new ≡ g now (h (get_or xs i d)) → WorldCovered (length new) w → Extends now new → Numbered new → EntersFirst (i + 1) old new w
    enters_more i d old now new v w lt e world names covered grows numbered = record {
      world = world ∙ ap (λ x. f x (h (get_or xs i d))) e.world ∙ sym (one-more f a i d lt);
      names = names ∙ ap (λ x. g x (h (get_or xs i d))) e.names ∙ sym (one-more g b i d lt);
      covered = covered;
      grows = extends_trans old now new e.grows grows;
      numbered = numbered;
    }

    pub enters_all : (i : ℕ) (old now : Table) (v : WorldCode) → length xs ≤ i → EntersFirst i old now v → Enters old now v (fold f a (map h xs)) (fold g b (map h xs))
    enters_all i old now v le e = let P : List X → Type 0 = λ ys. Enters old now v (fold f a (map h ys)) (fold g b (map h ys)) in subst P (take_all i xs le) e

-- one control name
module _ (old new : Table) (grows : Extends old new) (numbered : Numbered new) (n : ℕ) (within : (1 ≤ n) × (n ≤ length new)) (place : ℕ) (there : place < length BUILTINS) (w : WorldCode) (covered : WorldCovered (length old) w) where
  abbrev pub set_world : WorldCode
  set_world = set_local same_key (keys.Name (record { 0 = n })) (values.Means (meanings.Builtin place)) w

  pub set_says : (name : List ℕ) → text_at new n ≡ name → world_at new set_world ≡ set_local key_eq (Name name) (Means (Builtin place)) (world_at old w)
  set_says name e =
      world_set_local new numbered (keys.Name (record { 0 = n })) within (values.Means (meanings.Builtin place)) w ∙
      (λ i. set_local key_eq (Name (e i)) (Means (Builtin place)) (world_stays old new grows w covered i))

  pub set_covered : WorldCovered (length new) set_world
  set_covered = set_local_covered (length new) (keys.Name (record { 0 = n })) (values.Means (meanings.Builtin place)) within there w (world_more (length old) (length new) grows.longer w covered)

-- each of these has a place in the order, if a test says so
pub placed : {X : Type 0} (place : X → ℕ) (bs : List X) → list_all (λ b. nat_lt (place b) (length BUILTINS)) bs ≡ true → All (λ b. place b < length BUILTINS) bs
placed place [] e = All-nil (λ b. place b < length BUILTINS)
placed place (b ∷ bs) e =
    let both = and-parts (nat_lt (place b) (length BUILTINS)) (list_all (λ b. nat_lt (place b) (length BUILTINS)) bs) e in
    All-cons (λ b. place b < length BUILTINS) b bs ((Decides-ltb (place b) (length BUILTINS)).0 both.0) (placed place bs both.1)
