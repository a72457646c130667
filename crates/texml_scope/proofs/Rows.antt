-- The definitions computed on small worlds and on builtins.
use Rattle.std.proofs.Common.{◌≡◌, ℕ, [], ◌∷◌, length, Option, None, Some, Result, Ok, Err, true, false, pos, refl, codes}
use Rattle.texml_token.specs.Token.{Token, Char, Named}
use Rattle.texml_token.specs.Numbers.{Table}
use Rattle.texml_scope.specs.declared.values.KeyOf.TheVariants as keys
use Rattle.texml_scope.specs.declared.values.MeaningOf.TheVariants as meanings
use Rattle.texml_scope.specs.declared.values.ValueOf.TheVariants as values
use Rattle.texml_scope.specs.declared.values.KindOf.TheVariants as kinds
use Rattle.texml_scope.specs.declared.values.FaultOf.TheVariants as faults
use Rattle.texml_scope.specs.Groups.{set_local, set_global, begin_group, keep_after, end_group, inner_kind}
use Rattle.texml_scope.specs.Starting.{initial_category, initial_lower, initial_upper}
use Rattle.texml_scope.specs.Texts.{World, Key, Value, new_world, key_eq, kind_eq, plain_macro, number_in}
use Rattle.texml_scope.specs.Equality.{meaning_eq}
use Rattle.texml_scope.specs.Builtins.{table, builtin_place, is_conditional, first_world, first_names}

-- a number as a value
abbrev number : ℕ → Value
number n = values.Number (pos n)

-- 3 outside; inside a group 7, then 5 in all groups, then 9
abbrev inside : World
inside = set_local key_eq (keys.Count 1) (number 9) (set_global key_eq (keys.Count 1) (number 5) (set_local key_eq (keys.Count 1) (number 7) (begin_group kinds.Brace (set_local key_eq (keys.Count 1) (number 3) new_world))))

pub local_value_holds_inside : inside.top (keys.Count 1) ≡ number 9
local_value_holds_inside = refl

-- }
pub global_value_comes_back : (end_group kind_eq kinds.Brace inside).0.top (keys.Count 1) ≡ number 5
global_value_comes_back = refl

pub no_tokens_come_after : (end_group kind_eq kinds.Brace inside).1 ≡ Ok []
no_tokens_come_after = refl

pub other_kind_does_not_end : (end_group kind_eq kinds.Begin inside).1 ≡ Err (faults.WrongGroup kinds.Brace)
other_kind_does_not_end = refl

abbrev start : World
start = new_world

pub no_group_does_not_end : (end_group kind_eq kinds.Brace start).1 ≡ Err faults.NoGroup
no_group_does_not_end = refl

-- {\aftergroup a\aftergroup b}
pub tokens_come_in_order : (end_group kind_eq kinds.Brace (keep_after (Char 98 11) (keep_after (Char 97 11) (begin_group kinds.Brace new_world)))).1 ≡ Ok (Char 97 11 ∷ Char 98 11 ∷ [])
tokens_come_in_order = refl

pub environments_have_names : (end_group kind_eq (kinds.Env (codes "center")) (begin_group (kinds.Env (codes "quote")) start)).1 ≡ Err (faults.WrongGroup (kinds.Env (codes "quote")))
environments_have_names = refl

pub other_keys_keep_their_values : number_in (inside.top (keys.Cat 37)) ≡ Some (pos 14)
other_keys_keep_their_values = refl

pub letters_have_codes : (initial_lower 65 ≡ 97) × (initial_upper 97 ≡ 65) × (initial_lower 49 ≡ 0)
letters_have_codes = (refl, refl, refl)

pub form_feed_is_other : initial_category 12 ≡ 12
form_feed_is_other = refl

-- macros are the same by their bodies
pub bodies_tell_apart : meaning_eq (meanings.Macro (plain_macro (Char 97 11 ∷ []))) (meanings.Macro (plain_macro (Char 97 12 ∷ []))) ≡ false
bodies_tell_apart = refl

pub undefined_names_agree : meaning_eq meanings.Undefined meanings.Undefined ≡ true
undefined_names_agree = refl

-- the builtins
pub all_builtins : length table ≡ 92
all_builtins = refl

pub place_of_relax : builtin_place (codes "relax") ≡ Some 28
place_of_relax = refl

pub foo_is_no_builtin : builtin_place (codes "foo") ≡ None
foo_is_no_builtin = refl

pub ifcase_begins_a_conditional : is_conditional 18 ≡ true
ifcase_begins_a_conditional = refl

pub else_begins_none : is_conditional 19 ≡ false
else_begins_none = refl

pub run_knows_par : first_world.top (keys.Name (codes "par")) ≡ values.Means (meanings.Builtin 74)
run_knows_par = refl

pub run_knows_no_foo : first_world.top (keys.Name (codes "foo")) ≡ values.Means meanings.Undefined
run_knows_no_foo = refl
