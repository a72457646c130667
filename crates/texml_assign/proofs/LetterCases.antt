-- Lists whose characters get other codes: what is read of them has one answer, and no more is put back than was taken.
use Rattle.std.proofs.Common.{◌≡◌, ◌+◌, ℕ, false, List, [], ◌∷◌, ◌++◌, map, length, Option, refl, sym, ap, ◌∙◌, arith}
use Rattle.std.proofs.Common.{◌<◌, ◌≤◌, take, get_or, ap₂}
use Rattle.std.proofs.lemmas.List.{map-append, length-map, take_more, take_all}
use Rattle.texml_token.specs.Token.{Token}
use Rattle.texml_token.specs.Numbers.{Table, token_at, tokens_at}
use Rattle.texml_token.specs.declared.tokens.Token.{Token as TokenCode}
use Rattle.texml_scope.specs.Shown.{ValueCode}
use Rattle.texml_scope.specs.Values.{number_in}
use Rattle.texml_scope.specs.Numbers.{value_at}
use Rattle.texml_scope.specs.declared.values.ValueOf.TheVariants as values
use Rattle.texml_expand.specs.State.{State, change, fail}
use Rattle.texml_expand.specs.Contract.{Lower}
use Rattle.texml_expand.specs.Absorb.{absorb}
use Rattle.texml_expand.specs.Quantities.{Looked}
use Rattle.texml_expand.proofs.Items.{size_put}
use Rattle.texml_expand.proofs.Groups.{absorb_leads}
use Rattle.texml_expand.proofs.Leading.{Leads, leads_chain, leads_weaker, lower_then, lower_less, count}
use Rattle.texml_assign.specs.declared.fillers.Filler.TheVariants.{SpacesAndRelax}
use Rattle.texml_assign.specs.declared.assignments.ListStart.{ListStart}
use Rattle.texml_assign.specs.declared.assignments.ListStart.TheVariants.{Group, Register}
use Rattle.texml_assign.specs.declared.letters.Case.{Case}
use Rattle.texml_assign.specs.Fillers.{first_behind}
use Rattle.texml_assign.specs.Assignments.{list_start}
use Rattle.texml_assign.specs.Letters.{group_from, group_by, next_group, token_in, put_in_case, change_case}
use Rattle.texml_assign.proofs.Readings.{Lawful, Sure, lawful_plain, lawful_then, plain_fail, sure_change}
use Rattle.texml_assign.proofs.Parts.{lawful_absorb}
use Rattle.texml_assign.proofs.Quantities.{lawful_first, first_leads, plain_list_start, lawful_behind}

-- Groups

pub lawful_group_from : (start : ListStart) → Lawful (group_from start)
lawful_group_from Group = lawful_absorb false
lawful_group_from (Register t) = lawful_plain (fail _ _) (plain_fail _ _ _)

pub lawful_group_by : (o : Option Looked) → Lawful (group_by o)
lawful_group_by o = lawful_then (λ n. list_start o) group_from (lawful_plain (list_start o) (plain_list_start o)) lawful_group_from

pub lawful_next_group : Lawful next_group
lawful_next_group = lawful_then (first_behind SpacesAndRelax) group_by (lawful_first SpacesAndRelax) lawful_group_by

-- what was read of a group leaves room for its tokens
Leaves : State → List Token → State → Type 0
Leaves s list t = Lower (length list) s t

from_leaves : (start : ListStart) (n : ℕ) (s t : State) → Lower 0 s t → Leads (Leaves s) (group_from start n t)
unfolding Leaves
from_leaves Group n s t low =
    leads_weaker (λ list u. Lower (length list + 1) t u) (Leaves s) (absorb false n t) (λ list u l. lower_then 0 (length list + 1) (length list) s t u low l (omega arith)) (absorb_leads t)
from_leaves (Register k) n s t low = tt

by_leaves : (o : Option Looked) (n : ℕ) (s t : State) → Lower 0 s t → Leads (Leaves s) (group_by o n t)
unfolding Leaves
by_leaves o n s t low =
    leads_chain (λ start u. Lower 0 s u) (Leaves s) (list_start o t) (λ start. group_from start n)
    (leads_weaker (λ start u. Lower 0 t u) (λ start u. Lower 0 s u) (list_start o t) (λ start u l. lower_then 0 0 0 s t u low l (omega arith)) ((plain_list_start o).falls t))
    (λ start u l. from_leaves start n s u l)

pub group_leaves : (n : ℕ) (s : State) → Leads (λ list t. Lower (length list) s t) (next_group n s)
unfolding Leaves
group_leaves n s =
    leads_chain (λ o t. Lower (count o) s t) (Leaves s) (first_behind SpacesAndRelax n s) (λ o. group_by o n) (first_leads SpacesAndRelax n s) (λ o t l. by_leaves o n s t (lower_less (count o) s t l))

-- Codes

put_lower : (case : Case) (list : List Token) (s t : State) → Lower (length list) s t → Lower 0 s (put_in_case case list t)
put_lower case list s t low =
    let many = size_put (map (token_in case t.world) list) t.rest in
    let same = length-map list (token_in case t.world) in
    record {
      limit = low.limit;
      nesting = low.nesting;
      begun = low.begun;
      size = λ e. let l = low.size e in omega (arith, many, same);
      within = low.within;
    }

pub sure_case : (case : Case) (list : List Token) → Sure (λ n. change (put_in_case case list))
sure_case case list = sure_change (put_in_case case list)

pub lawful_change_case : (case : Case) → Lawful (change_case case)
lawful_change_case case = lawful_behind (λ s list t. Lower (length list) s t) next_group (λ list. change (put_in_case case list)) lawful_next_group group_leaves (sure_case case) (λ list s t low. put_lower case list s t low)

-- a number is the same value for both
pub number_same : (texts : Table) (v : ValueCode) → number_in (value_at texts v) ≡ number_in v
number_same texts (values.Means m) = refl
number_same texts (values.Number z) = refl
number_same texts (values.Glue g) = refl
number_same texts (values.List list) = refl
number_same texts (values.Parent p) = refl
number_same texts values.Absent = refl

-- the code's loop over a list
pub changed_more : (texts : Table) (f : Token → Token) (list changed new : List TokenCode) (i : ℕ) (d t : TokenCode) → i < length list → tokens_at texts changed ≡ map f (tokens_at texts (take i list)) → new ≡ changed ++ t ∷ []
    → token_at texts t ≡ f (token_at texts (get_or list i d)) → tokens_at texts new ≡ map f (tokens_at texts (take (i + 1) list))
changed_more texts f list changed new i d t lt h n e =
    ap (tokens_at texts) n ∙ map-append (token_at texts) changed (t ∷ []) ∙ ap₂ (λ a b. a ++ b ∷ []) h e
    ∙ sym (ap (λ l. map f (tokens_at texts l)) (take_more list i d lt) ∙ ap (map f) (map-append (token_at texts) (take i list) (get_or list i d ∷ [])) ∙ map-append f (tokens_at texts (take i list)) (token_at texts (get_or list i d) ∷ []))

pub changed_all : (texts : Table) (f : Token → Token) (list changed : List TokenCode) (i : ℕ) → length list ≤ i → tokens_at texts changed ≡ map f (tokens_at texts (take i list)) → tokens_at texts changed ≡ map f (tokens_at texts list)
changed_all texts f list changed i le h = h ∙ ap (λ l. map f (tokens_at texts l)) (take_all i list le)

pub changed_many : (texts : Table) (f : Token → Token) (list changed : List TokenCode) → tokens_at texts changed ≡ map f (tokens_at texts list) → length changed ≡ length list
changed_many texts f list changed e =
    sym (length-map changed (token_at texts)) ∙ ap length e ∙ length-map (tokens_at texts list) f ∙ length-map list (token_at texts)
