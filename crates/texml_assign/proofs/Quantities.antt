-- Readings of quantities, and the commands that assign them: each has one answer, and leaves no more to be read.
use Rattle.std.proofs.Common.{◌≡◌, ◌<◌, ◌^◌, ℕ, ℤ, pos, negsuc, zero, suc, Bool, true, false, nat_le, if◌then◌else◌, List, [], Option, Some, None, Result, Ok, Err, refl, sym, ap, subst, ◌∙◌, arith, codes}
use Rattle.std.specs.Option.{option_map}
use Rattle.std.specs.Char.{IsScalar}
use Rattle.texml_token.specs.Token.{Token}
use Rattle.texml_token.specs.declared.category.TheConstants.{INVALID}
use Rattle.texml_token.specs.declared.fault_code.TheConstants.{BAD_CODE, MISPLACED}
use Rattle.texml_scope.specs.Texts.{Key, Value}
use Rattle.texml_scope.specs.declared.values.KeyOf.TheVariants as keys
use Rattle.texml_scope.specs.declared.values.MeaningOf.TheVariants as meanings
use Rattle.texml_scope.specs.declared.values.ValueOf.TheVariants as values
use Rattle.texml_scope.specs.declared.builtins.TheConstants.{RELAX}
use Rattle.texml_fixed.specs.declared.fault.NumFault.{NumFault}
use Rattle.texml_fixed.specs.declared.scaled.Scaled.{Scaled}
use Rattle.texml_fixed.specs.declared.glue.Glue.{Glue as GlueValue}
use Rattle.texml_token.specs.Numbers.{Table}
use Rattle.texml_scope.specs.Shown.{KeyCode}
use Rattle.texml_scope.specs.Numbers.{key_at, value_at, KeyWithin}
use Rattle.texml_expand.specs.declared.variables.Variable.{Variable}
use Rattle.texml_expand.specs.declared.variables.Variable.TheVariants as variables
use Rattle.texml_expand.specs.VariableCodes.{key_by as key_by_code}
use Rattle.texml_expand.specs.declared.variables.Index.{Index}
use Rattle.texml_expand.specs.declared.variables.Index.TheVariants as index
use Rattle.texml_expand.specs.State.{State, nothing, Done, Reading, chain, give, fail, change, IsDecided}
use Rattle.texml_expand.specs.Contract.{Lower}
use Rattle.texml_input.specs.Rest.{Tok}
use Rattle.texml_expand.specs.Absorb.{absorb}
use Rattle.texml_expand.specs.Variables.{among, key_of, Internal, internal_in, value_of}
use Rattle.texml_expand.specs.Variables as internals
use Rattle.texml_expand.specs.Quantities.{Looked, int_text, dimension_text, glue_text, keyword_text, expanded}
use Rattle.texml_expand.specs.Quantities.{read_index as index_by, read_key as key_by}
use Rattle.texml_expand.specs.Expand.{ByDepth, back, means, level, counted as as_counted, fetch, read_int, read_dimen, read_glue, read_keyword, read_index, read_key, fetched}
use Rattle.texml_expand.proofs.Items.{size-cons}
use Rattle.texml_expand.proofs.Leading.{Leads, leads_after, leads_chain, leads_weaker, lower_then, lower_less, count}
use Rattle.texml_expand.proofs.Readings.{mono_chain, mono_same, settles_chain, settles_now}
use Rattle.texml_expand.proofs.Levels.{level_falls}
use Rattle.texml_expand.proofs.Lawful.{lawful_scan}
use Rattle.texml_expand.proofs.Looking.{lawful_expanded, expanded_leads, lawful_index, lawful_key}
use Rattle.texml_expand.proofs.Public.{lawful_fetched}
use Rattle.texml_assign.specs.declared.targets.Registers.{Registers}
use Rattle.texml_assign.specs.declared.targets.Registers.TheVariants as registers
use Rattle.texml_assign.specs.TargetCodes.{IsVariable, IsCounted}
use Rattle.texml_assign.specs.declared.targets.Target.{Target}
use Rattle.texml_assign.specs.declared.targets.Target.TheVariants.{Behind, Named}
use Rattle.texml_assign.specs.declared.fillers.Filler.{Filler}
use Rattle.texml_assign.specs.declared.fillers.Filler.TheVariants.{Spaces, SpacesAndRelax}
use Rattle.texml_assign.specs.declared.assignments.ListStart.{ListStart}
use Rattle.texml_assign.specs.declared.assignments.ListStart.TheVariants.{Group, Register}
use Rattle.texml_assign.specs.declared.table.ShortFor.{ShortFor}
use Rattle.texml_assign.specs.declared.table.Arithmetic.{Arithmetic}
use Rattle.texml_assign.specs.declared.table.Arithmetic.TheVariants.{Advance, Multiply, Divide}
use Rattle.texml_assign.specs.declared.arithmetic.Counted.{Counted}
use Rattle.texml_assign.specs.declared.arithmetic.Counted.TheVariants.{Number, Dimension, Glue}
use Rattle.texml_assign.specs.Loop.{On, Over, looped, turned, loops}
use Rattle.texml_assign.specs.Targets.{variable_in, target_of, target_key, variable_of, is_counted}
use Rattle.texml_assign.specs.Fillers.{fills, filler_turn, filler_loop, first_behind, past_equals, optional_equals, put_looked, ignore_spaces}
use Rattle.texml_assign.specs.Operands.{is_equals, next_key}
use Rattle.texml_assign.specs.Sets.{set, assign}
use Rattle.texml_assign.specs.Assignments.{next_number, category_of, next_category, next_code, next_dimension, next_glue, begins_list, needed_start, list_start, value_now, absorbed_list, copied_list, list_from, list_by, next_list, value_for, assign_next, assign_to, assignment}
use Rattle.texml_assign.specs.ShortNames.{short_index, short_meaning, short_number, short_equals, short_key, short_name}
use Rattle.texml_assign.specs.Arithmetic.{counted, counted_of, next_counted, count_of, count_now, product, quotient, fits, number_sum, dimension_sum, sum_of_glue, by_number, by_dimension, by_glue, advanced, computed, value_from, count_on, count_with, count_by, count_target, arithmetic}
use Rattle.texml_assign.proofs.Readings.{IsUnlimited, Lawful, Sure, Plain, chained, lawful_calls, lawful_plain, lawful_then, plain_by, plain_give, plain_fail, plain_if, plain_then, sure}
use Rattle.texml_assign.proofs.Looping.{LawfulLoop, lawful_loop}
use Rattle.texml_assign.proofs.Parts.{kept_lower, lawful_absorb, plain_set, plain_assign, plain_next_key}

-- What the engine reads

pub lawful_int : Lawful read_int
lawful_int = lawful_calls (λ c. c.scan int_text []) (lawful_scan int_text)

pub lawful_dimen : Lawful read_dimen
lawful_dimen = lawful_calls (λ c. c.scan dimension_text []) (lawful_scan dimension_text)

pub lawful_glue : Lawful read_glue
lawful_glue = lawful_calls (λ c. c.scan glue_text []) (lawful_scan glue_text)

pub lawful_keyword : (word : List ℕ) → Lawful (read_keyword word)
lawful_keyword word = lawful_calls (λ c. c.scan (keyword_text word) []) (lawful_scan (keyword_text word))

pub lawful_index_of : (i : Index) → Lawful (read_index i)
lawful_index_of i = lawful_calls (λ c. index_by c i) (lawful_index i)

pub lawful_key_of : (v : Variable) → Lawful (read_key v)
lawful_key_of v = lawful_calls (λ c. key_by c v) (lawful_key v)

pub lawful_target : (t : Target) → Lawful (target_key t)
lawful_target (Behind v) = lawful_key_of v
lawful_target (Named v n) = lawful_plain (give _) (plain_give _)

-- Fetching

counted_same : (o : Option Looked) → count (option_map (λ x. x.counts) o) ≡ count o
counted_same None = refl
counted_same (Some x) = refl

pub lawful_fetch : Lawful fetch
lawful_fetch = lawful_calls fetched lawful_fetched

-- each token that is fetched leaves less to be read
pub fetch_leads : (n : ℕ) (s : State) → Leads (λ o t. Lower (count o) s t) (fetch n s)
fetch_leads n s =
    leads_chain (λ o t. Lower (count o) s t) (λ o t. Lower (count o) s t) (expanded (level n) s) as_counted (expanded_leads (level n) (level_falls n) s) (λ o t low. rw (counted_same o) low)

-- What may stand before a value

pub plain_filler_turn : (f : Filler) (seen : Unit {0}) (x : Looked) → Plain (λ s. filler_turn f seen x 0 s)
plain_filler_turn f seen x = plain_by (λ s. means s.world x.counts) (λ m. give (if fills f m then On tt else Over (Some x))) (λ m. plain_give _)

pub filler_laws : (f : Filler) → LawfulLoop (filler_loop f)
filler_laws f = record {
  source = lawful_calls expanded lawful_expanded;
  lowers = λ n s. expanded_leads (level n) (level_falls n) s;
  turn = λ seen x. lawful_plain (λ s. filler_turn f seen x 0 s) (plain_filler_turn f seen x);
  end = λ seen. plain_give None;
}

pub lawful_first : (f : Filler) → Lawful (first_behind f)
lawful_first f = lawful_loop (filler_loop f) (filler_laws f) tt

-- the token that is found leaves less to be read
module _ (f : Filler) where
  Finds : State → Option Looked → State → Type 0
  Finds s o t = Lower (count o) s t

  by_turn : (n : ℕ) → ((seen : Unit {0}) (t : State) → Leads (Finds t) (loops (filler_loop f) seen n t)) → (b : Bool) (x : Looked) (s t : State) → Lower 1 s t
      → Leads (Finds s) (chain (Done (if b then On tt else Over (Some x)) t nothing) (looped (λ seen. loops (filler_loop f) seen n)))
  unfolding Finds
  by_turn n again true x s t low =
      leads_after (Finds s) nothing (loops (filler_loop f) tt n t)
      (leads_weaker (Finds t) (Finds s) (loops (filler_loop f) tt n t) (λ o u l. lower_then 1 (count o) (count o) s t u low l (omega arith)) (again tt t))
  by_turn n again false x s t low = low

  by_source : (n : ℕ) → ((seen : Unit {0}) (t : State) → Leads (Finds t) (loops (filler_loop f) seen n t)) → (o : Option Looked) (s t : State) → Lower (count o) s t
      → Leads (Finds s) (turned (filler_loop f) (λ seen. loops (filler_loop f) seen n) n tt o t)
  unfolding Finds
  by_source n again None s t low = low
  by_source n again (Some x) s t low = by_turn n again (fills f (means t.world x.counts)) x s t low

  finds : (n : ℕ) (seen : Unit {0}) (s : State) → Leads (Finds s) (loops (filler_loop f) seen n s)
  unfolding Finds
  finds zero seen s = tt
  finds (suc n) seen s = leads_chain (Finds s) (Finds s) (expanded (level n) s) (turned (filler_loop f) (λ seen. loops (filler_loop f) seen n) n seen) (expanded_leads (level n) (level_falls n) s) (λ o t low. by_source n (finds n) o s t low)

pub first_leads : (f : Filler) (n : ℕ) (s : State) → Leads (λ o t. Lower (count o) s t) (first_behind f n s)
unfolding Finds
first_leads f n s = finds f n tt s

past_if : (b : Bool) (t : Token) (s : State) → IsDecided ((if b then give tt else change (back t false)) s)
past_if true t s = tt
past_if false t s = tt

pub past_decided : (o : Option Looked) (s : State) → IsDecided (past_equals o s)
past_decided None s = tt
past_decided (Some x) s = past_if (is_equals x.counts) x.token s

past_if_unlimited : (b : Bool) (t : Token) (s : State) → IsUnlimited ((if b then give tt else change (back t false)) s)
past_if_unlimited true t s = tt
past_if_unlimited false t s = tt

pub past_unlimited : (o : Option Looked) (s : State) → IsUnlimited (past_equals o s)
past_unlimited None s = tt
past_unlimited (Some x) s = past_if_unlimited (is_equals x.counts) x.token s

past_if_leads : (b : Bool) (x : Token) (s t : State) → Lower 1 s t → Leads (λ _ u. Lower 0 s u) ((if b then give tt else change (back x false)) t)
past_if_leads true x s t low = lower_less 1 s t low
past_if_leads false x s t low = kept_lower s t (back x false t) low refl refl refl (let e = size-cons (Tok x) t.rest in omega (arith, e))

past_leads : (o : Option Looked) (s t : State) → Lower (count o) s t → Leads (λ _ u. Lower 0 s u) (past_equals o t)
past_leads None s t low = low
past_leads (Some x) s t low = past_if_leads (is_equals x.counts) x.token s t low

pub sure_past : (o : Option Looked) → Sure (λ n. past_equals o)
sure_past o = record { mono = λ s. mono_same (past_equals o s); settles = λ s. settles_now (λ n. past_equals o s) (past_decided o s) }

-- a reading that puts back at most what the one before it took
pub lawful_behind : {A B : Type 0} (P : State → A → State → Type 0) (r : ByDepth A) (f : A → Reading B) → Lawful r → ((n : ℕ) (s : State) → Leads (P s) (r n s)) → ((v : A) → Sure (λ n. f v))
    → ((v : A) (s t : State) → P s v t → Leads (λ _ u. Lower 0 s u) (f v t)) → Lawful (chained r (λ v n. f v))
lawful_behind P r f l leads sure falls = record {
  mono = λ s. mono_chain (λ n. r n s) (λ n v. f v) (l.mono s) (λ v t. (sure v).mono t);
  settles = λ s. settles_chain (λ n. r n s) (λ n v. f v) (l.mono s) (λ v t. (sure v).mono t) (l.settles s) (λ v t gains e. (sure v).settles t);
  falls = λ n s. leads_chain (P s) (λ _ u. Lower 0 s u) (r n s) f (leads n s) (λ v t p. falls v s t p);
}

pub lawful_equals : Lawful optional_equals
lawful_equals = lawful_behind (λ s o t. Lower (count o) s t) (first_behind Spaces) past_equals (lawful_first Spaces) (first_leads Spaces) sure_past past_leads

-- a token that was looked at goes back
pub put_decided : (o : Option Looked) (s : State) → IsDecided (put_looked o s)
put_decided None s = tt
put_decided (Some x) s = tt

pub put_unlimited : (o : Option Looked) (s : State) → IsUnlimited (put_looked o s)
put_unlimited None s = tt
put_unlimited (Some x) s = tt

pub sure_put : (o : Option Looked) → Sure (λ n. put_looked o)
sure_put o = record { mono = λ s. mono_same (put_looked o s); settles = λ s. settles_now (λ n. put_looked o s) (put_decided o s) }

put_leads : (o : Option Looked) (s t : State) → Lower (count o) s t → Leads (λ _ u. Lower 0 s u) (put_looked o t)
put_leads None s t low = low
put_leads (Some x) s t low = past_if_leads false x.token s t low

pub lawful_ignore_spaces : Lawful ignore_spaces
lawful_ignore_spaces = lawful_behind (λ s o t. Lower (count o) s t) (first_behind Spaces) put_looked (lawful_first Spaces) (first_leads Spaces) sure_put put_leads

-- Numbers, dimensions and glue

abbrev pub number_value : ℤ → Reading Value
number_value z = give (values.Number z)

abbrev pub code_value : ℕ → Reading Value
code_value c = give (values.Number (pos c))

abbrev pub dimension_value : Scaled → Reading Value
dimension_value d = give (values.Number d.0)

abbrev pub glue_value : GlueValue → Reading Value
glue_value g = give (values.Glue g)

pub lawful_next_number : Lawful next_number
lawful_next_number = lawful_then read_int (λ z n. number_value z) lawful_int (λ z. lawful_plain (number_value z) (plain_give _))

among_if : (b : Bool) (n : ℕ) → Plain (if b then give n else fail BAD_CODE [])
among_if b n = plain_if b (give n) (fail BAD_CODE []) (plain_give n) (plain_fail _ _ _)

plain_among : (fits : ℕ → Bool) (z : ℤ) → Plain (among fits z)
plain_among fits (pos n) = among_if (fits n) n
plain_among fits (negsuc n) = plain_fail _ _ _

pub plain_category : (z : ℤ) → Plain (category_of z)
plain_category z = plain_then (among (λ k. nat_le k INVALID) z) (λ c. give (values.Number (pos c))) (plain_among (λ k. nat_le k INVALID) z) (λ c. plain_give _)

pub lawful_next_category : Lawful next_category
lawful_next_category = lawful_then read_int (λ z n. category_of z) lawful_int (λ z. lawful_plain (category_of z) (plain_category z))

pub lawful_next_code : Lawful next_code
lawful_next_code = lawful_then (read_index index.Character) (λ c n. code_value c) (lawful_index_of index.Character) (λ c. lawful_plain (code_value c) (plain_give _))

pub lawful_next_dimension : Lawful next_dimension
lawful_next_dimension = lawful_then read_dimen (λ d n. dimension_value d) lawful_dimen (λ d. lawful_plain (dimension_value d) (plain_give _))

pub lawful_next_glue : Lawful next_glue
lawful_next_glue = lawful_then read_glue (λ g n. glue_value g) lawful_glue (λ g. lawful_plain (glue_value g) (plain_give _))

-- Lists

plain_needed_start : (o : Option ListStart) → Plain (needed_start o)
plain_needed_start None = plain_fail _ _ _
plain_needed_start (Some start) = plain_give start

pub plain_list_start : (o : Option Looked) → Plain (list_start o)
plain_list_start None = plain_fail _ _ _
plain_list_start (Some x) = plain_by (λ s. begins_list (means s.world x.counts)) needed_start plain_needed_start

pub plain_value_now : (k : Key) → Plain (value_now k)
plain_value_now k = plain_by (λ s. s.world.top k) give plain_give

abbrev pub list_value : List Token → Reading Value
list_value list = give (values.List list)

pub lawful_list_value : (list : List Token) → Lawful (λ n. list_value list)
lawful_list_value list = lawful_plain (list_value list) (plain_give _)

pub lawful_absorbed_list : Lawful absorbed_list
lawful_absorbed_list = lawful_then (absorb false) (λ list n. list_value list) (lawful_absorb false) lawful_list_value

pub lawful_copied_list : (t : Target) → Lawful (copied_list t)
lawful_copied_list t = lawful_then (target_key t) (λ k n. value_now k) (lawful_target t) (λ k. lawful_plain (value_now k) (plain_value_now k))

pub lawful_list_from : (start : ListStart) → Lawful (list_from start)
lawful_list_from Group = lawful_absorbed_list
lawful_list_from (Register t) = lawful_copied_list t

pub lawful_list_by : (o : Option Looked) → Lawful (list_by o)
lawful_list_by o = lawful_then (λ n. list_start o) list_from (lawful_plain (list_start o) (plain_list_start o)) lawful_list_from

pub lawful_next_list : Lawful next_list
lawful_next_list = lawful_then (first_behind SpacesAndRelax) list_by (lawful_first SpacesAndRelax) lawful_list_by

-- Assignments

pub lawful_value : (k : Key) → Lawful (value_for k)
lawful_value (keys.Cat c) = lawful_next_category
lawful_value (keys.Lower c) = lawful_next_code
lawful_value (keys.Upper c) = lawful_next_code
lawful_value (keys.Dimen r) = lawful_next_dimension
lawful_value (keys.Skip r) = lawful_next_glue
lawful_value (keys.Toks r) = lawful_next_list
lawful_value k = lawful_next_number

pub lawful_set : (global : Bool) (k : Key) (v : Value) → Lawful (λ n. change (set global k v))
lawful_set global k v = lawful_plain (change (set global k v)) (plain_set global k v)

pub lawful_assign_next : (global : Bool) (k : Key) → Lawful (assign_next global k)
lawful_assign_next global k = lawful_then (value_for k) (λ v n. change (set global k v)) (lawful_value k) (lawful_set global k)

pub lawful_assign_to : (global : Bool) (k : Key) → Lawful (assign_to global k)
lawful_assign_to global k = lawful_then optional_equals (λ _. assign_next global k) lawful_equals (λ _. lawful_assign_next global k)

pub lawful_assignment : (global : Bool) (t : Target) → Lawful (assignment global t)
lawful_assignment global t = lawful_then (target_key t) (assign_to global) (lawful_target t) (lawful_assign_to global)

-- Short names

pub lawful_short_number : (global : Bool) (what : ShortFor) (k : Key) → Lawful (short_number global what k)
lawful_short_number global what k =
    lawful_then (read_index (short_index what)) (λ number n. change (assign global k (short_meaning what number))) (lawful_index_of (short_index what)) (λ number. lawful_plain (change (assign global k (short_meaning what number))) (plain_assign global k _))

pub lawful_short_equals : (global : Bool) (what : ShortFor) (k : Key) → Lawful (short_equals global what k)
lawful_short_equals global what k = lawful_then optional_equals (λ _. short_number global what k) lawful_equals (λ _. lawful_short_number global what k)

abbrev pub relaxes : Bool → Key → Reading (Unit {0})
relaxes global k = change (assign global k (meanings.Builtin RELAX))

pub lawful_short_key : (global : Bool) (what : ShortFor) (k : Key) → Lawful (short_key global what k)
lawful_short_key global what k = lawful_then (λ n. relaxes global k) (λ _. short_equals global what k) (lawful_plain (relaxes global k) (plain_assign global k _)) (λ _. lawful_short_equals global what k)

pub lawful_short_name : (global : Bool) (what : ShortFor) → Lawful (short_name global what)
lawful_short_name global what = lawful_then (λ n. next_key) (short_key global what) (lawful_plain next_key plain_next_key) (lawful_short_key global what)

-- Counting

plain_counted : (o : Option Target) → Plain (counted o)
plain_counted None = plain_fail _ _ _
plain_counted (Some t) = plain_if (is_counted (variable_of t)) (give t) (fail MISPLACED []) (plain_give t) (plain_fail _ _ _)

pub plain_counted_of : (o : Option Token) → Plain (counted_of o)
plain_counted_of None = plain_fail _ _ _
plain_counted_of (Some t) = plain_by (λ s. target_of (means s.world t)) counted plain_counted

pub lawful_next_counted : Lawful next_counted
lawful_next_counted = lawful_then fetch (λ o n. counted_of o) lawful_fetch (λ o. lawful_plain (counted_of o) (plain_counted_of o))

plain_count_of : (q : Internal) → Plain (count_of q)
plain_count_of (internals.Number i) = plain_give _
plain_count_of (internals.Dimension d) = plain_give _
plain_count_of (internals.Glue g) = plain_give _
plain_count_of (internals.Tokens list) = plain_fail _ _ _

pub plain_count_now : (k : Key) → Plain (count_now k)
plain_count_now k = plain_then (value_of k) count_of (plain_by (λ s. internal_in k (s.world.top k)) give plain_give) plain_count_of

pub plain_fits : (r : Result Counted NumFault) → Plain (fits r)
plain_fits (Ok c) = plain_give c
plain_fits (Err e) = plain_fail _ _ _

pub lawful_fits : (r : Result Counted NumFault) → Lawful (λ n. fits r)
lawful_fits r = lawful_plain (fits r) (plain_fits r)

pub lawful_by_number : (f : ℤ → Result Counted NumFault) → Lawful (by_number f)
lawful_by_number f = lawful_then read_int (λ b n. fits (f b)) lawful_int (λ b. lawful_fits (f b))

pub lawful_by_dimension : (f : Scaled → Result Counted NumFault) → Lawful (by_dimension f)
lawful_by_dimension f = lawful_then read_dimen (λ b n. fits (f b)) lawful_dimen (λ b. lawful_fits (f b))

pub lawful_by_glue : (f : GlueValue → Result Counted NumFault) → Lawful (by_glue f)
lawful_by_glue f = lawful_then read_glue (λ b n. fits (f b)) lawful_glue (λ b. lawful_fits (f b))

pub lawful_advanced : (c : Counted) → Lawful (advanced c)
lawful_advanced (Number a) = lawful_by_number (number_sum a)
lawful_advanced (Dimension a) = lawful_by_dimension (dimension_sum a)
lawful_advanced (Glue a) = lawful_by_glue (sum_of_glue a)

pub lawful_computed : (what : Arithmetic) (c : Counted) → Lawful (computed what c)
lawful_computed Advance c = lawful_advanced c
lawful_computed Multiply c = lawful_by_number (product c)
lawful_computed Divide c = lawful_by_number (quotient c)

pub lawful_count_on : (global : Bool) (what : Arithmetic) (k : Key) (old : Counted) → Lawful (count_on global what k old)
lawful_count_on global what k old = lawful_then (computed what old) (λ c n. change (set global k (value_from c))) (lawful_computed what old) (λ c. lawful_set global k (value_from c))

pub lawful_count_with : (global : Bool) (what : Arithmetic) (k : Key) → Lawful (count_with global what k)
lawful_count_with global what k = lawful_then (λ n. count_now k) (count_on global what k) (lawful_plain (count_now k) (plain_count_now k)) (lawful_count_on global what k)

pub lawful_count_by : (global : Bool) (what : Arithmetic) (k : Key) → Lawful (count_by global what k)
lawful_count_by global what k = lawful_then (read_keyword (codes "by")) (λ _. count_with global what k) (lawful_keyword (codes "by")) (λ _. lawful_count_with global what k)

pub lawful_count_target : (global : Bool) (what : Arithmetic) (t : Target) → Lawful (count_target global what t)
lawful_count_target global what t = lawful_then (target_key t) (count_by global what) (lawful_target t) (lawful_count_by global what)

pub lawful_arithmetic : (global : Bool) (what : Arithmetic) → Lawful (arithmetic global what)
lawful_arithmetic global what = lawful_then next_counted (count_target global what) lawful_next_counted (lawful_count_target global what)

-- Keys of variables have no names

pub named_key : (texts : Table) (r : Registers) (n : ℕ) → key_of (variable_in r) n ≡ key_at texts (key_by_code (variable_in r) n)
named_key texts registers.Count n = refl
named_key texts registers.Dimen n = refl
named_key texts registers.Skip n = refl
named_key texts registers.Toks n = refl

pub variable_same : (v : Variable) (n : ℕ) (t u : Table) → key_at t (key_by_code v n) ≡ key_at u (key_by_code v n)
variable_same variables.Cat n t u = refl
variable_same variables.Lower n t u = refl
variable_same variables.Upper n t u = refl
variable_same variables.EscapeChar n t u = refl
variable_same variables.EndLineChar n t u = refl
variable_same variables.Count n t u = refl
variable_same variables.Dimen n t u = refl
variable_same variables.Skip n t u = refl
variable_same variables.Toks n t u = refl

pub same_key : (k : KeyCode) → IsVariable k → (t u : Table) → key_at t k ≡ key_at u k
same_key k v t u = ap (key_at t) v.is.is ∙ variable_same v.variable v.is.number t u ∙ ap (key_at u) (sym v.is.is)

pub counted_variable : (k : KeyCode) → IsCounted k → IsVariable k
counted_variable k c = record { variable = c.variable; is = c.is }

-- the code of a character is small
pub scalar_low : (n : ℕ) → IsScalar n → n < 2 ^ 31
scalar_low n h = grind (arith, h)

-- and are given in a table where they are in another
pub variable_within : (v : Variable) (n m count : ℕ) → KeyWithin m (key_by_code v n) → KeyWithin count (key_by_code v n)
variable_within variables.Cat n m count h = h
variable_within variables.Lower n m count h = h
variable_within variables.Upper n m count h = h
variable_within variables.EscapeChar n m count h = tt
variable_within variables.EndLineChar n m count h = tt
variable_within variables.Count n m count h = tt
variable_within variables.Dimen n m count h = tt
variable_within variables.Skip n m count h = tt
variable_within variables.Toks n m count h = tt

pub key_given : (k : KeyCode) → IsVariable k → (m count : ℕ) → KeyWithin m k → KeyWithin count k
key_given k v m count h = subst (KeyWithin count) (sym v.is.is) (variable_within v.variable v.is.number m count (subst (KeyWithin m) v.is.is h))

-- a count is the same value for both
pub count_value : (texts : Table) (c : Counted) → value_at texts (value_from c) ≡ value_from c
count_value texts (Number i) = refl
count_value texts (Dimension d) = refl
count_value texts (Glue g) = refl
