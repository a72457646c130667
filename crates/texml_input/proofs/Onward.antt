-- Turns one after the other.
use Rattle.std.proofs.Common.{◌≡◌, ℕ, ◌+◌, ◌≤◌, Bool, true, false, ◌||◌, List, [], refl, sym, ap, ◌∙◌, arith, Option, Result, Err}
use Rattle.texml_base.specs.Rising.{add_up}
use Rattle.texml_base.specs.Outside.{Shelf}
use Rattle.texml_text.proofs.Filling.{add_up_twice}
use Rattle.texml_input.specs.Rest.{Item, Place}
use Rattle.texml_token.specs.Token.{Token}
use Rattle.texml_token.specs.Numbers.{Table}
use Rattle.texml_input.specs.Next.{Given, Got, AtEnd, Invalid, NotUtf8, behind, bytes_of, taken, next}
use Rattle.texml_input.specs.Held.{Source, front_size}
use Rattle.texml_input.specs.Keeping.{Spends}
use Rattle.texml_input.specs.Answers.{IsNext, Loads, broken_size}
use Rattle.texml_input.specs.Turning.{Turns, turn_bytes}
use Rattle.texml_input.specs.declared.fault.Read.{Read}
use Rattle.texml_input.specs.declared.fault.InputFault.{InputFault}
use Rattle.texml_input.specs.declared.fault.InputFault.TheVariants as fault
use Rattle.texml_input.proofs.Pages.{bytes_behind}

or_assoc : (a b c : Bool) → ((a || b) || c) ≡ (a || (b || c))
or_assoc true b c = refl
or_assoc false b c = refl

pub behind_twice : (m n : ℕ) (a b : Bool) (g : Given) → behind m a (behind n b g) ≡ behind (m + n) (a || b) g
behind_twice m n a b (Got r rest place k) =
    ap (λ x. Got (record r { crossed = x }) rest place (m + (n + k))) (sym (or_assoc a b r.crossed)) ∙ ap (Got (record r { crossed = (a || b) || r.crossed }) rest place) (omega arith)
behind_twice m n a b (AtEnd place k) = ap (AtEnd place) (omega arith)
behind_twice m n a b (Invalid c place k) = ap (Invalid c place) (omega arith)
behind_twice m n a b (NotUtf8 place k) = ap (NotUtf8 place) (omega arith)

pub behind_nothing : (g : Given) → g ≡ behind 0 false g
behind_nothing (Got r rest place k) = ap (Got r rest place) (omega arith)
behind_nothing (AtEnd place k) = ap (AtEnd place) (omega arith)
behind_nothing (Invalid c place k) = ap (Invalid c place) (omega arith)
behind_nothing (NotUtf8 place k) = ap (NotUtf8 place) (omega arith)

-- what a rest gives is what it gives from now on, behind what was loaded and passed
pub record Onward (all : Given) (crossed : Bool) (now : Given) : Type 0 where
  pub loaded : ℕ
  pub is : all ≡ behind loaded crossed now

pub onward_start : (all : Given) → Onward all false all
onward_start all = record { loaded = 0; is = behind_nothing all }

or_false : (a : Bool) → (a || false) ≡ a
or_false true = refl
or_false false = refl

or_true : (a : Bool) → (a || true) ≡ true
or_true true = refl
or_true false = refl

module _ (all : Given) (crossed : Bool) (a b : Given) (o : Onward all crossed a) where
  pub onward_again : a ≡ b → Onward all crossed b
  onward_again e = record { loaded = o.loaded; is = o.is ∙ ap (behind o.loaded crossed) e }

  pub onward_loaded : (n : ℕ) → a ≡ behind n false b → Onward all crossed b
  onward_loaded n e = record {
    loaded = o.loaded + n;
    is = o.is ∙ ap (behind o.loaded crossed) e ∙ behind_twice o.loaded n crossed false b ∙ ap (λ c. behind (o.loaded + n) c b) (or_false crossed);
  }

  pub onward_ended : a ≡ behind 0 true b → Onward all true b
  onward_ended e = record {
    loaded = o.loaded + 0;
    is = o.is ∙ ap (behind o.loaded crossed) e ∙ behind_twice o.loaded 0 crossed true b ∙ ap (λ c. behind (o.loaded + 0) c b) (or_true crossed);
  }

-- the same, with the bytes that were given until now
pub record Spent (old now : Shelf) (a b : List Source) (all : Given) (crossed : Bool) (from : Given) : Type 0 where
  pub loaded : ℕ
  pub is : all ≡ behind loaded crossed from
  pub spends : Spends old now a b loaded

pub spends_none : (s : Shelf) (a : List Source) → Spends s s a a 0
spends_none s a = record { given = 0; total = omega arith; balance = omega arith }

pub spends_then : (s t u : Shelf) (a b c : List Source) (m n : ℕ) → Spends s t a b m → Spends t u b c n → Spends s u a c (m + n)
spends_then s t u a b c m n p q = record {
  given = p.given + q.given;
  total = q.total ∙ ap (λ k. add_up k q.given) p.total ∙ add_up_twice s.total p.given q.given;
  balance = let x = p.balance in let y = q.balance in omega arith;
}

pub spent_start : (s : Shelf) (a : List Source) (all : Given) → Spent s s a a all false all
spent_start s a all = record { loaded = 0; is = behind_nothing all; spends = spends_none s a }

module _ (s t u : Shelf) (a b c : List Source) (all : Given) (crossed : Bool) (x y : Given) (o : Spent s t a b all crossed x) where
  pub spent_again : Spends t u b c 0 → x ≡ y → Spent s u a c all crossed y
  spent_again q e = record {
    loaded = o.loaded + 0;
    is = o.is ∙ ap (behind o.loaded crossed) e ∙ ap (λ n. behind n crossed y) (omega arith);
    spends = spends_then s t u a b c o.loaded 0 o.spends q;
  }

  pub spent_loaded : (n : ℕ) → Spends t u b c n → x ≡ behind n false y → Spent s u a c all crossed y
  spent_loaded n q e = record {
    loaded = o.loaded + n;
    is = o.is ∙ ap (behind o.loaded crossed) e ∙ behind_twice o.loaded n crossed false y ∙ ap (λ d. behind (o.loaded + n) d y) (or_false crossed);
    spends = spends_then s t u a b c o.loaded n o.spends q;
  }

  pub spent_ended : Spends t u b c 0 → x ≡ behind 0 true y → Spent s u a c all true y
  spent_ended q e = record {
    loaded = o.loaded + 0;
    is = o.is ∙ ap (behind o.loaded crossed) e ∙ behind_twice o.loaded 0 crossed true y ∙ ap (λ d. behind (o.loaded + 0) d y) (or_true crossed);
    spends = spends_then s t u a b c o.loaded 0 o.spends q;
  }

-- the answer
pub loads_last : (s t u : Shelf) (a b c : List Source) (all : Given) (crossed : Bool) (x : Given) → Spent s t a b all crossed x
    → {A : Type 0} (r : Result A InputFault) (n : ℕ) → Spends t u b c n → n + broken_size r u c ≤ bytes_of x → Loads s u a c all r
loads_last s t u a b c all crossed x o r n q le = record {
  loaded = o.loaded + n;
  within = let e = ap bytes_of o.is ∙ bytes_behind o.loaded crossed x in omega arith;
  spends = spends_then s t u a b c o.loaded n o.spends q;
}

-- the first token of the whole
pub next_token : (all now : Given) (crossed : Bool) (t : Token) (frozen : Bool) (rest : List (Item Token)) (place : Place) → Onward all crossed now → now ≡ Got (taken t frozen) rest place 0
    → (bytes : ℕ) × (all ≡ Got (record { token = t; frozen = frozen; crossed = crossed }) rest place bytes)
next_token all now crossed t frozen rest place o e =
    (o.loaded + 0, o.is ∙ ap (behind o.loaded crossed) e ∙ ap (λ c. Got (record { token = t; frozen = frozen; crossed = c }) rest place (o.loaded + 0)) (or_false crossed))

pub next_end : (all now : Given) (crossed : Bool) (rest : List (Item Token)) (place : Place) → Onward all crossed now → (now ≡ AtEnd place 0) × (rest ≡ [])
    → (bytes : ℕ) × (all ≡ AtEnd place bytes) × (rest ≡ [])
next_end all now crossed rest place o e = (o.loaded + 0, o.is ∙ ap (behind o.loaded crossed) e.0, e.1)

module _ (cats : ℕ → ℕ) (end : Option ℕ) (texts : Table) (front after : ℕ) (a : List (Item Token)) (p : Place) (b : List (Item Token)) (q : Place) where
  pub next_fault : (all : Given) (crossed : Bool) (f : InputFault) → Onward all crossed (next cats end a p) → Turns cats end texts front after a p (Err f) b q → IsNext all (Err f) b q
  next_fault all crossed (fault.Invalid c) o e = (o.loaded + 0, o.is ∙ ap (behind o.loaded crossed) e)
  next_fault all crossed fault.NotUtf8 o e = (o.loaded + front, o.is ∙ ap (behind o.loaded crossed) e)
  next_fault all crossed fault.Failed o e = tt
  next_fault all crossed fault.NoMemory o e = tt

  -- the bytes of a fault are among those that the rest loads
  pub fault_bytes : (shelf : Shelf) (s : List Source) (f : InputFault) → front_size shelf s ≡ after → Turns cats end texts front after a p (Err f) b q
      → turn_bytes (Err f) front + broken_size {A = Option Read} (Err f) shelf s ≤ bytes_of (next cats end a p)
  fault_bytes shelf s (fault.Invalid c) same e = omega arith
  fault_bytes shelf s fault.NotUtf8 same e = let n = ap bytes_of e in omega arith
  fault_bytes shelf s fault.Failed same e = omega arith
  fault_bytes shelf s fault.NoMemory same e = omega arith
