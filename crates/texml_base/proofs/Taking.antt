-- Pieces that a sink takes one after the other.
use Rattle.std.proofs.Common.{◌≡◌, ℕ, zero, suc, List, [], ◌∷◌, ◌++◌, length, take, Result, Ok, Err, None, Some, refl, ap, ◌∙◌, append_assoc, append-nil, length-append, arith}
use Rattle.std.specs.declared.option.Option.{Option}
use Rattle.std.specs.Option.{option_map}
use Rattle.texml_base.specs.Outside.{Ink, inked, Takes}
use Rattle.texml_base.specs.Rising.{add_up}

bytes_twice : (o : Option (List ℕ)) (a b : List ℕ) → option_map (λ xs. xs ++ b) (option_map (λ xs. xs ++ a) o) ≡ option_map (λ xs. xs ++ (a ++ b)) o
bytes_twice None a b = refl
bytes_twice (Some xs) a b = ap (λ l. Some l) (append_assoc xs a b)

count_twice : (o : Option ℕ) (a b : List ℕ)
    → option_map (λ n. add_up n (length b)) (option_map (λ n. add_up n (length a)) o) ≡ option_map (λ n. add_up n (length (a ++ b))) o
count_twice None a b = refl
count_twice (Some n) a b =
    let same : add_up (add_up n (length a)) (length b) ≡ add_up n (length (a ++ b)) = omega (arith, length-append a b) in ap (λ m. Some m) same

pub inked-append : (ink : Ink) (a b : List ℕ) → inked (inked ink a) b ≡ inked ink (a ++ b)
inked-append ink a b =
    ap (λ o. let i : Ink = record { bytes = o; count = (inked (inked ink a) b).count } in i) (bytes_twice ink.bytes a b)
    ∙ ap (λ o. let i : Ink = record { bytes = (inked ink (a ++ b)).bytes; count = o } in i) (count_twice ink.count a b)

bytes_kept : (o : Option (List ℕ)) → option_map (λ xs. xs ++ []) o ≡ o
bytes_kept None = refl
bytes_kept (Some xs) = ap (λ l. Some l) (append-nil xs)

count_kept : (o : Option ℕ) → option_map (λ n. add_up n 0) o ≡ o
count_kept None = refl
count_kept (Some n) = let same : add_up n 0 ≡ n = omega arith in ap (λ m. Some m) same

-- no more bytes change nothing
pub inked-nil : (ink : Ink) → inked ink [] ≡ ink
inked-nil ink =
    ap (λ o. let i : Ink = record { bytes = o; count = (inked ink []).count } in i) (bytes_kept ink.bytes)
    ∙ ap (λ o. let i : Ink = record { bytes = ink.bytes; count = o } in i) (count_kept ink.count)

-- the front of a front
pub cut_short : (n : ℕ) (a b : List ℕ) → (m : ℕ) × (take n a ≡ take m (a ++ b))
cut_short zero a b = (0, refl)
cut_short (suc n) [] b = (0, refl)
cut_short (suc n) (x ∷ a) b = let r = cut_short n a b in (suc r.0, ap (λ l. x ∷ l) r.1)

-- the front of what follows
pub cut_later : (n : ℕ) (a b : List ℕ) → (m : ℕ) × (a ++ take n b ≡ take m (a ++ b))
cut_later n [] b = (n, refl)
cut_later n (x ∷ a) b = let r = cut_later n a b in (suc r.0, ap (λ l. x ∷ l) r.1)

pub takes_then : {E : Type 0} (old mid new : Ink) (r : Result (Unit {0}) E) (a b : List ℕ) → mid ≡ inked old a → Takes mid new r b → Takes old new r (a ++ b)
takes_then old mid new (Ok u) a b first then = then ∙ ap (λ i. inked i b) first ∙ inked-append old a b
takes_then old mid new (Err e) a b first then =
    let m = cut_later then.0 a b in
    (m.0, then.1 ∙ ap (λ i. inked i (take then.0 b)) first ∙ inked-append old a (take then.0 b) ∙ ap (inked old) m.1)

pub takes_first : (old new : Ink) (a b : List ℕ) → (n : ℕ) × (new ≡ inked old (take n a)) → (n : ℕ) × (new ≡ inked old (take n (a ++ b)))
takes_first old new a b cut = let m = cut_short cut.0 a b in (m.0, cut.1 ∙ ap (inked old) m.1)
