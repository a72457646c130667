-- Bytes that are put one behind the other.
use Rattle.std.proofs.Common.{◌≡◌, ◌∙◌, sym, ap, subst, ℕ, zero, suc, ◌+◌, ◌-◌, ◌<◌, ◌≤◌, ◌/◌, ◌%◌, ◌^◌, List, [], ◌∷◌, ◌++◌, length, take, drop, set, map, arith, append_assoc, append-nil, refl}
use Rattle.std.proofs.lemmas.List.{take_more_set, drop-set-lt, drop-drop, length-append, map-append}
use Rattle.std.proofs.lemmas.Fmt.{decimal_step}
use Rattle.std.specs.Fmt.{decimal}
use Rattle.texml_fixed.specs.Decimals.{last_digits}
use Rattle.texml_fixed.specs.Putting.{Puts}

pub puts_byte : (s : List ℕ) (at x : ℕ) → at < length s → Puts s (set s at x) at (at + 1) (x ∷ [])
puts_byte s at x within = record {
  end = omega arith;
  text = take_more_set s at x within;
  rest = drop-set-lt (at + 1) s at x (omega arith);
}

drop_further : (s t : List ℕ) (a k : ℕ) → drop a s ≡ drop a t → drop (a + k) s ≡ drop (a + k) t
drop_further s t a k same = sym (drop-drop k a s) ∙ ap (drop k) same ∙ drop-drop k a t

pub puts_both : {s t u : List ℕ} {a b c : ℕ} {xs ys : List ℕ} → Puts s t a b xs → Puts t u b c ys → Puts s u a c (xs ++ ys)
puts_both {s} {t} {u} {a} {b} {c} {xs} {ys} first then =
    let far : drop c t ≡ drop c s = subst (λ n. drop n t ≡ drop n s) (sym then.end) (drop_further t s b (length ys) first.rest) in
    record {
      end = omega (arith, first.end, then.end, length-append xs ys);
      text = then.text ∙ ap (λ l. l ++ ys) first.text ∙ append_assoc (take a s) xs ys;
      rest = then.rest ∙ far;
    }

pub puts_none : (s : List ℕ) (a : ℕ) → Puts s s a a []
puts_none s a = record { end = omega arith; text = sym (append-nil (take a s)); rest = refl }

pub length-last_digits : (k n : ℕ) → length (last_digits k n) ≡ k
length-last_digits zero n = refl
length-last_digits (suc k) n =
    omega (arith, length-append (last_digits k (n / 10)) (n % 10 ∷ []), length-last_digits k (n / 10))

-- the digits of a number, by its last one
pub puts_decimal : {s t u : List ℕ} {a b c : ℕ} (n : ℕ) → 10 ≤ n → n < 2 ^ 32 → Puts s t a b (decimal (n / 10)) →
    Puts t u b c ((48 + n % 10) ∷ []) → Puts s u a c (decimal n)
puts_decimal {s} {t} {u} {a} {b} {c} n low high first then =
    subst (λ l. Puts s u a c l) (sym (decimal_step n low (omega arith))) (puts_both first then)

pub length-decimal_step : (n : ℕ) → 10 ≤ n → n < 2 ^ 32 → length (decimal n) ≡ length (decimal (n / 10)) + 1
length-decimal_step n low high = ap length (decimal_step n low (omega arith)) ∙ length-append (decimal (n / 10)) ((48 + n % 10) ∷ [])

-- the last digits of a number, by its very last one
pub puts_last_digits : {s t u : List ℕ} {a b c : ℕ} (k n : ℕ) → (k ≡ 0 → ⊥) →
    Puts s t a b (map (λ d. 48 + d) (last_digits (k - 1) (n / 10))) → Puts t u b c ((48 + n % 10) ∷ []) →
    Puts s u a c (map (λ d. 48 + d) (last_digits k n))
puts_last_digits zero n some first then = absurd (some refl)
puts_last_digits {s} {t} {u} {a} {b} {c} (suc k) n some first then =
    let e : suc k - 1 ≡ k = omega arith in
    let same : Puts s t a b (map (λ d. 48 + d) (last_digits k (n / 10))) = subst (λ j. Puts s t a b (map (λ d. 48 + d) (last_digits j (n / 10)))) e first in
    subst (λ l. Puts s u a c l) (sym (map-append (λ d. 48 + d) (last_digits k (n / 10)) (n % 10 ∷ []))) (puts_both same then)
