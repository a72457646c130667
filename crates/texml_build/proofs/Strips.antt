-- Stripping one space at an end.
use Rattle.std.proofs.Common.{arith, ◌≡◌, ◌≢◌, ◌∙◌, ap, sym, refl, ℕ, ◌+◌, ◌<◌, List, [], ◌∷◌, length, take, drop, get_or, reverse}
use Rattle.std.proofs.lemmas.Grind.{common_steps}
use Rattle.std.proofs.lemmas.List.{drop_more, take_more, reverse-append, reverse-reverse}
use Rattle.texml_build.specs.Trim.{strip_start, strip_end}

pub start-space : (t : List ℕ) (i : ℕ) → i < length t → get_or t i 0 ≡ 32 → strip_start (drop (i + 1) t) ≡ strip_start (drop i t)
start-space t i h e = rw (drop_more t i 0 h, e) refl

stays : (c : ℕ) (cs : List ℕ) → c ≢ 32 → strip_start (c ∷ cs) ≡ c ∷ cs
stays c cs n = grind (arith, common_steps)

pub start-other : (t : List ℕ) (i : ℕ) → i < length t → get_or t i 0 ≢ 32 → strip_start (drop i t) ≡ drop i t
start-other t i h n = rw (drop_more t i 0 h) (stays (get_or t i 0) (drop (i + 1) t) n)

backwards : (t : List ℕ) (i : ℕ) → i < length t → reverse (take (i + 1) t) ≡ get_or t i 0 ∷ reverse (take i t)
backwards t i h = ap reverse (take_more t i 0 h) ∙ reverse-append (take i t) (get_or t i 0 ∷ [])

pub end-space : (t : List ℕ) (i : ℕ) → i < length t → get_or t i 0 ≡ 32 → strip_end (take i t) ≡ strip_end (take (i + 1) t)
end-space t i h e = rw (backwards t i h, e) refl

pub end-other : (t : List ℕ) (i : ℕ) → i < length t → get_or t i 0 ≢ 32 → strip_end (take (i + 1) t) ≡ take (i + 1) t
end-other t i h n = ap (λ l. reverse (strip_start l)) (backwards t i h) ∙ ap reverse (stays (get_or t i 0) (reverse (take i t)) n) ∙ ap reverse (sym (backwards t i h)) ∙ reverse-reverse (take (i + 1) t)
