-- Text that is skipped up to what is sought for a conditional, word by word.
use Rattle.std.proofs.Common.{◌≡◌, ◌+◌, ◌≤◌, ℕ, zero, suc, Bool, true, false, nat_le, if◌then◌else◌, List, [], ◌∷◌, length, map, refl, sym, ap, ◌∙◌, arith}
use Rattle.texml_token.specs.Token.{Token}
use Rattle.texml_token.specs.declared.fault_code.TheConstants.{FILE_ENDED}
use Rattle.texml_cond.specs.declared.limits.Word.{Word}
use Rattle.texml_cond.specs.declared.limits.Word.TheVariants as words
use Rattle.texml_cond.specs.Skipping.{skip}
use Rattle.texml_input.specs.Rest.{Item, Tok, Frozen, Text, item_size, size}
use Rattle.texml_input.specs.Next.{next}
use Rattle.texml_input.specs.Codes.{cats_of, end_of}
use Rattle.texml_expand.specs.State.{State, Tex, room, nothing, Answer, Done, Ended, Unfinished, Reading, fault_at, after, chain}
use Rattle.texml_expand.specs.Take.{take_given, means}
use Rattle.texml_expand.specs.Least.{inside, inner_token}
use Rattle.texml_expand.specs.Branches.{Sought, Met, Ends, Chooses, Forbidden, Passes, meets}
use Rattle.texml_expand.specs.Conditionals.{closed, reached, skipped, met_own, met_inner, met_word, seek_past, seek}
use Rattle.texml_expand.proofs.Items.{size-cons}
use Rattle.texml_expand.proofs.Deciding.{after_nothing}
use Rattle.texml_expand.proofs.Leading.{Leads}
use Rattle.texml_expand.proofs.Stepping.{by_least_cut}
use Rattle.texml_expand.proofs.Skips.{Reaches, skipped_reaches}

-- Where nothing is left, no word can be reached

some_item : (x : Item Token) → 1 ≤ item_size x
some_item (Tok t) = omega arith
some_item (Frozen t) = omega arith
some_item (Text p) = omega arith

no_items : (items : List (Item Token)) → size items ≤ 0 → items ≡ []
no_items [] le = refl
no_items (x ∷ items) le = absurd (omega (arith, le, size-cons x items, some_item x))

ends_here : (s : State) → s.rest ≡ [] → inner_token s ≡ Ended (Tex (fault_at FILE_ENDED [] s.place)) nothing
ends_here s e = ap (λ r. chain (take_given (next (cats_of s.world) (end_of s.world) r s.place) s) inside) e

nothing_left : (s : State) → room s ≤ 0 → skipped s ≡ Ended (Tex (fault_at FILE_ENDED [] s.place)) nothing
nothing_left s le = by_least_cut (λ list. reached (skip (map (means s.world) list))) s (Tex (fault_at FILE_ENDED [] s.place)) nothing (ends_here s (no_items s.rest (omega (arith, le)))) refl

-- Each number of words that is no less than the room gives the same

module _ (at : ℕ) (f g : Sought → Reading (Unit {0})) (t : State) (same : (sought : Sought) (u : State) → room u ≤ room t → f sought u ≡ g sought u) where
  same_own : (m : Met) → met_own f at m t ≡ met_own g at m t
  same_own Ends = refl
  same_own (Chooses limit) = refl
  same_own Forbidden = refl
  same_own (Passes sought) = same sought t (omega arith)

  same_inner : (sought : Sought) (word : Word) → met_inner (f sought) word t ≡ met_inner (g sought) word t
  same_inner sought words.Fi = ap (after nothing) (same sought (closed t) (omega arith))
  same_inner sought words.Else = same sought t (omega arith)
  same_inner sought words.Or = same sought t (omega arith)

  same_if : (b : Bool) (sought : Sought) (word : Word) → (if b then met_own f at (meets sought word) else met_inner (f sought) word) t ≡ (if b then met_own g at (meets sought word) else met_inner (g sought) word) t
  same_if true sought word = same_own (meets sought word)
  same_if false sought word = same_inner sought word

  same_word : (sought : Sought) (word : Word) → met_word f at sought word t ≡ met_word g at sought word t
  same_word sought word = same_if (nat_le (length t.conditionals) (at + 1)) sought word

same_behind : (at : ℕ) (sought : Sought) (f g : Sought → Reading (Unit {0})) (s : State) (a : Answer Word) → Leads (λ word t. Reaches s t) a → ((sought : Sought) (u : State) → room u + 1 ≤ room s → f sought u ≡ g sought u)
    → chain a (met_word f at sought) ≡ chain a (met_word g at sought)
same_behind at sought f g s (Done word t gains) h same = ap (after gains) (same_word at f g t (λ c u le. same c u (omega (arith, le, h.room))) sought word)
same_behind at sought f g s (Ended e gains) h same = refl
same_behind at sought f g s (Unfinished gains) h same = refl

enough : (n m : ℕ) (at : ℕ) (sought : Sought) (s : State) → room s ≤ n → room s ≤ m → seek_past n at sought s ≡ seek_past m at sought s
enough zero zero at sought s h k = refl
enough zero (suc m) at sought s h k = sym (ap (λ a. chain a (met_word (seek_past m at) at sought)) (nothing_left s h))
enough (suc n) zero at sought s h k = ap (λ a. chain a (met_word (seek_past n at) at sought)) (nothing_left s k)
enough (suc n) (suc m) at sought s h k =
    same_behind at sought (seek_past n at) (seek_past m at) s (skipped s) (skipped_reaches s) (λ c u le. enough n m at c u (omega (arith, le, h)) (omega (arith, le, k)))

-- One word after the other

-- a word is reached, and what it does
pub seek_is : (at : ℕ) (sought : Sought) (s : State) → seek at sought s ≡ chain (skipped s) (met_word (seek at) at sought)
seek_is at sought s =
    enough (room s) (suc (room s)) at sought s (omega arith) (omega arith)
    ∙ same_behind at sought (seek_past (room s) at) (seek at) s (skipped s) (skipped_reaches s) (λ c u le. enough (room s) (room u) at c u (omega (arith, le)) (omega arith))

-- the state behind a word of a conditional that began inside the test
abbrev pub passed : Word → State → State
passed words.Fi t = closed t
passed word t = t

module _ (at : ℕ) (sought : Sought) (t : State) (word : Word) where
  pub word_own : nat_le (length t.conditionals) (at + 1) ≡ true → met_word (seek at) at sought word t ≡ met_own (seek at) at (meets sought word) t
  word_own own = ap (λ b. (if b then met_own (seek at) at (meets sought word) else met_inner (seek at sought) word) t) own

inner_by : (at : ℕ) (sought : Sought) (t : State) (word : Word) → met_inner (seek at sought) word t ≡ seek at sought (passed word t)
inner_by at sought t words.Fi = after_nothing (seek at sought (closed t))
inner_by at sought t words.Else = refl
inner_by at sought t words.Or = refl

pub word_inner : (at : ℕ) (sought : Sought) (t : State) (word : Word) → nat_le (length t.conditionals) (at + 1) ≡ false → met_word (seek at) at sought word t ≡ seek at sought (passed word t)
word_inner at sought t word inner = ap (λ b. (if b then met_own (seek at) at (meets sought word) else met_inner (seek at sought) word) t) inner ∙ inner_by at sought t word
