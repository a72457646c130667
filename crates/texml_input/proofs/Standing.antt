-- What the rest is behind each call.
use Rattle.std.proofs.Common.{◌≡◌, ◌≢◌, ℕ, ◌+◌, ◌*◌, Bool, true, false, cond, IsTrue, List, [], ◌∷◌, ◌++◌, map, replicate, zero, suc, refl, sym, ap, ap₂, ◌∙◌, subst, arith, inl, inr, Some}
use Rattle.std.specs.List.{All}
use Rattle.std.proofs.lemmas.Bool.{eq-eqb, ne_eqb, cases_eq}
use Rattle.std.proofs.lemmas.List.Elements.{All-cons}
use Rattle.texml_base.specs.Outside.{Shelf, in_use, IsOpened}
use Rattle.texml_token.specs.Numbers.{Table, token_at, tokens_at, TokenWithin, TokensWithin, BodyWithin}
use Rattle.texml_token.specs.declared.tokens.Token.{Token as TokenCode}
use Rattle.texml_text.specs.File.{rows}
use Rattle.texml_input.specs.Put.{put, put_code}
use Rattle.texml_input.specs.Rest.{Tok, Frozen, Text, fresh, back_as, items_at, has_text, end_text, end_rests}
use Rattle.texml_input.specs.Held.{Source, Plain, Marked, File, Fence, fresh_file, back_source, rest_of, aside_of, rest_at, ids_of, AreHeld, SourceWithin, SourcesWithin, room_of, end_first}
use Rattle.texml_input.proofs.Putting.{put_at, put_within}
use Rattle.texml_input.proofs.Sources.{SameAll, rest_same, aside_same, room_same, used_not, within_put}

-- tokens, a body with its arguments, and one token are put in front
pub rest_tokens : (texts : Table) (shelf : Shelf) (list : List TokenCode) (s : List Source) → rest_at texts shelf (map Plain list ++ s) ≡ map Tok (tokens_at texts list) ++ rest_at texts shelf s
rest_tokens texts shelf [] s = refl
rest_tokens texts shelf (t ∷ list) s = ap (λ l. Tok (token_at texts t) ∷ l) (rest_tokens texts shelf list s)

pub rest_macro : (texts : Table) (shelf : Shelf) (args : List (List TokenCode)) (body : List TokenCode) (s : List Source)
    → rest_at texts shelf (map Plain (put_code args body) ++ s) ≡ map Tok (put (map (tokens_at texts) args) (tokens_at texts body)) ++ rest_at texts shelf s
rest_macro texts shelf args body s =
    rest_tokens texts shelf (put_code args body) s ∙ ap (λ l. map Tok l ++ rest_at texts shelf s) (put_at texts args body)

pub within_macro : (count slots : ℕ) (args : List (List TokenCode)) (body : List TokenCode) (s : List Source) → All (TokensWithin count) args → BodyWithin count slots body → SourcesWithin count s
    → SourcesWithin count (map Plain (put_code args body) ++ s)
within_macro count slots args body s a b h = within_put count (put_code args body) s (put_within count slots args body a b) h

pub rest_back : (texts : Table) (shelf : Shelf) (t : TokenCode) (frozen : Bool) (s : List Source) → rest_at texts shelf (back_source t frozen ∷ s) ≡ back_as (token_at texts t) frozen ∷ rest_at texts shelf s
rest_back texts shelf t true s = refl
rest_back texts shelf t false s = refl

pub within_back : (count : ℕ) (t : TokenCode) (frozen : Bool) (s : List Source) → TokenWithin count t → SourcesWithin count s → SourcesWithin count (back_source t frozen ∷ s)
within_back count t true s h k = All-cons (SourceWithin count) (Marked t) s h k
within_back count t false s h k = All-cons (SourceWithin count) (Plain t) s h k

-- an id that isn't in use is none of those that are held
pub fresh_apart : (ids xs : List ℕ) (id : ℕ) → AreHeld ids xs → in_use ids id ≡ false → in_use xs id ≡ false
fresh_apart ids [] id h out = refl
fresh_apart ids (x ∷ xs) id h out =
    elim (cases_eq x id) [
      | inl e ↦ let used : in_use ids id ≡ true = ap (in_use ids) (sym e) ∙ h.0 in cc
      | inr ne ↦ rw (ne_eqb x id ne) (fresh_apart ids xs id h.2 out)
    ]

held_more : (ids xs : List ℕ) (id : ℕ) → in_use xs id ≡ false → AreHeld ids xs → AreHeld (id ∷ ids) xs
held_more ids [] id out h = tt
held_more ids (x ∷ xs) id out h =
    elim (cases_eq x id) [
      | inl e ↦ let b = rw (eq-eqb x id e) at out in cc
      | inr ne ↦
          let apart : id ≢ x = λ e. ne (sym e) in
          let rest = rw (ne_eqb x id ne) at out in
          (rw (ne_eqb id x apart) h.0, h.1, held_more ids xs id rest h.2)
    ]

-- a file was opened, and is put in front
module _ (old new : Shelf) (path : List ℕ) (id : ℕ) (s : List Source) (held : AreHeld old.ids (ids_of s)) (o : IsOpened old new path id) where
  apart_opened : SameAll old new s
  apart_opened x used = o.others x (used_not id (ids_of s) x (fresh_apart old.ids (ids_of s) id held o.fresh) used)

  pub held_opened : AreHeld new.ids (id ∷ ids_of s)
  held_opened =
      let out = fresh_apart old.ids (ids_of s) id held o.fresh in
      let here : IsTrue (in_use (id ∷ old.ids) id) = rw (eq-eqb id id refl) refl in
      subst (λ ids. AreHeld ids (id ∷ ids_of s)) (sym o.ids) (here, out, held_more old.ids (ids_of s) id out held)

  pub rest_opened : (texts : Table) (name bytes : List ℕ) → IsTrue old.tells → old.contents path ≡ Some bytes
      → rest_at texts new (File (fresh_file id name) ∷ s) ≡ Text (fresh name (rows bytes)) ∷ rest_at texts old s
  rest_opened texts name bytes told has =
      let left : new.left id ≡ bytes = some_same (new.left id) bytes (sym (o.left told) ∙ has) in
      ap₂ (λ l r. Text (fresh name (rows l)) ∷ items_at texts r) left (rest_same old new s apart_opened)
    where
      some_same : (a b : List ℕ) → Some a ≡ Some b → a ≡ b
      some_same a b e = cc

  pub aside_opened : (name : List ℕ) → aside_of new (File (fresh_file id name) ∷ s) ≡ aside_of old s
  aside_opened name = aside_same old new s apart_opened

  pub room_opened : (name : List ℕ) → room_of new (File (fresh_file id name) ∷ s) ≡ 1 + 4 * new.number id + room_of old s
  room_opened name = let e = room_same old new s apart_opened in omega arith

-- the first file is ended
pub rest_ended : (texts : Table) (shelf : Shelf) (s : List Source) → rest_at texts shelf (end_first s) ≡ end_text (rest_at texts shelf s)
rest_ended texts shelf [] = refl
rest_ended texts shelf (Plain t ∷ s) = ap (λ l. Tok (token_at texts t) ∷ l) (rest_ended texts shelf s)
rest_ended texts shelf (Marked t ∷ s) = ap (λ l. Frozen (token_at texts t) ∷ l) (rest_ended texts shelf s)
rest_ended texts shelf (File f ∷ s) = refl
rest_ended texts shelf (Fence ∷ s) = refl

sources_ended : (shelf : Shelf) (s : List Source) → rest_of shelf (end_first s) ≡ end_text (rest_of shelf s)
sources_ended shelf [] = refl
sources_ended shelf (Plain t ∷ s) = ap (λ l. Tok t ∷ l) (sources_ended shelf s)
sources_ended shelf (Marked t ∷ s) = ap (λ l. Frozen t ∷ l) (sources_ended shelf s)
sources_ended shelf (File f ∷ s) = refl
sources_ended shelf (Fence ∷ s) = refl

pub aside_ended : (shelf : Shelf) (s : List Source) → aside_of shelf (end_first s) ≡ cond (has_text (rest_of shelf s)) (aside_of shelf s) (end_rests (aside_of shelf s))
aside_ended shelf [] = refl
aside_ended shelf (Plain t ∷ s) = aside_ended shelf s
aside_ended shelf (Marked t ∷ s) = aside_ended shelf s
aside_ended shelf (File f ∷ s) = refl
aside_ended shelf (Fence ∷ s) = ap₂ (λ a b. a ∷ b) (sources_ended shelf s) (aside_ended shelf s)

-- so in all rests, those set aside among them, it is the first text that is ended
pub rests_ended : (shelf : Shelf) (s : List Source) → rest_of shelf (end_first s) ∷ aside_of shelf (end_first s) ≡ end_rests (rest_of shelf s ∷ aside_of shelf s)
rests_ended shelf s = ap₂ (λ a b. a ∷ b) (sources_ended shelf s) (aside_ended shelf s)

-- all is emptied, and the fences stand
pub rest_emptied : (texts : Table) (shelf : Shelf) (n : ℕ) → rest_at texts shelf (replicate n Fence) ≡ []
rest_emptied texts shelf zero = refl
rest_emptied texts shelf (suc n) = refl

pub aside_emptied : (shelf : Shelf) (n : ℕ) → aside_of shelf (replicate n Fence) ≡ replicate n []
aside_emptied shelf zero = refl
aside_emptied shelf (suc n) = ap₂ (λ a b. a ∷ b) (sources_emptied shelf n) (aside_emptied shelf n)
  where
    sources_emptied : (shelf : Shelf) (n : ℕ) → rest_of shelf (replicate n Fence) ≡ []
    sources_emptied shelf zero = refl
    sources_emptied shelf (suc n) = refl
