-- Blocks of a file.
use Rattle.std.proofs.Common.{◌≡◌, ℕ, ◌+◌, List, [], ◌++◌, length, IsTrue, refl, sym, ap, ◌∙◌, subst, arith, append_assoc, append-nil, length-append}
use Rattle.texml_base.specs.Rising.{add_up}
use Rattle.texml_base.specs.Outside.{Shelf, SameAt, IsRead}
use Rattle.texml_text.specs.Reader.{Touches}
use Rattle.texml_text.specs.Inside.{Filled}

pub same_refl : (s : Shelf) (k : ℕ) → SameAt s s k
same_refl s k = record { given = refl; left = refl; number = refl }

pub same_trans : (a b c : Shelf) (k : ℕ) → SameAt a b k → SameAt b c k → SameAt a c k
same_trans a b c k p q = record { given = q.given ∙ p.given; left = q.left ∙ p.left; number = q.number ∙ p.number }

pub touches_refl : (s : Shelf) (id : ℕ) → Touches s s id
touches_refl s id = record { tells = refl; contents = refl; ids = refl; others = λ k ne. same_refl s k }

pub touches_trans : (a b c : Shelf) (id : ℕ) → Touches a b id → Touches b c id → Touches a c id
touches_trans a b c id p q = record {
  tells = q.tells ∙ p.tells;
  contents = q.contents ∙ p.contents;
  ids = q.ids ∙ p.ids;
  others = λ k ne. same_trans a b c k (p.others k ne) (q.others k ne);
}

pub touches_read : (a b : Shelf) (id : ℕ) (piece : List ℕ) → IsRead a b id piece → Touches a b id
touches_read a b id piece r = record { tells = r.tells; contents = r.contents; ids = r.ids; others = r.others }

pub add_up_twice : (n a b : ℕ) → add_up (add_up n a) b ≡ add_up n (a + b)
add_up_twice n a b = omega arith

pub filled_none : (s : Shelf) (id : ℕ) (held : List ℕ) → Filled s s id held held
filled_none s id held = record {
  given = [];
  held = sym (append-nil held);
  left = λ told. refl;
  total = λ told. omega arith;
  number = omega arith;
}

-- one more piece
pub filled_more : (a b c : Shelf) (id : ℕ) (before mid piece after : List ℕ) → b.tells ≡ a.tells → Filled a b id before mid → IsRead b c id piece → after ≡ mid ++ piece → Filled a c id before after
filled_more a b c id before mid piece after same f r is = record {
  given = f.given ++ piece;
  held = is ∙ ap (λ l. l ++ piece) f.held ∙ append_assoc before f.given piece;
  left = λ told. f.left told ∙ ap (λ l. f.given ++ l) (r.left (subst IsTrue (sym same) told)) ∙ sym (append_assoc f.given piece (c.left id));
  total = λ told.
      r.total (subst IsTrue (sym same) told) ∙ ap (λ n. add_up n (length piece)) (f.total told) ∙ add_up_twice a.total (length f.given) (length piece)
      ∙ ap (add_up a.total) (sym (length-append f.given piece));
  number = let p = f.number in let q = r.number in omega (arith, length-append f.given piece);
}
