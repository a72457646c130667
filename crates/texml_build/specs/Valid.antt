-- What a valid tree is, whatever it was made from.
use Rattle.std.specs.Prelude.{◌≡◌, ℕ, zero, suc, true, List, [], ◌∷◌, Some, IsSome, Result, Ok, Err, codes}
use Rattle.texml_tree.specs.declared.ops.Op.{Op}
use Rattle.texml_tree.specs.declared.model_fault.ModelFault.{ModelFault}
use Rattle.texml_tree.specs.Tree.{Set, Tree, Trees, text, element, none, more}
use Rattle.texml_model.specs.Rules.{Rules, Sound, VoidIsEmpty}
use Rattle.texml_build.specs.Matched.{built}

abbrev pub NotEmpty : List ℕ → Type 0
NotEmpty [] = ⊥
NotEmpty (c ∷ cs) = Unit {0}

-- an element stands where it is held, a text where texts are taken, and it isn't empty
abbrev pub MayStand : Rules → ℕ → Tree → Type 0
MayStand r p (text t) = (r.takes_text p ≡ true) × NotEmpty t
MayStand r p (element h kids) = r.holds p h.elem ≡ true

-- no text comes first
abbrev pub NoText : Trees → Type 0
NoText none = Unit {0}
NoText (more (text t) ts) = ⊥
NoText (more (element h kids) ts) = Unit {0}

-- a text has no text beside it
abbrev pub Apart : Tree → Trees → Type 0
Apart (text t) ts = NoText ts
Apart (element h kids) ts = Unit {0}

-- each attribute is one that the element may have
abbrev pub AllMay : Rules → ℕ → List Set → Type 0
AllMay r e [] = Unit {0}
AllMay r e (s ∷ sets) = (r.may_attr e s.number ≡ true) × AllMay r e sets

-- a void element has no children
abbrev pub VoidHasNone : Rules → ℕ → Trees → Type 0
VoidHasNone r e none = Unit {0}
VoidHasNone r e (more t ts) = r.void e ≡ true → ⊥

-- at most n deep
abbrev mutual
  pub ValidTree : Rules → ℕ → Tree → Type 0
  ValidTree r n (text t) = Unit {0}
  ValidTree r zero (element h kids) = ⊥
  ValidTree r (suc n) (element h kids) = AllMay r h.elem h.sets × VoidHasNone r h.elem kids × ValidKids r h.elem n kids

  pub ValidKids : Rules → ℕ → ℕ → Trees → Type 0
  ValidKids r p n none = Unit {0}
  ValidKids r p n (more t ts) = MayStand r p t × Apart t ts × ValidTree r n t × ValidKids r p n ts

-- the root is `document`, and the depth is at most 200
abbrev pub Valid : Rules → Tree → Type 0
Valid r (text t) = ⊥
Valid r (element h kids) = (r.named (codes "document") ≡ Some h.elem) × ValidTree r 200 (element h kids)

abbrev pub IsValid : Rules → Result Tree ModelFault → Type 0
IsValid r (Ok t) = Valid r t
IsValid r (Err f) = Unit {0}

-- what each content model has: sound chains, void elements that hold nothing, and an element `document`
pub record IsModel (r : Rules) : Type 0 where
  pub sound : Sound r
  pub void : VoidIsEmpty r
  pub root : IsSome (r.named (codes "document"))

-- the law: the tree of every list of operations is valid
abbrev pub EveryTreeIsValid : Type 0
EveryTreeIsValid = (r : Rules) → IsModel r → (ops : List Op) → IsValid r (built r ops)
