-- What the walk has found in the elements that it has met. The rules themselves are specs/Refs.antt.
use Rattle.std.specs.Prelude.{◌≡◌, ℕ, List, length, map, Option}
use Rattle.std.specs.Option.{option_map}
use denote.Bor.{Bor}
use Rattle.texml_tree.specs.Tree.{Head}
use Rattle.texml_xref.specs.declared.owners.Owners.{Owners}
use Rattle.texml_xref.specs.declared.walk.Found.{Found}
use Rattle.texml_xref.specs.Refs.{identified, owner_in, placed}
use Rattle.texml_xref.specs.Links.{kept_owner, ids_upto}

abbrev pub targets_of : List (Option (Bor (List ℕ))) → List (Option (List ℕ))
targets_of = map (option_map (λ t. t.now))

pub record HasOwners (ids : List (List ℕ)) (owners : Owners) (hs : List Head) : Type 0 where
  pub ids_are : ids ≡ ids_upto (length (identified hs))
  pub owners_are : (label : List ℕ) → kept_owner owners label ≡ owner_in hs label

pub record HasFound (reference section : Option ℕ) (found : Found) (hs : List Head) : Type 0 where
  pub owners_are : HasOwners found.ids.items found.owners hs
  pub targets_are : targets_of found.targets.items ≡ map (λ h. h.target) (placed reference hs)
  pub sections_are : found.sections ≡ length (placed section hs)
