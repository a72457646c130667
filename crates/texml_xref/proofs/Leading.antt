-- Links of references.
use Rattle.std.proofs.Common.{◌≡◌, ◌∙◌, ap, sym, subst, ℕ, ◌+◌, ◌<◌, List, [], ◌∷◌, ◌++◌, length, map, take, get_or, Option, Some}
use Rattle.std.specs.Option.{option_map, option_and_then}
use Rattle.std.proofs.lemmas.List.{map-append, take_more}
use Rattle.std.proofs.lemmas.Simd.{map-map}
use denote.Bor.{Bor}
use Rattle.texml_tree.specs.Tree.{Head, Tree}
use Rattle.texml_xref.specs.declared.owners.Link.{Link as LinkCode}
use Rattle.texml_xref.specs.declared.owners.Owners.{Owners}
use Rattle.texml_xref.specs.declared.walk.Found.{Found}
use Rattle.texml_xref.specs.Refs.{LinkedTree, heads, ids_in, link_at, link_in, placed}
use Rattle.texml_xref.specs.Links.{link_of, links_of, kept_owner}
use Rattle.texml_xref.proofs.Owning.{link_within}
use Rattle.texml_xref.specs.Found.{targets_of, HasFound}

pub linked_more : (owners : Owners) (targets : List (Option (Bor (List ℕ)))) (i : ℕ) (target : Option (Bor (List ℕ))) (links : List (Option LinkCode)) (link : Option LinkCode) → i < length targets → target ≡ get_or targets i target
    → links_of links ≡ map (option_and_then (kept_owner owners)) (targets_of (take i targets))
    → option_map link_of link ≡ option_and_then (kept_owner owners) (option_map (λ t. t.now) target)
    → links_of (links ++ link ∷ []) ≡ map (option_and_then (kept_owner owners)) (targets_of (take (i + 1) targets))
linked_more owners targets i target links link l e before now =
    map-append (option_map link_of) links (link ∷ [])
    ∙ (λ k. before k ++ now k ∷ [])
    ∙ sym (map-append (option_and_then (kept_owner owners)) (targets_of (take i targets)) (targets_of (target ∷ [])))
    ∙ sym (ap (map (option_and_then (kept_owner owners))) (map-append (option_map (λ t. t.now)) (take i targets) (target ∷ [])))
    ∙ sym (ap (λ x. map (option_and_then (kept_owner owners)) (targets_of x)) (take_more targets i target l ∙ ap (λ x. take i targets ++ x ∷ []) (sym e)))

pub links_found : (reference section : Option ℕ) (found : Found) (hs : List Head) (links : List (Option LinkCode)) (targets : List (Option (Bor (List ℕ)))) → HasFound reference section found hs → targets ≡ found.targets.items
    → links_of links ≡ map (option_and_then (kept_owner found.owners)) (targets_of targets)
    → links_of links ≡ map (link_in hs) (placed reference hs)
links_found reference section found hs links targets has e h =
    h ∙ ap (λ t. map (option_and_then (kept_owner found.owners)) (targets_of t)) e
    ∙ ap (map (option_and_then (kept_owner found.owners))) has.targets_are
    ∙ map-map (option_and_then (kept_owner found.owners)) (λ h. h.target) (placed reference hs)
    ∙ (λ i. map (λ (x : Head). option_and_then (λ label. has.owners_are.owners_are label i) x.target) (placed reference hs))

-- what the walk has found of a whole tree
pub found_of : (reference section : Option ℕ) (old new : Found) (root tree : Tree) → HasFound reference section old [] → root ≡ tree
    → ((hs : List Head) → HasFound reference section old hs → HasFound reference section new (hs ++ heads root)) → HasFound reference section new (heads tree)
found_of reference section old new root tree none e walk = subst (λ (t : Tree). HasFound reference section new (heads t)) e (walk [] none)

pub link_owner : (l : LinkedTree) (at : ℕ) (link : LinkCode) (seen : Option LinkCode) → option_map link_of seen ≡ link_at l at → seen ≡ Some link → link.owner < ids_in l
link_owner l at link seen h e = link_within l at (link_of link) (sym h ∙ ap (option_map link_of) e)
