use Rattle.std.proofs.Common.{◌≡◌, ◌∙◌, ap, sym, subst, List, ℕ, [], ◌∷◌, ◌++◌, length}
use Rattle.texml_tree.specs.Plain.{head_of}
use Rattle.texml_xref.specs.Refs.{id_of}
use Rattle.texml_xref.specs.Found.{HasOwners}
use Rattle.texml_xref.proofs.Owning.{noted}
use Rattle.texml_xref.proofs.walk.note_id.Goals as goal

pub returns-in_ok-own_all : goal.returns-in_ok-own_all
returns-in_ok-own_all c = λ hs has.
    let items : c.args.ids.now.items ++ id_of (length c.as_slice.result.now) ∷ [] ≡ c.push.new.self.items = sym (c.in_ok-push.ensures.items ∙ ap (λ x. c.args.ids.now.items ++ x ∷ []) c.in_ok-id.ensures) in
    subst (λ (x : List (List ℕ)). HasOwners x c.own_all.new.owners (hs ++ head_of c.args.head.now ∷ [])) items
    (noted c.args.ids.now.items c.args.owners.now c.own_all.new.owners hs (head_of c.args.head.now) (length c.as_slice.result.now) (sym c.if-head.true) (ap length c.as_slice.ensures.value) c.in_ok-own_all.ensures has)
