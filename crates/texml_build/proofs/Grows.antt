-- One more operation.
use Rattle.std.proofs.Common.{◌≡◌, ◌∙◌, ap, sym, refl, subst, ℕ, List, [], ◌∷◌, ◌++◌, length, Result, Ok, Err, append_assoc, append-nil}
use Rattle.texml_tree.specs.declared.ops.Op.{Op}
use Rattle.texml_tree.specs.Tree.{Tree}
use Rattle.texml_model.specs.Rules.{Rules}
use Rattle.texml_build.specs.declared.fault.BuildFault.{BuildFault}
use Rattle.texml_build.specs.declared.fault.BuildFault.TheVariants.{Model, NoMemory}
use Rattle.texml_build.specs.Brackets.{Bracket, Outcome, Doing, behind, next, both, nothing, step, steps, end_all}
use Rattle.texml_build.specs.Trim.{texts}
use Rattle.texml_build.specs.Matched.{whole, built}
use Rattle.texml_build.specs.Held.{Held, fresh, kids_after, Follows, Does}
use Rattle.texml_build.proofs.Follow.{does_as, does_next, does_fail, follows_both, built_ok}

-- done one after the other, however they are put together

behind_twice : (a b : List Bracket) (o : Outcome) → behind (a ++ b) o ≡ behind a (behind b o)
behind_twice a b (Err f) = refl
behind_twice a b (Ok o) = ap (λ l. Ok (l, o.1)) (append_assoc a b o.0)

next_behind : (out : List Bracket) (o : Outcome) (b : Doing) → next (behind out o) b ≡ behind out (next o b)
next_behind out (Err f) b = refl
next_behind out (Ok o) b = behind_twice out o.0 (b o.1)

next_both : (o : Outcome) (a b : Doing) → next o (both a b) ≡ next (next o a) b
next_both (Err f) a b = refl
next_both (Ok o) a b = sym (next_behind o.0 (a o.1) b)

next_nothing : (o : Outcome) → next o nothing ≡ behind [] o
next_nothing (Err f) = refl
next_nothing (Ok o) = ap (λ l. Ok (l, o.1)) (append-nil o.0)

steps_more : (r : Rules) (ops : List Op) (op : Op) (path : List ℕ) → both (steps r ops) (step r op) path ≡ steps r (ops ++ op ∷ []) path
steps_more r [] op path = sym (next_nothing (step r op path))
steps_more r (o ∷ ops) op path =
    sym (next_both (step r o path) (steps r ops) (step r op))
    ∙ ap (next (step r o path)) (λ i p. steps_more r ops op p i)

-- an operation is done behind others

pub grown : (r : Rules) (ops : List Op) (op : Op) (s t u : Held) (state result : Result (Unit {0}) BuildFault)
    → Does r (steps r ops) s t state → state ≡ Ok tt → Does r (step r op) t u result → Does r (steps r (ops ++ op ∷ [])) s u result
grown r ops op s t u (Ok x) result f e d =
    does_as r (both (steps r ops) (step r op)) (steps r (ops ++ op ∷ [])) s u result (steps_more r ops op _) (does_next r (steps r ops) (step r op) s t u result f d)
grown r ops op s t u (Err b) result f e d = absurd (cc)

-- behind a fault nothing is done
pub stays_refused : (r : Rules) (ops : List Op) (op : Op) (s t : Held) (state : Result (Unit {0}) BuildFault) (b : BuildFault)
    → Does r (steps r ops) s t state → state ≡ Err b → Does r (steps r (ops ++ op ∷ [])) s t (Err b)
stays_refused r ops op s t state (Model f) d e =
    does_as r (both (steps r ops) (step r op)) (steps r (ops ++ op ∷ [])) s t (Err (Model f)) (steps_more r ops op _)
    (does_fail r (steps r ops) (step r op) s t t (Model f) (subst (λ (x : Result (Unit {0}) BuildFault). Does r (steps r ops) s t x) e d))
stays_refused r ops op s t state NoMemory d e = tt

-- the whole

pub ends_well : (r : Rules) (ops : List Op) (s t : Held) (tree : Tree) → Follows r (steps r ops) (fresh r) s → Follows r (end_all r) s t → length t.outer ≡ 0
    → tree ≡ whole r t.inner.start (kids_after (texts t.text) t.inner.has) → built r ops ≡ Ok tree
ends_well r ops s t tree f d l e = built_ok r ops (fresh r) t tree refl (follows_both r (steps r ops) (end_all r) (fresh r) s t f d) l e
