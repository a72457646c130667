use Rattle.std.proofs.Common.{◌≡◌, ◌++◌, codes, sym, ap, ◌∙◌, subst}
use Rattle.texml_expand.specs.State.{State, Done, chain, change, nothing}
use Rattle.texml_expand.specs.Contract.{Local}
use Rattle.texml_expand.specs.Held.{state_of}
use Rattle.texml_expand.proofs.Fronts.{kept_then, ok_kept}
use Rattle.texml_assign.specs.NewIf.{let_name, set_to}
use Rattle.texml_expand.proofs.Progress.{progress_then}
use Rattle.texml_assign.proofs.Doing.{local_then}
use Rattle.texml_assign.proofs.NewConditionals.{names_stay, let_named, true_named, false_named}
use Rattle.texml_assign.proofs.new_if.conditional.Goals as goal

pub returns-in_err-let_name-clause-advances : goal.returns-in_err-let_name-clause-advances
returns-in_err-let_name-clause-advances c = progress_then _ _ _ c.in_ok-names.ensures.advances c.in_err-let_name.ensures.advances

pub returns-in_err-define_name-clause-advances : goal.returns-in_err-define_name-clause-advances
returns-in_err-define_name-clause-advances c = progress_then _ _ _ (progress_then _ _ _ c.in_ok-names.ensures.advances c.in_ok-let_name.ensures.advances) c.in_err-define_name.ensures.advances

pub returns-clause-keeps : goal.returns-clause-keeps
returns-clause-keeps c =
    ok_kept _ _ _ _ (kept_then _ _ _ (kept_then _ _ _ c.in_ok-names.ensures.keeps c.in_ok-let_name.ensures.keeps) c.in_ok-define_name.ensures.keeps) c.define_name-2.ensures.keeps

pub returns-clause-advances : goal.returns-clause-advances
returns-clause-advances c =
    progress_then _ _ _ (progress_then _ _ _ (progress_then _ _ _ c.in_ok-names.ensures.advances c.in_ok-let_name.ensures.advances) c.in_ok-define_name.ensures.advances) c.define_name-2.ensures.advances

pub returns-clause-makes : goal.returns-clause-makes
returns-clause-makes c =
    let old = c.args.engine.now in let m1 = c.give_names.new.engine in let m2 = c.let_name.new.engine in let m3 = c.define_name.new.engine in let m4 = c.define_name-2.new.engine in
    let part = c.args.part.now in let n = c.in_ok-names.names in
    let are = c.in_ok-names.ensures.are in
    let are2 = names_stay m1.names m2.names part n c.in_ok-let_name.ensures.keeps.grows are in
    let are3 = names_stay m2.names m3.names part n c.in_ok-define_name.ensures.keeps.grows are2 in
    let first = change (let_name (codes "if" ++ part) (codes "if" ++ codes "false")) in let second = change (set_to (codes "true") part) in let third = change (set_to (codes "false") part) in
    local_then first (λ _ s. chain (second s) (λ _. third)) tt old m2 m4 c.define_name-2.result
    (λ shelf. ap first (sym (c.in_ok-names.ensures.same shelf)) ∙ subst (λ (k : State → State). change k (state_of shelf m1) ≡ Done tt (state_of shelf m2) nothing) (let_named m1.names part n are) (c.in_ok-let_name.ensures.lets shelf))
    (local_then second (λ _. third) tt m2 m3 m4 c.define_name-2.result
    (λ shelf. subst (λ (k : State → State). change k (state_of shelf m2) ≡ Done tt (state_of shelf m3) nothing) (true_named m2.names part n are2) (c.in_ok-define_name.ensures.defines shelf))
    (subst (λ (k : State → State). Local (change k) c.define_name-2.result m3 m4) (false_named m3.names part n are3) c.define_name-2.ensures.defines))
