-- Open files of the real folder.
use Rattle.std.proofs.Common.{◌≡◌, ℕ, List, ap, ◌∙◌, Some, inl, inr}
use Rattle.std.proofs.Math.Path.{fun_ext}
use Rattle.std.proofs.lemmas.Bool.{cases_eq}
use Rattle.texml_base.specs.Opened.{ids_of, held}
use Rattle.texml_base.specs.Disk.{budget_of, untold, disk_shelf}
use Rattle.texml_base.specs.declared.opened.Opened.{Opened}
use Rattle.texml_base.specs.declared.disk.DiskFile.{DiskFile}
use Rattle.texml_base.proofs.Ids.{IsPutBack}

-- a file that may give what it might is as good as before
pub disk_shelf-put : {F : Type 0} (id : ℕ) (os new : List (Opened (DiskFile F))) (old file : DiskFile F)
    → IsPutBack id os new file → held os id ≡ Some old → file.budget ≡ old.budget → disk_shelf new ≡ disk_shelf os
disk_shelf-put id os new old file put before kept =
    let budgets : (k : ℕ) → budget_of (held new k) ≡ budget_of (held os k) = λ k.
    elim (cases_eq k id) [
      | inl e ↦ rw (e, put.same, before) kept
      | inr ne ↦ ap budget_of (put.others k ne)
    ] in
    ap (λ ids. untold ids (λ k. budget_of (held new k))) put.ids
    ∙ ap (untold (ids_of os)) (fun_ext budgets)
