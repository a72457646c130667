use Rattle.std.proofs.Common.{◌≡◌, ℕ, ◌-◌, List, ◌++◌, length, take, drop, sym, ap, ◌∙◌, Bor}
use Rattle.std.proofs.lemmas.List.{take_rest}
use Rattle.std.proofs.KnownBytes.{Appends-trans, Appends-kept, Appends-nil}
use Rattle.texml_base.proofs.Streaming.{taken_front, rest_moves}
use Rattle.texml_base.proofs.sink.write_whole.Goals as goal
use Rattle.texml_base.proofs.sink.write_whole.Goals.{in-Ok, in-Err}

pub returns-in-Ok-eq0-clause-bytes : goal.returns-in-Ok-eq0-clause-bytes
returns-in-Ok-eq0-clause-bytes g c =
    let (done, split, appended) = c.writes.invariant in taken_front _ _ _ _ done _ _ split appended (rw c.in-Ok-eq0.is at c.write.ensures.bytes)

pub returns-in-Err-2-clause-bytes : goal.returns-in-Err-2-clause-bytes
returns-in-Err-2-clause-bytes g c =
    let (done, split, appended) = c.writes.invariant in
    let h = c.in-Err-2.ensures.bytes in
    taken_front _ _ _ _ done c.writes.rest.now 0 split (Appends-kept _ _ _ done appended h) (Appends-nil _)

pub writes-preserved : goal.writes-preserved
writes-preserved g c =
    let (done, split, appended) = c.writes.invariant in
    let rest = c.writes.rest.now in
    elim c.match-write.branch [
      | in-Ok w ↦
          let n = w.in-Ok.count in
          let cut : c.match-write.rest.now ≡ take (length rest - n) (drop n rest) = ap (λ (b : Bor (List ℕ)). b.now) w.rest-is in (
            done ++ take n rest,
            rest_moves _ done rest c.match-write.rest.now n split (cut ∙ take_rest rest n),
            Appends-trans _ _ _ done _ appended w.in-Ok.ensures.bytes,
          )
      | in-Err w ↦
          let stays : c.match-write.rest.now ≡ rest = ap (λ (b : Bor (List ℕ)). b.now) w.rest-is in
          (done, split ∙ ap (λ l. done ++ l) (sym stays), Appends-kept _ _ _ done appended w.in-Err.ensures.bytes)
    ]

pub returns-clause-bytes : goal.returns-clause-bytes
returns-clause-bytes g c =
    let (done, split, appended) = c.writes.invariant in taken_front _ _ _ _ done c.writes.rest.now 0 split appended (Appends-nil _)
