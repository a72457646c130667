use Rattle.std.proofs.Common.{◌≡◌, ◌+◌, ◌-◌, ◌*◌, ℕ}
use Rattle.texml_expand.specs.Hearing.{hears, hears_part}
use Rattle.texml_expand.specs.Machine.{machine_rest}
use Rattle.texml_expand.specs.Contract.{outside}
use Rattle.texml_expand.specs.Held.{held_room}
use Rattle.texml_expand.proofs.Rounds.{Fetching}
use Rattle.texml_expand.proofs.Looks.{Scanning}
use Rattle.texml_expand.proofs.Gathered.{Gathers}
use Rattle.texml_expand.proofs.engine.Engine.+expanding.Given as goal

-- what is left of both depths, and the place of a function among those that call each other
abbrev measure : ℕ → ℕ → ℕ → ℕ
measure nesting deep rank = 32 * ((400 - nesting) + (1000 - deep)) + rank

abbrev pub decreases-expand : goal.decreases-expand
decreases-expand g l = measure l.self.now.nesting l.deep 0

abbrev pub decreases-fetch_on : goal.decreases-fetch_on
decreases-fetch_on g l = measure l.self.now.nesting l.deep 1

abbrev pub decreases-next_looked : goal.decreases-next_looked
decreases-next_looked g l = measure l.self.now.nesting l.deep 2

abbrev pub decreases-look_by : goal.decreases-look_by
decreases-look_by g l = measure l.self.now.nesting l.deep 2

abbrev pub decreases-scan : goal.decreases-scan
decreases-scan g l = measure l.self.now.nesting l.deep 3

abbrev pub decreases-int : goal.decreases-int
decreases-int g l = measure l.self.now.nesting l.deep 4

abbrev pub decreases-index : goal.decreases-index
decreases-index g l = measure l.self.now.nesting l.deep 5

abbrev pub decreases-internal_at : goal.decreases-internal_at
decreases-internal_at g l = measure l.self.now.nesting l.deep 6

abbrev pub decreases-internal : goal.decreases-internal
decreases-internal g l = measure l.self.now.nesting l.deep 7

abbrev pub decreases-next_internal : goal.decreases-next_internal
decreases-next_internal g l = measure l.self.now.nesting l.deep 8

abbrev pub decreases-the : goal.decreases-the
decreases-the g l = measure l.self.now.nesting l.deep 9

abbrev pub decreases-dimension : goal.decreases-dimension
decreases-dimension g l = measure l.self.now.nesting l.deep 4

abbrev pub decreases-decimal : goal.decreases-decimal
decreases-decimal g l = measure l.self.now.nesting l.deep 5

abbrev pub decreases-roman : goal.decreases-roman
decreases-roman g l = measure l.self.now.nesting l.deep 5

abbrev pub decreases-relation : goal.decreases-relation
decreases-relation g l = measure l.self.now.nesting l.deep 3

abbrev pub decreases-amount : goal.decreases-amount
decreases-amount g l = measure l.self.now.nesting l.deep 5

abbrev pub decreases-compared : goal.decreases-compared
decreases-compared g l = measure l.self.now.nesting l.deep 6

abbrev pub decreases-next_face : goal.decreases-next_face
decreases-next_face g l = measure l.self.now.nesting l.deep 2

abbrev pub decreases-two_faces : goal.decreases-two_faces
decreases-two_faces g l = measure l.self.now.nesting l.deep 3

abbrev pub decreases-tested : goal.decreases-tested
decreases-tested g l = measure l.self.now.nesting l.deep 7

abbrev pub decreases-conditional : goal.decreases-conditional
decreases-conditional g l = measure l.self.now.nesting l.deep 8

abbrev pub decreases-cs_name : goal.decreases-cs_name
decreases-cs_name g l = measure l.self.now.nesting l.deep 3

abbrev pub decreases-expand_after : goal.decreases-expand_after
decreases-expand_after g l = measure l.self.now.nesting l.deep 1

abbrev pub decreases-copy : goal.decreases-copy
decreases-copy g l = measure l.self.now.nesting l.deep 0

abbrev pub decreases-at_once : goal.decreases-at_once
decreases-at_once g l = measure l.self.now.nesting l.deep 1

abbrev pub decreases-gather : goal.decreases-gather
decreases-gather g l = measure l.self.now.nesting l.deep 2

abbrev pub decreases-given : goal.decreases-given
decreases-given g l = measure l.self.now.nesting l.deep 10

abbrev pub invariant-fetch_on-fronts : goal.invariant-fetch_on-fronts
invariant-fetch_on-fronts g l =
    let T = g.T.Teller in
    let F = g.F.Files in
    Fetching (hears T.wanting T.heard) (hears_part T.wanting T.part) l.fn.self (outside (F.shelf l.fn.files) (F.faults l.fn.files) (T.faults l.fn.tell) (T.loan l.fn.tell)) l.fn.tell l.self (outside (F.shelf l.files) (F.faults l.files) (T.faults l.tell) (T.loan l.tell)) l.tell

abbrev pub decreases-fetch_on-fronts : goal.decreases-fetch_on-fronts
decreases-fetch_on-fronts g l = l.self.limit - l.self.begun

abbrev pub invariant-scan-rounds : goal.invariant-scan-rounds
invariant-scan-rounds g l =
    let T = g.T.Teller in
    let F = g.F.Files in
    Scanning (hears T.wanting T.heard) (hears_part T.wanting T.part) (machine_rest l.fn.start) l.fn.self (outside (F.shelf l.fn.files) (F.faults l.fn.files) (T.faults l.fn.tell) (T.loan l.fn.tell)) l.fn.tell (machine_rest l.machine) l.scanned l.seen.items l.self (outside (F.shelf l.files) (F.faults l.files) (T.faults l.tell) (T.loan l.tell)) l.tell

abbrev pub decreases-scan-rounds : goal.decreases-scan-rounds
decreases-scan-rounds g l = l.self.limit - l.self.begun

abbrev pub invariant-scan-tokens : goal.invariant-scan-tokens
invariant-scan-tokens g l =
    let T = g.T.Teller in
    let F = g.F.Files in
    record {
      on : Scanning (hears T.wanting T.heard) (hears_part T.wanting T.part) (machine_rest l.fn.start) l.fn.self (outside (F.shelf l.fn.files) (F.faults l.fn.files) (T.faults l.fn.tell) (T.loan l.fn.tell)) l.fn.tell (machine_rest l.machine) l.scanned l.seen.items l.self (outside (F.shelf l.files) (F.faults l.files) (T.faults l.tell) (T.loan l.tell)) l.tell;
      begun : l.self.begun ≡ l.begun;
      same : l.begun ≡ l.initial.self.begun;
      limit : l.self.limit ≡ l.initial.self.limit;
    }

abbrev pub decreases-scan-tokens : goal.decreases-scan-tokens
decreases-scan-tokens g l = held_room (g.F.Files.shelf l.files) l.self

abbrev pub invariant-gather-rounds : goal.invariant-gather-rounds
invariant-gather-rounds g l =
    let T = g.T.Teller in
    let F = g.F.Files in
    Gathers (hears T.wanting T.heard) (hears_part T.wanting T.part) l.fn.gathering l.fn.self (outside (F.shelf l.fn.files) (F.faults l.fn.files) (T.faults l.fn.tell) (T.loan l.fn.tell)) l.fn.tell l.gathered l.self (outside (F.shelf l.files) (F.faults l.files) (T.faults l.tell) (T.loan l.tell)) l.tell

abbrev pub decreases-gather-rounds : goal.decreases-gather-rounds
decreases-gather-rounds g l = l.self.limit - l.self.begun

abbrev pub invariant-gather-tokens : goal.invariant-gather-tokens
invariant-gather-tokens g l =
    let T = g.T.Teller in
    let F = g.F.Files in
    record {
      on : Gathers (hears T.wanting T.heard) (hears_part T.wanting T.part) l.fn.gathering l.fn.self (outside (F.shelf l.fn.files) (F.faults l.fn.files) (T.faults l.fn.tell) (T.loan l.fn.tell)) l.fn.tell l.gathered l.self (outside (F.shelf l.files) (F.faults l.files) (T.faults l.tell) (T.loan l.tell)) l.tell;
      begun : l.self.begun ≡ l.initial.self.begun;
      limit : l.self.limit ≡ l.initial.self.limit;
    }

abbrev pub decreases-gather-tokens : goal.decreases-gather-tokens
decreases-gather-tokens g l = held_room (g.F.Files.shelf l.files) l.self

abbrev pub decreases-all_left : goal.decreases-all_left
decreases-all_left g l = measure l.self.now.nesting l.deep 3

abbrev pub decreases-plain_name : goal.decreases-plain_name
decreases-plain_name g l = measure l.self.now.nesting l.deep 3

abbrev pub decreases-name_argument : goal.decreases-name_argument
decreases-name_argument g l = measure l.self.now.nesting l.deep 4

abbrev pub decreases-file_name : goal.decreases-file_name
decreases-file_name g l = measure l.self.now.nesting l.deep 5
