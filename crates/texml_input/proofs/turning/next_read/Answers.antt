use Rattle.std.proofs.Common.{◌∙◌, IsTrue, Ok, Err, Some, None, refl, sym, subst, arith}
use Rattle.texml_token.proofs.Table.{extends_trans}
use Rattle.texml_scope.specs.Shown.{world_of}
use Rattle.texml_input.specs.Codes.{cats_of, end_of}
use Rattle.texml_input.specs.Next.{next}
use Rattle.texml_input.specs.Held.{rest_at, front_size}
use Rattle.texml_input.specs.Inside.{sources_of}
use Rattle.texml_input.proofs.Sources.{holds_trans}
use Rattle.texml_input.specs.Turning.{turn_bytes}
use Rattle.texml_token.specs.Numbers.{token_at}
use Rattle.texml_input.proofs.Onward.{loads_last, fault_bytes, next_token, onward_again, onward_loaded, onward_ended, spent_again, spent_loaded, spent_ended}
use Rattle.texml_input.proofs.turning.next_read.Goals as goal

pub loop-fault-preserved-in-Ok-Again : goal.loop-fault-preserved-in-Ok-Again
loop-fault-preserved-in-Ok-Again g c =
    let told_now : IsTrue (g.F.Files.shelf c.args.files.now).tells → IsTrue (g.F.Files.shelf c.loop-fault.files).tells = λ told. subst IsTrue (sym c.loop-fault.invariant.holds.tells) told in
    record {
      onward = λ told. onward_again _ _ _ (next (cats_of (world_of c.args.scope.now)) (end_of (world_of c.args.scope.now)) (rest_at c.take_turn.new.names (g.F.Files.shelf c.take_turn.new.files) (sources_of c.take_turn.new.frames.items)) c.take_turn.new.place) (c.loop-fault.invariant.onward told) (rw c.in-Ok-Again.field-0-is at (c.in-Ok-Again.ensures.turns (told_now told)));
      spent = λ told small.
          spent_again _ _ _ _ _ _ _ _ _ (next (cats_of (world_of c.args.scope.now)) (end_of (world_of c.args.scope.now)) (rest_at c.take_turn.new.names (g.F.Files.shelf c.take_turn.new.files) (sources_of c.take_turn.new.frames.items)) c.take_turn.new.place) (c.loop-fault.invariant.spent told small)
          (rw c.in-Ok-Again.field-0-is at (c.in-Ok-Again.ensures.spends (told_now told) (c.loop-fault.invariant.little small)))
          (rw c.in-Ok-Again.field-0-is at (c.in-Ok-Again.ensures.turns (told_now told)));
      holds = holds_trans _ _ _ _ _ _ c.loop-fault.invariant.holds c.take_turn.ensures.holds;
      fences = c.take_turn.ensures.fences ∙ c.loop-fault.invariant.fences;
      aside = λ told. c.take_turn.ensures.aside (told_now told) ∙ c.loop-fault.invariant.aside told;
      sound = c.in-Ok-Again.ensures.sound;
      little = λ small. c.in-Ok-Again.ensures.little (c.loop-fault.invariant.little small);
      within = c.take_turn.ensures.within;
      names = (rw c.in-Ok-Again.field-0-is at c.in-Ok-Again.ensures.names) ∙ c.loop-fault.invariant.names;
      grows = extends_trans _ _ _ c.loop-fault.invariant.grows c.take_turn.ensures.grows;
      numbered = c.take_turn.ensures.numbered;
      lower =
          let falls = rw c.in-Ok-Again.field-0-is at c.in-Ok-Again.ensures.falls in
          let before = c.loop-fault.invariant.lower in
          omega arith;
      faults = c.in-Ok-Again.ensures.cause.kept ∙ c.loop-fault.invariant.faults;
    }

pub loop-fault-preserved-in-Ok-Loaded : goal.loop-fault-preserved-in-Ok-Loaded
loop-fault-preserved-in-Ok-Loaded g c =
    let told_now : IsTrue (g.F.Files.shelf c.args.files.now).tells → IsTrue (g.F.Files.shelf c.loop-fault.files).tells = λ told. subst IsTrue (sym c.loop-fault.invariant.holds.tells) told in
    record {
      onward = λ told. onward_loaded _ _ _ (next (cats_of (world_of c.args.scope.now)) (end_of (world_of c.args.scope.now)) (rest_at c.take_turn.new.names (g.F.Files.shelf c.take_turn.new.files) (sources_of c.take_turn.new.frames.items)) c.take_turn.new.place) (c.loop-fault.invariant.onward told) (front_size (g.F.Files.shelf c.loop-fault.files) (sources_of c.loop-fault.frames.items)) (rw c.in-Ok-Loaded.field-0-is at (c.in-Ok-Loaded.ensures.turns (told_now told)));
      spent = λ told small.
          spent_loaded _ _ _ _ _ _ _ _ _ (next (cats_of (world_of c.args.scope.now)) (end_of (world_of c.args.scope.now)) (rest_at c.take_turn.new.names (g.F.Files.shelf c.take_turn.new.files) (sources_of c.take_turn.new.frames.items)) c.take_turn.new.place) (c.loop-fault.invariant.spent told small) (front_size (g.F.Files.shelf c.loop-fault.files) (sources_of c.loop-fault.frames.items))
          (rw c.in-Ok-Loaded.field-0-is at (c.in-Ok-Loaded.ensures.spends (told_now told) (c.loop-fault.invariant.little small)))
          (rw c.in-Ok-Loaded.field-0-is at (c.in-Ok-Loaded.ensures.turns (told_now told)));
      holds = holds_trans _ _ _ _ _ _ c.loop-fault.invariant.holds c.take_turn.ensures.holds;
      fences = c.take_turn.ensures.fences ∙ c.loop-fault.invariant.fences;
      aside = λ told. c.take_turn.ensures.aside (told_now told) ∙ c.loop-fault.invariant.aside told;
      sound = c.in-Ok-Loaded.ensures.sound;
      little = λ small. c.in-Ok-Loaded.ensures.little (c.loop-fault.invariant.little small);
      within = c.take_turn.ensures.within;
      names = (rw c.in-Ok-Loaded.field-0-is at c.in-Ok-Loaded.ensures.names) ∙ c.loop-fault.invariant.names;
      grows = extends_trans _ _ _ c.loop-fault.invariant.grows c.take_turn.ensures.grows;
      numbered = c.take_turn.ensures.numbered;
      lower =
          let falls = rw c.in-Ok-Loaded.field-0-is at c.in-Ok-Loaded.ensures.falls in
          let before = c.loop-fault.invariant.lower in
          omega arith;
      faults = c.in-Ok-Loaded.ensures.cause.kept ∙ c.loop-fault.invariant.faults;
    }

pub loop-fault-preserved : goal.loop-fault-preserved
loop-fault-preserved g c =
    let told_now : IsTrue (g.F.Files.shelf c.args.files.now).tells → IsTrue (g.F.Files.shelf c.loop-fault.files).tells = λ told. subst IsTrue (sym c.loop-fault.invariant.holds.tells) told in
    record {
      onward = λ told. onward_ended _ _ _ (next (cats_of (world_of c.args.scope.now)) (end_of (world_of c.args.scope.now)) (rest_at c.take_turn.new.names (g.F.Files.shelf c.take_turn.new.files) (sources_of c.take_turn.new.frames.items)) c.take_turn.new.place) (c.loop-fault.invariant.onward told) (rw c.in-Ok-Ended.field-0-is at (c.in-Ok-Ended.ensures.turns (told_now told)));
      spent = λ told small.
          spent_ended _ _ _ _ _ _ _ _ _ (next (cats_of (world_of c.args.scope.now)) (end_of (world_of c.args.scope.now)) (rest_at c.take_turn.new.names (g.F.Files.shelf c.take_turn.new.files) (sources_of c.take_turn.new.frames.items)) c.take_turn.new.place) (c.loop-fault.invariant.spent told small)
          (rw c.in-Ok-Ended.field-0-is at (c.in-Ok-Ended.ensures.spends (told_now told) (c.loop-fault.invariant.little small)))
          (rw c.in-Ok-Ended.field-0-is at (c.in-Ok-Ended.ensures.turns (told_now told)));
      holds = holds_trans _ _ _ _ _ _ c.loop-fault.invariant.holds c.take_turn.ensures.holds;
      fences = c.take_turn.ensures.fences ∙ c.loop-fault.invariant.fences;
      aside = λ told. c.take_turn.ensures.aside (told_now told) ∙ c.loop-fault.invariant.aside told;
      sound = c.in-Ok-Ended.ensures.sound;
      little = λ small. c.in-Ok-Ended.ensures.little (c.loop-fault.invariant.little small);
      within = c.take_turn.ensures.within;
      names = (rw c.in-Ok-Ended.field-0-is at c.in-Ok-Ended.ensures.names) ∙ c.loop-fault.invariant.names;
      grows = extends_trans _ _ _ c.loop-fault.invariant.grows c.take_turn.ensures.grows;
      numbered = c.take_turn.ensures.numbered;
      lower =
          let falls = rw c.in-Ok-Ended.field-0-is at c.in-Ok-Ended.ensures.falls in
          let before = c.loop-fault.invariant.lower in
          omega arith;
      faults = c.in-Ok-Ended.ensures.cause.kept ∙ c.loop-fault.invariant.faults;
    }

pub returns-in-Err-clause-loads : goal.returns-in-Err-clause-loads
returns-in-Err-clause-loads g c = λ told small.
    let told_now : IsTrue (g.F.Files.shelf c.loop-fault.files).tells = subst IsTrue (sym c.loop-fault.invariant.holds.tells) told in
    loads_last _ _ _ _ _ _ _ _ _ (c.loop-fault.invariant.spent told small) (Err c.in-Err.fault)
    (turn_bytes (Err c.in-Err.fault) (front_size (g.F.Files.shelf c.loop-fault.files) (sources_of c.loop-fault.frames.items))) (c.in-Err.ensures.spends told_now (c.loop-fault.invariant.little small))
    (fault_bytes (cats_of (world_of c.args.scope.now)) (end_of (world_of c.args.scope.now)) c.take_turn.new.names
    (front_size (g.F.Files.shelf c.loop-fault.files) (sources_of c.loop-fault.frames.items)) (front_size (g.F.Files.shelf c.take_turn.new.files) (sources_of c.take_turn.new.frames.items))
    (rest_at c.loop-fault.names (g.F.Files.shelf c.loop-fault.files) (sources_of c.loop-fault.frames.items)) c.loop-fault.place
    (rest_at c.take_turn.new.names (g.F.Files.shelf c.take_turn.new.files) (sources_of c.take_turn.new.frames.items)) c.take_turn.new.place
    (g.F.Files.shelf c.take_turn.new.files) (sources_of c.take_turn.new.frames.items) c.in-Err.fault refl (c.in-Err.ensures.turns told_now))

pub returns-in-Err-clause-grows : goal.returns-in-Err-clause-grows
returns-in-Err-clause-grows g c = extends_trans _ _ _ c.loop-fault.invariant.grows c.take_turn.ensures.grows

pub returns-in-Ok-End-clause-loads : goal.returns-in-Ok-End-clause-loads
returns-in-Ok-End-clause-loads g c = λ told small.
    let told_now : IsTrue (g.F.Files.shelf c.loop-fault.files).tells = subst IsTrue (sym c.loop-fault.invariant.holds.tells) told in
    loads_last _ _ _ _ _ _ _ _ _ (c.loop-fault.invariant.spent told small) (Ok None) 0
    (rw c.in-Ok-End.field-0-is at (c.in-Ok-End.ensures.spends told_now (c.loop-fault.invariant.little small))) (omega arith)

pub returns-in-Ok-End-clause-grows : goal.returns-in-Ok-End-clause-grows
returns-in-Ok-End-clause-grows g c = extends_trans _ _ _ c.loop-fault.invariant.grows c.take_turn.ensures.grows

pub returns-in-Ok-Token-clause-next : goal.returns-in-Ok-Token-clause-next
returns-in-Ok-Token-clause-next g c = λ told.
    let told_now : IsTrue (g.F.Files.shelf c.loop-fault.files).tells = subst IsTrue (sym c.loop-fault.invariant.holds.tells) told in
    next_token _ _ _ (token_at c.take_turn.new.names c.in-Ok-Token.token) c.in-Ok-Token.frozen _ _ (c.loop-fault.invariant.onward told) (rw c.in-Ok-Token.field-0-is at (c.in-Ok-Token.ensures.turns told_now))

pub returns-in-Ok-Token-clause-loads : goal.returns-in-Ok-Token-clause-loads
returns-in-Ok-Token-clause-loads g c = λ told small.
    let told_now : IsTrue (g.F.Files.shelf c.loop-fault.files).tells = subst IsTrue (sym c.loop-fault.invariant.holds.tells) told in
    loads_last _ _ _ _ _ _ _ _ _ (c.loop-fault.invariant.spent told small) (Ok (Some (record { token = c.in-Ok-Token.token; frozen = c.in-Ok-Token.frozen; crossed = c.loop-fault.crossed }))) 0
    (rw c.in-Ok-Token.field-0-is at (c.in-Ok-Token.ensures.spends told_now (c.loop-fault.invariant.little small))) (omega arith)

pub returns-in-Ok-Token-clause-grows : goal.returns-in-Ok-Token-clause-grows
returns-in-Ok-Token-clause-grows g c = extends_trans _ _ _ c.loop-fault.invariant.grows c.take_turn.ensures.grows

pub returns-in-Err-clause-holds : goal.returns-in-Err-clause-holds
returns-in-Err-clause-holds g c = holds_trans _ _ _ _ _ _ c.loop-fault.invariant.holds c.take_turn.ensures.holds

pub returns-in-Ok-End-clause-holds : goal.returns-in-Ok-End-clause-holds
returns-in-Ok-End-clause-holds g c = holds_trans _ _ _ _ _ _ c.loop-fault.invariant.holds c.take_turn.ensures.holds

pub returns-in-Ok-Token-clause-holds : goal.returns-in-Ok-Token-clause-holds
returns-in-Ok-Token-clause-holds g c = holds_trans _ _ _ _ _ _ c.loop-fault.invariant.holds c.take_turn.ensures.holds
