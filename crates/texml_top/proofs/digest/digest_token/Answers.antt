use Rattle.std.proofs.Common.{[], Ok, refl, ap, subst, sym, length}
use Rattle.texml_token.specs.Token.{Token}
use Rattle.texml_token.specs.Numbers.{token_at, TokenWithin}
use Rattle.texml_expand.specs.Contract.{outside}
use Rattle.texml_expand.specs.Held.{Held, ok_at}
use Rattle.texml_expand.specs.Hearing.{hears, hears_part}
use Rattle.texml_assign.specs.Doing.{Does}
use Rattle.texml_assign.specs.declared.executing.Executed.TheVariants.{Yes, NotMine}
use Rattle.texml_assign.specs.Execute.{execute}
use Rattle.texml_assign.proofs.Readings.{plain_give}
use Rattle.texml_assign.proofs.Doing.{does_then, does_stop, does_now}
use Rattle.texml_assign.proofs.Commands.{lawful_execute}
use Rattle.texml_top.specs.Gather.{ops_of}
use Rattle.texml_top.specs.Digest.{digest_left}
use Rattle.texml_expand.proofs.Stopping.{passed_on}
use Rattle.texml_top.proofs.Digesting.{lawful_left}
use Rattle.texml_top.proofs.digest.digest_token.Goals as goal

pub returns-in_err-done : goal.returns-in_err-done
returns-in_err-done g c = record {
  does =
      let f = c.in_err-done.ensures in let run = c.requires.running in let t = token_at c.args.engine.now.names c.args.token in
      let h = does_stop _ _ (execute t) (digest_left t) (lawful_execute t) (lawful_left t) _ c.args.engine.now c.execute.new.engine _ _ _ _ c.requires.sound
      (record { follows = f.follows run; spends = f.spends run; stops = f.stops run; limit = f.limit run; keeps = tt; advances = f.advances; holds = f.holds; shrinks = tt }) in
      rw (passed_on c.from_residual.result c.in_err-done.field-0.0 c.from_residual.ensures) h;
}

pub returns-in-Yes : goal.returns-in-Yes
returns-in-Yes g c = record {
  does =
      let f = c.in_ok-done.ensures in let t = token_at c.args.engine.now.names c.args.token in let mid = c.execute.new.engine in
      let run = c.requires.running in
      let d = rw c.in-Yes.is at (f.follows run) in let paid = rw c.in-Yes.is at (f.spends run) in let stops = f.stops run in let keeps = f.keeps run in let shrinks = f.lower run in
      does_then _ _ (execute t) (digest_left t) (lawful_execute t) (lawful_left t) Yes (Ok []) c.args.engine.now mid mid _ _ _ _ _ _
      (record { follows = d; spends = paid; stops = record { kept = stops.kept; reads = stops.reads; tells = stops.tells; loan = stops.loan }; limit = tt; keeps = keeps; advances = f.advances; holds = f.holds; shrinks = shrinks })
      (does_now _ _ (digest_left t Yes 0) (plain_give []) [] mid _ _ keeps.sound f.holds.owns stops.kept (λ shelf. refl));
}

pub digest_left-requires-clause-token : goal.digest_left-requires-clause-token
digest_left-requires-clause-token g c =
    let same = c.in_ok-done.ensures.same c.in-NotMine.is in
    subst (λ (h : Held). TokenWithin (length h.names) c.args.token) (sym same.0) c.requires.token

pub returns-in-NotMine : goal.returns-in-NotMine
returns-in-NotMine g c = record {
  does =
      let f = c.in_ok-done.ensures in let old = c.args.engine.now in let t = token_at old.names c.args.token in let mid = c.execute.new.engine in let l = c.digest_left.ensures in let new = c.digest_left.new.engine in
      let run = c.requires.running in
      let d = rw c.in-NotMine.is at (f.follows run) in let paid = rw c.in-NotMine.is at (f.spends run) in let stops = f.stops run in let keeps = f.keeps run in let shrinks = f.lower run in
      let same = ap (λ (h : Held). token_at h.names c.args.token) (c.in_ok-done.ensures.same c.in-NotMine.is).0 in
      let P : Token → Type 0 = λ t. Does (hears g.T.Teller.wanting g.T.Teller.heard) (hears_part g.T.Teller.wanting g.T.Teller.part) (digest_left t NotMine) (ok_at ops_of c.digest_left.result) mid new
      (outside (g.F.Files.shelf c.execute.new.files) (g.F.Files.faults c.execute.new.files) (g.T.Teller.faults c.execute.new.tell) (g.T.Teller.loan c.execute.new.tell)) (outside (g.F.Files.shelf c.digest_left.new.files) (g.F.Files.faults c.digest_left.new.files) (g.T.Teller.faults c.digest_left.new.tell) (g.T.Teller.loan c.digest_left.new.tell)) c.execute.new.tell c.digest_left.new.tell in
      does_then _ _ (execute t) (digest_left t) (lawful_execute t) (lawful_left t) NotMine _ old mid new _ _ _ _ _ _
      (record { follows = d; spends = paid; stops = record { kept = stops.kept; reads = stops.reads; tells = stops.tells; loan = stops.loan }; limit = tt; keeps = keeps; advances = f.advances; holds = f.holds; shrinks = shrinks })
      (subst P same l.does);
}
