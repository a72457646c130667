use Rattle.std.proofs.Common.{sym, ap}
use Rattle.texml_token.specs.Numbers.{token_at}
use Rattle.texml_expand.specs.State.{Done, nothing}
use Rattle.texml_expand.specs.Held.{state_of}
use Rattle.texml_assign.specs.Loop.{On}
use Rattle.texml_assign.proofs.Readings.{plain_give}
use Rattle.texml_assign.proofs.Doing.{does_then, does_stop, does_now, does_out}
use Rattle.texml_top.specs.Gather.{ops_of}
use Rattle.texml_top.specs.Digest.{digest_token}
use Rattle.texml_expand.proofs.Stopping.{passed_on}
use Rattle.texml_top.proofs.Digesting.{lawful_token, more_seen, lawful_more}
use Rattle.texml_top.proofs.digest.digest_turn.Goals as goal

pub returns-in_err-piece : goal.returns-in_err-piece
returns-in_err-piece g c = record {
  does =
      let t = token_at c.args.engine.now.names c.args.token in let seen = c.args.seen.now in
      let h = does_stop _ _ (digest_token t) (more_seen seen) (lawful_token t) (lawful_more seen) _ _ _ _ _ _ _ c.requires.sound c.in_err-piece.ensures.does in
      rw (passed_on c.from_residual.result c.in_err-piece.field-0.0 c.from_residual.ensures) h;
}

pub returns-in-Ok : goal.returns-in-Ok
returns-in-Ok g c = record {
  does =
      let t = token_at c.args.engine.now.names c.args.token in let seen = c.args.seen.now in let d = c.in_ok-piece.ensures.does in let mid = c.digest_token.new.engine in let ops = ops_of c.in_ok-piece.piece in
      does_then _ _ (digest_token t) (more_seen seen) (lawful_token t) (lawful_more seen) ops _ _ mid mid _ _ _ _ _ _ d
      (does_now _ _ (more_seen seen ops 0) (plain_give _) (On c.add.new.self) mid _ _ d.keeps.sound d.holds.owns d.stops.kept (λ shelf. ap (λ l. Done (On l) (state_of shelf mid) nothing) (sym c.in-Ok.ensures)));
}

pub returns-in-Err : goal.returns-in-Err
returns-in-Err g c = record {
  does =
      let t = token_at c.args.engine.now.names c.args.token in let seen = c.args.seen.now in let d = c.in_ok-piece.ensures.does in let mid = c.digest_token.new.engine in let ops = ops_of c.in_ok-piece.piece in
      does_then _ _ (digest_token t) (more_seen seen) (lawful_token t) (lawful_more seen) ops _ _ mid c.no_memory.new.self _ _ _ _ _ _ d
      (does_out _ _ (more_seen seen ops) (lawful_more seen ops) c.no_memory.result mid c.no_memory.new.self _ _ d.keeps.sound d.holds.owns c.no_memory.ensures.is c.no_memory.ensures.kept);
}
