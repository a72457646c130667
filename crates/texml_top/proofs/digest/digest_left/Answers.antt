use Rattle.std.proofs.Common.{sym, ap}
use Rattle.texml_token.specs.Numbers.{token_at}
use Rattle.texml_scope.specs.Numbers.{meaning_at}
use Rattle.texml_expand.specs.Held.{Kept, Puts, state_of, ok_at}
use Rattle.texml_assign.specs.declared.executing.Executed.TheVariants.{NotMine}
use Rattle.texml_assign.proofs.Doing.{does_as, does_out, kept_of, keeps_of, does_local}
use Rattle.texml_top.specs.Gather.{ops_of}
use Rattle.texml_top.specs.Digest.{digest_char, digest_meaning, digest_left}
use Rattle.texml_top.proofs.Digesting.{lawful_left, plain_char}
use Rattle.texml_top.proofs.digest.digest_left.Goals as goal

pub returns-in-Char : goal.returns-in-Char
returns-in-Char g c = record {
  does =
      let old = c.args.engine.now in let new = c.digest_char.new.engine in let r = c.digest_char.result in let d = c.digest_char.ensures in
      rw c.in-Char.is (does_local _ _ (digest_char c.in-Char.code c.in-Char.category) (plain_char c.in-Char.code c.in-Char.category) (ok_at ops_of r) old new _ _ c.requires.owns d.digests (kept_of ops_of r new.stop d.kept) (keeps_of ops_of r (Kept old new) d.keeps) d.advances d.files (keeps_of ops_of r (Puts 0 old new) d.puts));
}

pub returns-in-Err : goal.returns-in-Err
returns-in-Err g c = record {
  does =
      let h = c.args.engine.now in let t = token_at h.names c.args.token in
      does_out _ _ (digest_left t NotMine) (lawful_left t NotMine) c.no_memory.result h c.no_memory.new.self _ _ c.requires.sound c.requires.owns c.no_memory.ensures.is c.no_memory.ensures.kept;
}

pub returns : goal.returns
returns g c = record {
  does =
      let h = c.args.engine.now in let t = token_at h.names c.args.token in let m = meaning_at h.names c.in-Ok.meaning in
      does_as _ _ (digest_left t NotMine) (digest_meaning m) (ok_at ops_of c.digest_meaning.result) h c.digest_meaning.new.engine _ _ _ _ (λ n shelf. ap (λ x. digest_meaning x n (state_of shelf h)) (sym c.in-Ok.ensures.means)) c.digest_meaning.ensures.does;
}
