use Rattle.std.proofs.Common.{[], Err, refl}
use Rattle.texml_token.specs.declared.fault_code.TheConstants.{MISPLACED}
use Rattle.texml_scope.specs.Numbers.{meaning_at}
use Rattle.texml_expand.specs.State.{fail, give}
use Rattle.texml_expand.specs.Held.{Kept, Puts, state_of, ok_at}
use Rattle.texml_assign.proofs.Readings.{plain_fail, plain_give}
use Rattle.texml_assign.proofs.Doing.{does_now, does_fault, does_as, kept_of, keeps_of, does_local}
use Rattle.texml_top.specs.Gather.{ops_of}
use Rattle.texml_top.specs.Digest.{char_text, digest_char, digest_meaning}
use Rattle.texml_top.proofs.Digesting.{plain_char, misplaced}
use Rattle.texml_top.proofs.digest.digest_meaning.Goals as goal

pub returns-in-Char : goal.returns-in-Char
returns-in-Char g c = record {
  does =
      let old = c.args.engine.now in let new = c.digest_char.new.engine in let r = c.digest_char.result in let d = c.digest_char.ensures in
      rw c.in-Char.is (does_local _ _ (digest_char c.in-Char.code c.in-Char.category) (plain_char c.in-Char.code c.in-Char.category) (ok_at ops_of r) old new _ _ c.requires.owns d.digests (kept_of ops_of r new.stop d.kept) (keeps_of ops_of r (Kept old new) d.keeps) d.advances d.files (keeps_of ops_of r (Puts 0 old new) d.puts));
}

pub returns-in_default : goal.returns-in_default
returns-in_default g c = record {
  does =
      let h = c.args.engine.now in let m = c.args.meaning.now in let new = c.bare_fault.new.self in let e = c.bare_fault.result in
      does_as _ _ (digest_meaning (meaning_at h.names m)) (λ n. fail MISPLACED []) (Err e) h new _ _ _ _ (λ n shelf. misplaced h.names m n (state_of shelf h) c.in_default.not-Char c.in_default.not-Number c.in_default.not-Builtin)
      (does_fault _ _ (fail MISPLACED []) (plain_fail _ MISPLACED []) MISPLACED e h new _ _ c.requires.owns (λ shelf. refl) c.bare_fault.ensures.is c.bare_fault.ensures.kept);
}

pub returns-in-Number : goal.returns-in-Number
returns-in-Number g c = record {
  does =
      rw (c.in-Number.is, c.char_of.ensures) (does_now _ _ (give (char_text c.in-Number.code)) (plain_give _) (char_text c.in-Number.code) c.args.engine.now _ _ c.requires.sound c.requires.owns c.requires.running (λ shelf. refl));
}

pub returns-in-Builtin : goal.returns-in-Builtin
returns-in-Builtin g c = record { does = rw c.in-Builtin.is (rw c.word_at.ensures at c.digest_word.ensures.does) }
