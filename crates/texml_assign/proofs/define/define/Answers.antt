use Rattle.std.proofs.Common.{subst}
use Rattle.texml_scope.specs.Texts.{Key, Meaning}
use Rattle.texml_scope.specs.Numbers.{key_at, meaning_at}
use Rattle.texml_expand.specs.State.{change}
use Rattle.texml_expand.specs.Contract.{Local}
use Rattle.texml_assign.specs.Loop.{ByDepth}
use Rattle.texml_assign.specs.Operands.{next_key}
use Rattle.texml_assign.specs.Define.{defined}
use Rattle.texml_assign.specs.Sets.{assign}
use Rattle.texml_expand.proofs.Stopping.{passed_on}
use Rattle.texml_assign.proofs.Readings.{Lawful, lawful_plain}
use Rattle.texml_assign.proofs.Doing.{does_then, does_stop, does_local}
use Rattle.texml_assign.proofs.Worlds.{key_stays}
use Rattle.texml_assign.proofs.Commands.{plain_next_key, plain_assign, lawful_defined, key_taken, lawful_key_taken}
use Rattle.texml_assign.proofs.define.define.Goals as goal

pub returns-in_err-key : goal.returns-in_err-key
returns-in_err-key g c =
    let M : ByDepth Meaning = defined c.args.expanding c.args.long in let L : Lawful M = lawful_defined c.args.expanding c.args.long in
    let h = does_stop _ _ (λ n. next_key) (key_taken c.args.global M) (lawful_plain next_key plain_next_key) (lawful_key_taken c.args.global M L) _ _ _ _ _ _ _ c.requires.sound c.in_err-key.ensures.does in
    record { does = rw (passed_on c.from_residual.result c.in_err-key.field-0.0 c.from_residual.ensures) h }

pub returns-in_err-meaning : goal.returns-in_err-meaning
returns-in_err-meaning g c =
    let M : ByDepth Meaning = defined c.args.expanding c.args.long in let L : Lawful M = lawful_defined c.args.expanding c.args.long in
    let f = c.in_ok-key.ensures.does in let k = key_at c.next_key.new.engine.names c.in_ok-key.key in
    let h = does_then _ _ (λ n. next_key) (key_taken c.args.global M) (lawful_plain next_key plain_next_key) (lawful_key_taken c.args.global M L) k _ _ _ _ _ _ _ _ _ _ f
    (does_stop _ _ M (λ m n. change (assign c.args.global k m)) L (λ m. lawful_plain (change (assign c.args.global k m)) (plain_assign c.args.global k m)) _ _ _ _ _ _ _ f.keeps.sound c.in_err-meaning.ensures.does) in
    record { does = rw (passed_on c.from_residual-in_err-meaning.result c.in_err-meaning.field-0.0 c.from_residual-in_err-meaning.ensures) h }

pub returns : goal.returns
returns g c = record {
  does =
      let M : ByDepth Meaning = defined c.args.expanding c.args.long in let L : Lawful M = lawful_defined c.args.expanding c.args.long in
      let f = c.in_ok-key.ensures.does in let e1 = c.next_key.new.engine in let k = key_at e1.names c.in_ok-key.key in
      let d = c.in_ok-meaning.ensures.does in let e2 = c.defined.new.engine in let m = meaning_at e2.names c.in_ok-meaning.meaning in let new = c.assign.new.engine in
      let stays = key_stays e1.names e2.names d.keeps.grows c.in_ok-key.key c.in_ok-key.ensures.within in
      let P : Key → Type 0 = λ k. Local (change (assign c.args.global k m)) c.assign.result e2 new in
      does_then _ _ (λ n. next_key) (key_taken c.args.global M) (lawful_plain next_key plain_next_key) (lawful_key_taken c.args.global M L) k _ _ _ _ _ _ _ _ _ _ f
      (does_then _ _ M (λ m n. change (assign c.args.global k m)) L (λ m. lawful_plain (change (assign c.args.global k m)) (plain_assign c.args.global k m)) m _ _ _ _ _ _ _ _ _ _ d
      (does_local _ _ (change (assign c.args.global k m)) (plain_assign c.args.global k m) c.assign.result e2 new _ _ d.holds.owns (subst P stays c.assign.ensures.sets) c.assign.ensures.kept c.assign.ensures.keeps c.assign.ensures.advances c.assign.ensures.files c.assign.ensures.puts));
}
