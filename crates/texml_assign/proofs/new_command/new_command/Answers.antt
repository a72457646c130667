use Rattle.std.proofs.Common.{false, not, Option, Some, None, refl, subst}
use Rattle.std.specs.Option.{option_map}
use Rattle.texml_scope.specs.Texts.{Key}
use Rattle.texml_scope.specs.Numbers.{key_at, meaning_at}
use Rattle.texml_expand.specs.State.{change}
use Rattle.texml_expand.specs.Contract.{Local}
use Rattle.texml_assign.specs.Sets.{assign}
use Rattle.texml_assign.specs.NewCommand.{starred, command_key, command_macro}
use Rattle.texml_expand.proofs.Stopping.{passed_on}
use Rattle.texml_assign.proofs.Readings.{lawful_plain}
use Rattle.texml_assign.proofs.Doing.{does_then, does_stop, does_now, does_local}
use Rattle.texml_assign.proofs.Worlds.{key_stays}
use Rattle.texml_assign.proofs.NewCommands.{plain_starred, plain_command_key, plain_command_macro, plain_assign_some, macro_read, key_read, plain_key_read, star_read, plain_star_read}
use Rattle.texml_assign.proofs.new_command.new_command.Goals as goal

pub returns-in_err-star : goal.returns-in_err-star
returns-in_err-star g c =
    let naming = c.args.naming in
    let h = does_stop _ _ (λ n. starred) (λ star n. star_read naming star) (lawful_plain starred plain_starred) (λ star. lawful_plain (star_read naming star) (plain_star_read naming star)) _ _ _ _ _ _ _ c.requires.sound c.in_err-star.ensures.does in
    record { does = rw (passed_on c.from_residual.result c.in_err-star.field-0.0 c.from_residual.ensures) h }

pub returns-in_err-key : goal.returns-in_err-key
returns-in_err-key g c =
    let naming = c.args.naming in let f = c.in_ok-star.ensures.does in let star = c.in_ok-star.star in
    let h = does_then _ _ (λ n. starred) (λ star n. star_read naming star) (lawful_plain starred plain_starred) (λ star. lawful_plain (star_read naming star) (plain_star_read naming star)) star _ _ _ _ _ _ _ _ _ _ f
    (does_stop _ _ (λ n. command_key naming) (λ o n. key_read star o) (lawful_plain (command_key naming) (plain_command_key naming)) (λ o. lawful_plain (key_read star o) (plain_key_read star o)) _ _ _ _ _ _ _ f.keeps.sound c.in_err-key.ensures.does) in
    record { does = rw (passed_on c.from_residual-in_err-key.result c.in_err-key.field-0.0 c.from_residual-in_err-key.ensures) h }

pub returns-in_err-meaning : goal.returns-in_err-meaning
returns-in_err-meaning g c =
    let naming = c.args.naming in let f = c.in_ok-star.ensures.does in let star = c.in_ok-star.star in
    let k = c.in_ok-key.ensures.does in let o = option_map (key_at c.command_key.new.engine.names) c.in_ok-key.key in
    let h = does_then _ _ (λ n. starred) (λ star n. star_read naming star) (lawful_plain starred plain_starred) (λ star. lawful_plain (star_read naming star) (plain_star_read naming star)) star _ _ _ _ _ _ _ _ _ _ f
    (does_then _ _ (λ n. command_key naming) (λ o n. key_read star o) (lawful_plain (command_key naming) (plain_command_key naming)) (λ o. lawful_plain (key_read star o) (plain_key_read star o)) o _ _ _ _ _ _ _ _ _ _ k
    (does_stop _ _ (λ n. command_macro (not star)) (λ x n. macro_read o x) (lawful_plain (command_macro (not star)) (plain_command_macro (not star))) (λ x. lawful_plain (macro_read o x) (plain_assign_some o x)) _ _ _ _ _ _ _ k.keeps.sound c.in_err-meaning.ensures.does)) in
    record { does = rw (passed_on c.from_residual-in_err-meaning.result c.in_err-meaning.field-0.0 c.from_residual-in_err-meaning.ensures) h }

pub returns-in-Some : goal.returns-in-Some
returns-in-Some g c = record {
  does =
      let naming = c.args.naming in let f = c.in_ok-star.ensures.does in let star = c.in_ok-star.star in
      let e1 = c.command_key.new.engine in let key = c.in-Some.key in let o = Some (key_at e1.names key) in let k = rw c.in-Some.is at c.in_ok-key.ensures.does in
      let m = c.in_ok-meaning.ensures.does in let e2 = c.command_macro.new.engine in let v = meaning_at e2.names c.in_ok-meaning.meaning in let new = c.assign.new.engine in
      let stays = key_stays e1.names e2.names m.keeps.grows key (rw c.in-Some.is at c.in_ok-key.ensures.within) in
      let P : Key → Type 0 = λ x. Local (change (assign false x v)) c.assign.result e2 new in
      does_then _ _ (λ n. starred) (λ star n. star_read naming star) (lawful_plain starred plain_starred) (λ star. lawful_plain (star_read naming star) (plain_star_read naming star)) star _ _ _ _ _ _ _ _ _ _ f
      (does_then _ _ (λ n. command_key naming) (λ o n. key_read star o) (lawful_plain (command_key naming) (plain_command_key naming)) (λ o. lawful_plain (key_read star o) (plain_key_read star o)) o _ _ _ _ _ _ _ _ _ _ k
      (does_then _ _ (λ n. command_macro (not star)) (λ x n. macro_read o x) (lawful_plain (command_macro (not star)) (plain_command_macro (not star))) (λ x. lawful_plain (macro_read o x) (plain_assign_some o x)) v _ _ _ _ _ _ _ _ _ _ m
      (does_local _ _ (macro_read o v) (plain_assign_some o v) c.assign.result e2 new _ _ m.holds.owns (subst P stays c.assign.ensures.sets) c.assign.ensures.kept c.assign.ensures.keeps c.assign.ensures.advances c.assign.ensures.files c.assign.ensures.puts)));
}

pub returns-in-None : goal.returns-in-None
returns-in-None g c = record {
  does =
      let naming = c.args.naming in let f = c.in_ok-star.ensures.does in let star = c.in_ok-star.star in
      let e1 = c.command_key.new.engine in let o : Option Key = None in let k = rw c.in-None.is at c.in_ok-key.ensures.does in
      let m = c.in_ok-meaning.ensures.does in let e2 = c.command_macro.new.engine in let v = meaning_at e2.names c.in_ok-meaning.meaning in
      does_then _ _ (λ n. starred) (λ star n. star_read naming star) (lawful_plain starred plain_starred) (λ star. lawful_plain (star_read naming star) (plain_star_read naming star)) star _ _ _ _ _ _ _ _ _ _ f
      (does_then _ _ (λ n. command_key naming) (λ o n. key_read star o) (lawful_plain (command_key naming) (plain_command_key naming)) (λ o. lawful_plain (key_read star o) (plain_key_read star o)) o _ _ _ _ _ _ _ _ _ _ k
      (does_then _ _ (λ n. command_macro (not star)) (λ x n. macro_read o x) (lawful_plain (command_macro (not star)) (plain_command_macro (not star))) (λ x. lawful_plain (macro_read o x) (plain_assign_some o x)) v _ _ _ _ _ _ _ _ _ _ m
      (does_now _ _ (macro_read o v) (plain_assign_some o v) tt e2 _ _ m.keeps.sound m.holds.owns m.stops.kept (λ shelf. refl))));
}
