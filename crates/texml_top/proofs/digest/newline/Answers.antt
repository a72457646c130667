use Rattle.std.proofs.Common.{Ok, Err, refl, ap}
use Rattle.std.specs.Option.{option_map}
use Rattle.texml_token.specs.Numbers.{tokens_at}
use Rattle.texml_expand.specs.Arguments.{read_optional}
use Rattle.texml_expand.specs.Hearing.{hears, hears_part}
use Rattle.texml_assign.specs.NewCommand.{starred}
use Rattle.texml_assign.proofs.Readings.{lawful_plain, plain_give}
use Rattle.texml_assign.proofs.Doing.{does_then, does_stop, does_now, does_reads, no_more}
use Rattle.texml_assign.proofs.NewCommands.{plain_starred, plain_optional}
use Rattle.texml_expand.proofs.Stopping.{passed_on}
use Rattle.texml_top.proofs.Digesting.{break_ops, behind_bracket, plain_behind_bracket, behind_star, plain_behind_star}
use Rattle.texml_top.proofs.digest.newline.Goals as goal

pub returns-in_err-_star : goal.returns-in_err-_star
returns-in_err-_star g c = record {
  does =
      let old = c.args.engine.now in let mid = c.read_sign.new.self in let a = c.in_err-_star.ensures in let e = c.in_err-_star.field-0.0 in let run = c.requires.running in
      let h = does_stop (hears g.T.Teller.wanting g.T.Teller.heard) (hears_part g.T.Teller.wanting g.T.Teller.part) (λ n. starred) (λ star n. behind_star star) (lawful_plain starred plain_starred) (λ star. lawful_plain (behind_star star) (plain_behind_star star)) e old mid _ _ _ _ c.requires.sound
      (does_reads _ _ starred plain_starred (λ z. z) (Err e) old mid _ _ _ _ a.tell (a.reads run) (a.spends run) (a.stops run) (a.limit run) tt a.progress a.holds tt) in
      rw (passed_on c.from_residual.result c.in_err-_star.field-0.0 c.from_residual.ensures) h;
}

pub returns-in_err-_space : goal.returns-in_err-_space
returns-in_err-_space g c = record {
  does =
      let old = c.args.engine.now in let mid = c.read_sign.new.self in let far = c.read_optional.new.self in let a = c.in_ok-_star.ensures in let star = c.in_ok-_star._star in let run = c.requires.running in
      let o = c.in_err-_space.ensures in let e = c.in_err-_space.field-0.0 in let going = (a.stops run).kept in
      let h = does_then (hears g.T.Teller.wanting g.T.Teller.heard) (hears_part g.T.Teller.wanting g.T.Teller.part) (λ n. starred) (λ star n. behind_star star) (lawful_plain starred plain_starred) (λ star. lawful_plain (behind_star star) (plain_behind_star star)) star _ old mid _ _ _ _ _ _ _
      (does_reads _ _ starred plain_starred (λ z. z) (Ok star) old mid _ _ _ _ a.tell (a.reads run) (a.spends run) (a.stops run) tt (a.keeps run) a.progress a.holds (a.lower run))
      (does_stop _ _ (λ n. read_optional) (λ o n. behind_bracket o) (lawful_plain read_optional plain_optional) (λ o. lawful_plain (behind_bracket o) (plain_behind_bracket o)) e mid far _ _ _ _ (a.keeps run).sound
      (does_reads _ _ read_optional plain_optional (option_map (tokens_at far.names)) (Err e) mid far _ _ _ _ o.tell (o.reads going) (o.spends going) (o.stops going) (o.limit going) tt o.progress o.holds tt)) in
      rw (passed_on c.from_residual-in_err-_space.result c.in_err-_space.field-0.0 c.from_residual-in_err-_space.ensures) h;
}

pub returns : goal.returns
returns g c = record {
  does =
      let old = c.args.engine.now in let mid = c.read_sign.new.self in let far = c.read_optional.new.self in let a = c.in_ok-_star.ensures in let star = c.in_ok-_star._star in let run = c.requires.running in
      let o = c.in_ok-_space.ensures in let space = option_map (tokens_at far.names) c.in_ok-_space._space in let going = (a.stops run).kept in
      does_then (hears g.T.Teller.wanting g.T.Teller.heard) (hears_part g.T.Teller.wanting g.T.Teller.part) (λ n. starred) (λ star n. behind_star star) (lawful_plain starred plain_starred) (λ star. lawful_plain (behind_star star) (plain_behind_star star)) star (Ok break_ops) old mid far _ _ _ _ _ _
      (does_reads _ _ starred plain_starred (λ z. z) (Ok star) old mid _ _ _ _ a.tell (a.reads run) (a.spends run) (a.stops run) tt (a.keeps run) a.progress a.holds (a.lower run))
      (does_then _ _ (λ n. read_optional) (λ o n. behind_bracket o) (lawful_plain read_optional plain_optional) (λ o. lawful_plain (behind_bracket o) (plain_behind_bracket o)) space (Ok break_ops) mid far far _ _ _ _ _ _
      (does_reads _ _ read_optional plain_optional (option_map (tokens_at far.names)) (Ok c.in_ok-_space._space) mid far _ _ _ _ o.tell (o.reads going) (o.spends going) (o.stops going) tt (o.keeps going) o.progress o.holds (no_more (o.lower going)))
      (does_now _ _ (behind_bracket space) (plain_give break_ops) break_ops far _ _ (o.keeps going).sound o.holds.owns (o.stops going).kept (λ shelf. refl)));
}
