use Rattle.std.proofs.Common.{rules, ◌≡◌, ◌∙◌, sym, ap, None, Some, List, length}
use Rattle.texml_token.specs.declared.tokens.Token.{Token}
use Rattle.texml_token.specs.Numbers.{token_at, tokens_at, TokensWithin}
use Rattle.texml_match.specs.Left.{Stands}
use Rattle.texml_match.proofs.Feeding.{run_as, given_delimiter, skip, extra_brace, runaway, goes_on, goes_stands, next_begins, next_stands}
use Rattle.texml_match.proofs.arg_match.ArgMatch.take_argument.Goals as goal

pub returns-then-skips-clause-takes : goal.returns-then-skips-clause-takes
returns-then-skips-clause-takes c = skip c.args.names.now c.args.shape.now c.args.self.now c.requires.reads c.requires.behind c.args.token c.requires.within c.next_delimiter-delimiter.result.now c.next_delimiter-delimiter.ensures (sym (c.skips.ensures c.args.names.now) ∙ c.if-skips.true)

pub returns-in_default-clause-takes : goal.returns-in_default-clause-takes
returns-in_default-clause-takes c =
    let none : c.depth.result ≡ None = search rules in
    extra_brace c.args.names.now c.args.shape.now c.args.self.now c.requires.reads c.requires.behind c.args.token c.requires.within c.next_delimiter-delimiter.result.now c.next_delimiter-delimiter.ensures (sym (c.skips.ensures c.args.names.now) ∙ c.if-skips.false) c.append.new.self c.in_ok-append.ensures (c.depth.ensures c.args.names.now ∙ none)

pub returns-then-runs_away-clause-takes : goal.returns-then-runs_away-clause-takes
returns-then-runs_away-clause-takes c = runaway c.args.names.now c.args.shape.now c.args.self.now c.requires.reads c.requires.behind c.args.token c.requires.within c.next_delimiter-delimiter.result.now c.next_delimiter-delimiter.ensures (sym (c.skips.ensures c.args.names.now) ∙ c.if-skips.false) c.append.new.self c.in_ok-append.ensures c.in-Some.depth (c.depth.ensures c.args.names.now ∙ c.in-Some.is) (run_as (token_at c.args.names.now c.args.token) (tokens_at c.args.names.now c.next_delimiter-delimiter.result.now) c.is_long.result c.args.shape.now.long c.runs_away.result c.runs_away.ensures c.is_long.ensures ∙ c.if-runs_away.true)

pub returns-in-Some-2-clause-takes : goal.returns-in-Some-2-clause-takes
returns-in-Some-2-clause-takes c =
    let h = (run_as (token_at c.args.names.now c.args.token) (tokens_at c.args.names.now c.next_delimiter-delimiter.result.now) c.is_long.result c.args.shape.now.long c.runs_away.result c.runs_away.ensures c.is_long.ensures ∙ c.if-runs_away.false) in
    let stands : Stands c.args.names.now c.args.shape.now c.append.new.self = goes_stands c.args.names.now c.args.shape.now c.args.self.now c.requires.reads c.requires.behind c.args.token c.requires.within c.next_delimiter-delimiter.result.now c.next_delimiter-delimiter.ensures (sym (c.skips.ensures c.args.names.now) ∙ c.if-skips.false) c.append.new.self c.in_ok-append.ensures c.in-Some.depth (c.depth.ensures c.args.names.now ∙ c.in-Some.is) h in
    let found = c.in_ok-argument.ensures.is c.args.names.now c.requires.reads.stands.numbered (given_delimiter c.args.names.now c.args.shape.now c.args.self.now c.requires.reads c.requires.behind c.args.token c.requires.within c.next_delimiter-delimiter.result.now c.next_delimiter-delimiter.ensures) stands.list (c.depth.ensures c.args.names.now ∙ c.in-Some.is) in
    next_begins c.args.names.now c.args.shape.now c.args.self.now c.requires.reads c.requires.behind c.args.token c.requires.within c.next_delimiter-delimiter.result.now c.next_delimiter-delimiter.ensures (sym (c.skips.ensures c.args.names.now) ∙ c.if-skips.false) c.append.new.self c.in_ok-append.ensures c.in-Some.depth (c.depth.ensures c.args.names.now ∙ c.in-Some.is) h c.in-Some-2.argument c.begin_next.new.self c.begin_next.ensures (rw c.in-Some-2.is at found)

pub returns-in-Some-2-clause-stands : goal.returns-in-Some-2-clause-stands
returns-in-Some-2-clause-stands c =
    let h = (run_as (token_at c.args.names.now c.args.token) (tokens_at c.args.names.now c.next_delimiter-delimiter.result.now) c.is_long.result c.args.shape.now.long c.runs_away.result c.runs_away.ensures c.is_long.ensures ∙ c.if-runs_away.false) in
    let stands : Stands c.args.names.now c.args.shape.now c.append.new.self = goes_stands c.args.names.now c.args.shape.now c.args.self.now c.requires.reads c.requires.behind c.args.token c.requires.within c.next_delimiter-delimiter.result.now c.next_delimiter-delimiter.ensures (sym (c.skips.ensures c.args.names.now) ∙ c.if-skips.false) c.append.new.self c.in_ok-append.ensures c.in-Some.depth (c.depth.ensures c.args.names.now ∙ c.in-Some.is) h in
    let given = c.in_ok-argument.ensures.within (length c.args.names.now) stands.list in
    next_stands c.args.names.now c.args.shape.now c.args.self.now c.requires.reads c.requires.behind c.args.token c.requires.within c.next_delimiter-delimiter.result.now c.next_delimiter-delimiter.ensures (sym (c.skips.ensures c.args.names.now) ∙ c.if-skips.false) c.append.new.self c.in_ok-append.ensures c.in-Some.depth (c.depth.ensures c.args.names.now ∙ c.in-Some.is) h c.in-Some-2.argument c.begin_next.new.self c.begin_next.ensures (rw c.in-Some-2.is at given)

pub returns-in_default-2-clause-takes : goal.returns-in_default-2-clause-takes
returns-in_default-2-clause-takes c =
    let h = (run_as (token_at c.args.names.now c.args.token) (tokens_at c.args.names.now c.next_delimiter-delimiter.result.now) c.is_long.result c.args.shape.now.long c.runs_away.result c.runs_away.ensures c.is_long.ensures ∙ c.if-runs_away.false) in
    let stands : Stands c.args.names.now c.args.shape.now c.append.new.self = goes_stands c.args.names.now c.args.shape.now c.args.self.now c.requires.reads c.requires.behind c.args.token c.requires.within c.next_delimiter-delimiter.result.now c.next_delimiter-delimiter.ensures (sym (c.skips.ensures c.args.names.now) ∙ c.if-skips.false) c.append.new.self c.in_ok-append.ensures c.in-Some.depth (c.depth.ensures c.args.names.now ∙ c.in-Some.is) h in
    let found = c.in_ok-argument.ensures.is c.args.names.now c.requires.reads.stands.numbered (given_delimiter c.args.names.now c.args.shape.now c.args.self.now c.requires.reads c.requires.behind c.args.token c.requires.within c.next_delimiter-delimiter.result.now c.next_delimiter-delimiter.ensures) stands.list (c.depth.ensures c.args.names.now ∙ c.in-Some.is) in
    let none : c.in_ok-argument.field-0 ≡ None = search rules in
    goes_on c.args.names.now c.args.shape.now c.args.self.now c.requires.reads c.requires.behind c.args.token c.requires.within c.next_delimiter-delimiter.result.now c.next_delimiter-delimiter.ensures (sym (c.skips.ensures c.args.names.now) ∙ c.if-skips.false) c.append.new.self c.in_ok-append.ensures c.in-Some.depth (c.depth.ensures c.args.names.now ∙ c.in-Some.is) h (rw none at found)

pub returns-in_default-2-clause-stands : goal.returns-in_default-2-clause-stands
returns-in_default-2-clause-stands c =
    let h = (run_as (token_at c.args.names.now c.args.token) (tokens_at c.args.names.now c.next_delimiter-delimiter.result.now) c.is_long.result c.args.shape.now.long c.runs_away.result c.runs_away.ensures c.is_long.ensures ∙ c.if-runs_away.false) in
    goes_stands c.args.names.now c.args.shape.now c.args.self.now c.requires.reads c.requires.behind c.args.token c.requires.within c.next_delimiter-delimiter.result.now c.next_delimiter-delimiter.ensures (sym (c.skips.ensures c.args.names.now) ∙ c.if-skips.false) c.append.new.self c.in_ok-append.ensures c.in-Some.depth (c.depth.ensures c.args.names.now ∙ c.in-Some.is) h
