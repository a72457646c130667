use Rattle.std.proofs.Common.{arith, [], ap, subst, sym, ◌≡◌}
use Rattle.texml_token.specs.Numbers.{Table, token_at}
use Rattle.texml_match.specs.Reading.{Wants}
use Rattle.texml_match.specs.Left.{left, Says, Reads}
use Rattle.texml_expand.specs.Held.{Held}
use Rattle.texml_expand.proofs.Matching.{matching_none, matching_gives, matched_by, matching_fails, matching_out, matching_more, matching_stops, reads_now}
use Rattle.texml_expand.proofs.Stopping.{passed_on}
use Rattle.texml_expand.proofs.engine.Engine.match_shape.Goals as goal

pub tokens-init : goal.tokens-init
tokens-init g c =
    matching_none c.args.shape.now c.args.self.now _ c.new-matcher.result c.requires.running c.requires.sound c.requires.owns c.requires.some (c.new-matcher.ensures.whole c.args.self.now.names c.args.shape.now)
    (c.new-matcher.ensures.reads c.args.self.now.names c.args.shape.now c.requires.sound.numbered c.requires.shape c.requires.some)

pub returns-in_err-token-clause-gets : goal.returns-in_err-token-clause-gets
returns-in_err-token-clause-gets g c =
    let h = matching_stops c.args.shape.now c.args.self.now _ c.tokens.matcher c.tokens.self _ _ _ c.in_err-token.field-0.0 c.tokens.invariant c.in_err-token.ensures.gets in
    rw (passed_on c.from_residual.result c.in_err-token.field-0.0 c.from_residual.ensures) h

pub feed-requires-clause-reads : goal.feed-requires-clause-reads
feed-requires-clause-reads g c =
    subst (λ names. Reads names c.args.shape.now c.tokens.matcher) (sym (ap (λ (h : Held). h.names) c.self-in-tokens.view_is))
    (reads_now c.args.shape.now c.args.self.now _ c.tokens.matcher c.tokens.self c.inner_token.new.self _ c.tokens.invariant c.in_ok-token.ensures.gets.keeps)

pub tokens-smaller : goal.tokens-smaller
tokens-smaller g c = let s = c.in_ok-token.ensures.lower.room c.in_ok-token.ensures.begun in omega arith

pub tokens-preserved : goal.tokens-preserved
tokens-preserved g c =
    let same = ap (λ (h : Held). h.names) c.self-in-tokens.view_is in
    let P : Table → Type 0 = λ names. Says names c.feed.result (left names c.args.shape.now c.tokens.matcher) (left names c.args.shape.now c.feed.new.self) (token_at names c.in_ok-token.token) in
    matching_more c.args.shape.now c.args.self.now _ c.tokens.matcher c.feed.new.self c.tokens.self c.inner_token.new.self _ _ c.in_ok-token.token c.feed.result c.tokens.invariant
    c.in_ok-token.ensures.gets c.in_ok-token.ensures.lower (subst P same c.feed.ensures.says) c.in-More.is
    (subst (λ names. Reads names c.args.shape.now c.feed.new.self) same c.in-More.ensures.reads) (subst (λ names. left names c.args.shape.now c.feed.new.self [] ≡ Wants) same c.in-More.ensures.wants)

pub returns-in-All-clause-gets : goal.returns-in-All-clause-gets
returns-in-All-clause-gets g c =
    let same = ap (λ (h : Held). h.names) c.self-in-tokens.view_is in
    let P : Table → Type 0 = λ names. Says names c.feed.result (left names c.args.shape.now c.tokens.matcher) (left names c.args.shape.now c.feed.new.self) (token_at names c.in_ok-token.token) in
    matching_gives c.args.shape.now c.args.self.now _ c.tokens.matcher c.feed.new.self c.tokens.self c.inner_token.new.self _ _ c.in_ok-token.token c.feed.result c.tokens.invariant
    c.in_ok-token.ensures.gets c.in_ok-token.ensures.lower (subst P same c.feed.ensures.says) c.in-All.args c.in-All.is

pub returns-in-All-clause-lower : goal.returns-in-All-clause-lower
returns-in-All-clause-lower g c =
    let same = ap (λ (h : Held). h.names) c.self-in-tokens.view_is in
    let P : Table → Type 0 = λ names. Says names c.feed.result (left names c.args.shape.now c.tokens.matcher) (left names c.args.shape.now c.feed.new.self) (token_at names c.in_ok-token.token) in
    matched_by c.args.shape.now c.args.self.now _ c.tokens.matcher c.feed.new.self c.tokens.self c.inner_token.new.self _ _ c.in_ok-token.token c.feed.result c.tokens.invariant
    c.in_ok-token.ensures.gets c.in_ok-token.ensures.lower (subst P same c.feed.ensures.says) c.in-All.args c.in-All.is

pub returns-in-Fault-clause-gets : goal.returns-in-Fault-clause-gets
returns-in-Fault-clause-gets g c =
    let same = ap (λ (h : Held). h.names) c.self-in-tokens.view_is in
    let P : Table → Type 0 = λ names. Says names c.feed.result (left names c.args.shape.now c.tokens.matcher) (left names c.args.shape.now c.feed.new.self) (token_at names c.in_ok-token.token) in
    matching_fails c.args.shape.now c.args.self.now _ c.tokens.matcher c.feed.new.self c.tokens.self c.inner_token.new.self _ _ c.in_ok-token.token c.feed.result c.tokens.invariant
    c.in_ok-token.ensures.gets c.in_ok-token.ensures.lower (subst P same c.feed.ensures.says) c.in-Fault.fault c.bare_fault.result c.bare_fault.new.self c.in-Fault.is
    (rw c.number_of.ensures at c.bare_fault.ensures.is) c.bare_fault.ensures.kept

pub returns-in-NoMemory-clause-gets : goal.returns-in-NoMemory-clause-gets
returns-in-NoMemory-clause-gets g c =
    let same = ap (λ (h : Held). h.names) c.self-in-tokens.view_is in
    let P : Table → Type 0 = λ names. Says names c.feed.result (left names c.args.shape.now c.tokens.matcher) (left names c.args.shape.now c.feed.new.self) (token_at names c.in_ok-token.token) in
    matching_out c.args.shape.now c.args.self.now _ c.tokens.matcher c.feed.new.self c.tokens.self c.inner_token.new.self _ _ c.in_ok-token.token c.feed.result c.tokens.invariant
    c.in_ok-token.ensures.gets c.in_ok-token.ensures.lower (subst P same c.feed.ensures.says) c.no_memory.result c.no_memory.new.self c.no_memory.ensures.is c.no_memory.ensures.kept
