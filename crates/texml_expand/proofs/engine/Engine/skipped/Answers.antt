use Rattle.std.proofs.Common.{rules, arith, sym, ◌∙◌}
use Rattle.texml_expand.proofs.Skipping.{skipping_none, skipping_stops, skipping_out, skipping_more, skipping_reaches, skipping_deep}
use Rattle.texml_expand.proofs.engine.Engine.skipped.Goals as goal

pub tokens-init : goal.tokens-init
tokens-init g c = skipping_none c.args.self.now _ _ c.requires.running c.requires.sound c.requires.owns c.new-skip.ensures

pub tokens-preserved : goal.tokens-preserved
tokens-preserved g c =
    let i = c.tokens.invariant in
    let x = c.in-Ok-More.ensures in
    skipping_more c.args.self.now c.tokens.self c.inner_token.new.self _ _ _ _ c.in_ok-token.token i c.in_ok-token.ensures.gets c.in_ok-token.ensures.lower x.meaning x.is _ (x.goes_on i.seen i.fed c.in-Ok-More.field-0-is) c.in_ok-token.ensures.begun

pub tokens-smaller : goal.tokens-smaller
tokens-smaller g c = let s = c.in_ok-token.ensures.lower.room c.in_ok-token.ensures.begun in omega arith

pub returns-in_err-token-clause-gets : goal.returns-in_err-token-clause-gets
returns-in_err-token-clause-gets g c =
    let h = skipping_stops c.args.self.now c.tokens.self c.inner_token.new.self _ _ _ _ c.in_err-token.field-0.0 c.tokens.invariant c.in_err-token.ensures.gets in
    search (rules, h)

pub returns-in-Ok-Reached-clause-gets : goal.returns-in-Ok-Reached-clause-gets
returns-in-Ok-Reached-clause-gets g c =
    let i = c.tokens.invariant in
    let x = c.in-Ok-Reached.ensures in
    skipping_reaches c.args.self.now c.tokens.self c.inner_token.new.self _ _ _ _ c.in_ok-token.token i c.in_ok-token.ensures.gets c.in_ok-token.ensures.lower x.meaning x.is c.in-Ok-Reached.word
    (sym (x.decides i.seen i.fed) ∙ c.in-Ok-Reached.field-0-is)

pub returns-in-Ok-TooDeep-clause-gets : goal.returns-in-Ok-TooDeep-clause-gets
returns-in-Ok-TooDeep-clause-gets g c =
    let i = c.tokens.invariant in
    let x = c.in-Ok-TooDeep.ensures in
    let h = skipping_deep c.args.self.now c.tokens.self c.inner_token.new.self _ _ _ _ c.in_ok-token.token i c.in_ok-token.ensures.gets c.in_ok-token.ensures.lower x.meaning x.is c.bare_fault.result c.bare_fault.new.self
    (sym (x.decides i.seen i.fed) ∙ c.in-Ok-TooDeep.field-0-is) c.bare_fault.ensures.is c.bare_fault.ensures.kept in
    search (rules, h)

pub returns-in-Err-clause-gets : goal.returns-in-Err-clause-gets
returns-in-Err-clause-gets g c =
    let h = skipping_out c.args.self.now c.tokens.self c.inner_token.new.self _ _ _ _ c.in_ok-token.token c.tokens.invariant c.in_ok-token.ensures.gets c.in_ok-token.ensures.lower c.no_memory.result c.no_memory.new.self
    c.no_memory.ensures.is c.no_memory.ensures.kept in
    search (rules, h)
