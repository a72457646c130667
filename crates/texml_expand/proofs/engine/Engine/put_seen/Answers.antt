use Rattle.std.proofs.Common.{length, sym, ap, subst, ◌∙◌, List}
use Rattle.texml_token.specs.Token.{Token}
use Rattle.texml_token.specs.Numbers.{tokens_at, TokensWithin}
use Rattle.texml_expand.specs.State.{change}
use Rattle.texml_expand.specs.Take.{put}
use Rattle.texml_expand.specs.Contract.{Local}
use Rattle.texml_expand.proofs.Scanning.{codes_at, codes_within, local_put}
use Rattle.texml_expand.proofs.engine.Engine.put_seen.Goals as goal

pub put-requires-clause-tokens : goal.put-requires-clause-tokens
put-requires-clause-tokens c = λ running.
    let n = length c.args.self.now.names in
    subst (TokensWithin n) (sym c.in-Ok.ensures) (codes_within n c.args.seen.now c.requires.within)

pub returns-in-Ok-clause-does : goal.returns-in-Ok-clause-does
returns-in-Ok-clause-does c =
    let P : List Token → Type 0 = λ list. Local (change (put list)) c.put.result c.args.self.now c.put.new.self in
    subst P (ap (tokens_at c.args.self.now.names) c.in-Ok.ensures ∙ codes_at c.args.self.now.names c.args.seen.now) (local_put c.args.self.now c.put.new.self _ c.put.result _ (c.put.ensures.put c.requires.running))
