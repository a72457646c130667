use Rattle.std.proofs.Common.{false, refl}
use Rattle.texml_token.specs.Numbers.{token_at}
use Rattle.texml_expand.specs.Expand.{back}
use Rattle.texml_assign.proofs.Worlds.{put_local, advances_put}
use Rattle.texml_assign.proofs.sets.put_back.Goals as goal

pub returns-clause-changes : goal.returns-clause-changes
returns-clause-changes c =
    let h = c.args.engine.now in let f = back (token_at h.names c.args.token) false in put_local h c.back.new.self f f c.back.result (λ shelf. refl) (c.back.ensures.back c.requires.running)

pub returns-clause-advances : goal.returns-clause-advances
returns-clause-advances c = let h = c.args.engine.now in advances_put h c.back.new.self (back (token_at h.names c.args.token) false) c.back.result (c.back.ensures.back c.requires.running) (c.back.ensures.rest c.requires.running)
