use Rattle.std.proofs.Common.{ℕ, sym, ap, subst}
use Rattle.std.proofs.lemmas.Result.{on_ok_weaker}
use Rattle.texml_token.specs.Numbers.{tokens_at}
use Rattle.texml_expand.specs.Held.{state_of, world_in, Puts}
use Rattle.texml_expand.specs.Expand.{put}
use Rattle.texml_assign.specs.Letters.{token_in, put_in_case}
use Rattle.texml_assign.proofs.LetterCases.{changed_many}
use Rattle.texml_assign.proofs.Worlds.{put_local, advances_put}
use Rattle.texml_assign.proofs.letters.put_in_case.Goals as goal

pub returns-in-Ok-clause-changes : goal.returns-in-Ok-clause-changes
returns-in-Ok-clause-changes c =
    let h = c.args.engine.now in let run = c.requires.running in
    put_local h c.put.new.self (put (tokens_at h.names c.in-Ok.changed)) (put_in_case c.args.case (tokens_at h.names c.args.list.now)) c.put.result (λ shelf. ap (λ l. put l (state_of shelf h)) (sym c.in-Ok.ensures.are)) (c.put.ensures.put run)

pub returns-in-Ok-clause-advances : goal.returns-in-Ok-clause-advances
returns-in-Ok-clause-advances c = let run = c.requires.running in advances_put c.args.engine.now c.put.new.self (put (tokens_at c.args.engine.now.names c.in-Ok.changed)) c.put.result (c.put.ensures.put run) (c.put.ensures.rest run)

pub returns-in-Ok-clause-puts : goal.returns-in-Ok-clause-puts
returns-in-Ok-clause-puts c =
    let h = c.args.engine.now in
    let P : ℕ → Type 0 = λ n. Puts n h c.put.new.self in
    on_ok_weaker c.put.result (subst P (changed_many h.names (token_in c.args.case (world_in h)) c.args.list.now c.in-Ok.changed c.in-Ok.ensures.are)) (c.put.ensures.puts c.requires.running)
