use Rattle.std.proofs.Common.{◌≡◌, List, ℕ, [], ◌∷◌, ◌++◌, append_assoc, sym}
use Rattle.std.specs.Prelude.{codes}
use Rattle.texml_base.proofs.Taking.{takes_then, takes_first}
use Rattle.texml_watch.proofs.lines.write_line.Goals as goal

regroup : (a b c d : List ℕ) → a ++ b ++ (c ++ d) ≡ a ++ b ++ c ++ d
regroup a b c d = sym (append_assoc (a ++ b) c d)

pub returns-in-Ok-clause-written : goal.returns-in-Ok-clause-written
returns-in-Ok-clause-written g c =
    let news = c.args.news.now in
    let first = rw c.as_slice.ensures at c.in-Ok.ensures.written in
    let second = rw c.as_slice-in-Ok.ensures at c.write_both-in-Ok.ensures.written in
    rw (← regroup news.token (codes " -> ") news.put (10 ∷ [])) (takes_then _ _ _ _ (news.token ++ codes " -> ") (news.put ++ 10 ∷ []) first second)

pub returns-in-Err-clause-written : goal.returns-in-Err-clause-written
returns-in-Err-clause-written g c =
    let news = c.args.news.now in
    let first = rw c.as_slice.ensures at c.in-Err.ensures.written in
    rw (← regroup news.token (codes " -> ") news.put (10 ∷ [])) (takes_first _ _ (news.token ++ codes " -> ") (news.put ++ 10 ∷ []) first)
