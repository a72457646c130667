use Rattle.std.proofs.Common.{rules, arith, ◌≡◌, ◌≤◌, ◌+◌, ◌∙◌, sym, ap, length, length-append, ◌∷◌, [], ◌++◌, List, None}
use Rattle.std.specs.Option.{IfSome}
use Rattle.texml_token.specs.declared.tokens.Token.{Token}
use Rattle.texml_token.specs.Numbers.{tokens_at}
use Rattle.texml_match.specs.Groups.{open_behind}
use Rattle.texml_match.proofs.Grouping.{pushed_some, pushed_none, no_more}
use Rattle.texml_match.proofs.arg_match.ArgMatch.append.Goals as goal

pub invariant_of-self : goal.invariant_of-self
invariant_of-self c =
    let same : c.push.new.self.items ≡ c.self.inside.list.items = search rules in (
      λ texts. ap (λ (list : List Token). open_behind 0 (tokens_at texts list)) same ∙ c.self.invariant.0 texts,
      no_more _ _ _ c.self.invariant.1 (omega (arith, ap (λ (list : List Token). length list) same)),
    )

pub invariant_of-self-in-Some : goal.invariant_of-self-in-Some
invariant_of-self-in-Some c =
    let more : c.push.new.self.items ≡ c.self.inside.list.items ++ c.args.token ∷ [] = search rules in (
      λ texts. pushed_some texts c.self.inside.list.items c.push.new.self.items c.args.token more _ _ (c.self.invariant.0 texts ∙ c.in-Some.is) (c.behind_token-self-inside.ensures.depth texts),
      no_more _ _ _ c.behind_token-self-inside.ensures.few (omega arith),
    )

pub invariant_of-self-in_default : goal.invariant_of-self-in_default
invariant_of-self-in_default c =
    let more : c.push.new.self.items ≡ c.self.inside.list.items ++ c.args.token ∷ [] = search rules in
    let none : c.self.inside.depth ≡ None = search rules in (
      λ texts. pushed_none texts c.self.inside.list.items c.push.new.self.items c.args.token more _ (c.self.invariant.0 texts) none,
      no_more _ _ _ c.self.invariant.1 (omega (arith, ap (λ (list : List Token). length list) more, length-append c.self.inside.list.items (c.args.token ∷ []))),
    )
