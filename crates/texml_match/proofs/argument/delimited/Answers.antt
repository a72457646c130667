use Rattle.std.proofs.Common.{rules, arith, ◌≡◌, ◌∙◌, ◌-◌, ◌≢◌, sym, ap, ap₂, refl, true, false, ℕ, Some, None, length, take}
use Rattle.std.proofs.lemmas.Bool.{ne_eqb, eq-eqb}
use Rattle.std.proofs.lemmas.List.Elements.{All-take}
use Rattle.texml_token.specs.Numbers.{tokens_at, TokenWithin}
use Rattle.texml_match.specs.Groups.{unbraced}
use Rattle.texml_match.proofs.Grouping.{is_depth}
use Rattle.texml_match.proofs.Delimiting.{delimited_no, delimited_by}
use Rattle.texml_match.proofs.argument.delimited.Goals as goal

pub returns-then-not-ends_with-clause-is : goal.returns-then-not-ends_with-clause-is
returns-then-not-ends_with-clause-is c = λ texts g k h e.
    let no : c.ends_with.result ≡ false = search rules in
    delimited_no texts g c.args.list.now c.args.delimiter.now h k (sym c.ends_with.ensures.value ∙ no)

pub returns-in_default-clause-is : goal.returns-in_default-clause-is
returns-in_default-clause-is c = λ texts g k h e.
    let yes : c.ends_with.result ≡ true = search rules in
    let none : c.open_in.result ≡ None = search rules in
    delimited_by texts g c.args.list.now c.args.delimiter.now h k c.args.depth None false (sym c.ends_with.ensures.value ∙ yes) e (sym none ∙ c.open_in.ensures texts) refl

pub returns-then-opens-depth-clause-is : goal.returns-then-opens-depth-clause-is
returns-then-opens-depth-clause-is c = λ texts g k h e.
    let yes : c.ends_with.result ≡ true = search rules in
    let other : c.in-Some.opens ≢ c.args.depth = search rules in
    delimited_by texts g c.args.list.now c.args.delimiter.now h k c.args.depth (Some c.in-Some.opens) false (sym c.ends_with.ensures.value ∙ yes) e (sym c.in-Some.is ∙ c.open_in.ensures texts) (sym (ne_eqb c.in-Some.opens c.args.depth other))

pub returns-clause-is : goal.returns-clause-is
returns-clause-is c = λ texts g k h e.
    let yes : c.ends_with.result ≡ true = search rules in
    let same : c.in-Some.opens ≡ c.args.depth = search rules in
    ap Some (c.unbraced.ensures.is texts) ∙
    delimited_by texts g c.args.list.now c.args.delimiter.now h k c.args.depth (Some c.in-Some.opens) true (sym c.ends_with.ensures.value ∙ yes) e (sym c.in-Some.is ∙ c.open_in.ensures texts) (sym (eq-eqb c.in-Some.opens c.args.depth same))

pub returns-clause-within : goal.returns-clause-within
returns-clause-within c = λ count h. c.unbraced.ensures.within count (All-take (TokenWithin count) (length c.args.list.now - length c.args.delimiter.now) c.args.list.now h)
