use Rattle.std.proofs.Common.{rules, ◌≡◌, [], arith, sym, ◌∙◌, ap, Err}
use Rattle.texml_token.specs.Token.{Named}
use Rattle.texml_mouth.specs.declared.LineState.TheVariants.{SkippingBlanks}
use Rattle.texml_mouth.specs.declared.MouthFault.TheVariants.{NoMemory}
use Rattle.texml_mouth.specs.Mouth.{gives, name}
use Rattle.texml_mouth.proofs.Biting.{name_word, name_other, name_end, name_gives, no_memory}
use Rattle.texml_mouth.proofs.Mouth.name.Goals as goal

pub returns-in_default-clause-bites : goal.returns-in_default-clause-bites
returns-in_default-clause-bites g c =
    rw (c.in_ok-named.ensures.token, c.go.ensures) (name_end (g.C.Codes.cats c.args.codes.now) _ c.in_default.ensures.first.0 ∙ ap (gives (Named []) SkippingBlanks) (sym c.in_default.ensures.first.1))

pub returns-in_ok-intern-in-11-clause-bites : goal.returns-in_ok-intern-in-11-clause-bites
returns-in_ok-intern-in-11-clause-bites g c =
    rw (c.in_ok-intern-in-11.ensures.token, c.go-in-11.ensures, c.in_ok-take_letters-in-11.ensures.letters, c.in_ok-take_letters-in-11.ensures.behind, c.in_ok-text-in-11.ensures)
    (name_word (g.C.Codes.cats c.args.codes.now) _ _ _ c.in-Some.ensures.first (sym c.category.ensures.value ∙ c.in-11.is))

pub returns-in_ok-named-in_default-category-clause-bites : goal.returns-in_ok-named-in_default-category-clause-bites
returns-in_ok-named-in_default-category-clause-bites g c =
    rw (c.in_ok-named-in_default-category.ensures.token, c.go-in_default-category.ensures, c.state_behind.ensures, c.category.ensures.value)
    (name_other (g.C.Codes.cats c.args.codes.now) _ _ _ c.in-Some.ensures.first
    (λ is. let e : c.category.result ≡ 11 = c.category.ensures.value ∙ is in omega arith))

pub returns-in_err-named-clause-bites : goal.returns-in_err-named-clause-bites
returns-in_err-named-clause-bites g c =
    let is : c.from_residual.result ≡ Err NoMemory = search rules in
    no_memory (name (g.C.Codes.cats c.args.codes.now) c.args.self.now.spot.tail) _ _ _ is (name_gives (g.C.Codes.cats c.args.codes.now) c.args.self.now.spot.tail)

pub returns-in_err-text-in-11-clause-bites : goal.returns-in_err-text-in-11-clause-bites
returns-in_err-text-in-11-clause-bites g c =
    let is : c.from_residual-in_err-text-in-11.result ≡ Err NoMemory = search rules in
    no_memory (name (g.C.Codes.cats c.args.codes.now) c.args.self.now.spot.tail) _ _ _ is (name_gives (g.C.Codes.cats c.args.codes.now) c.args.self.now.spot.tail)

pub returns-in_err-take_letters-in-11-clause-bites : goal.returns-in_err-take_letters-in-11-clause-bites
returns-in_err-take_letters-in-11-clause-bites g c =
    let is : c.from_residual-in_err-take_letters-in-11.result ≡ Err NoMemory = search rules in
    no_memory (name (g.C.Codes.cats c.args.codes.now) c.args.self.now.spot.tail) _ _ _ is (name_gives (g.C.Codes.cats c.args.codes.now) c.args.self.now.spot.tail)

pub returns-in_err-intern-in-11-clause-bites : goal.returns-in_err-intern-in-11-clause-bites
returns-in_err-intern-in-11-clause-bites g c =
    let is : c.from_residual-in_err-intern-in-11.result ≡ Err NoMemory = search rules in
    no_memory (name (g.C.Codes.cats c.args.codes.now) c.args.self.now.spot.tail) _ _ _ is (name_gives (g.C.Codes.cats c.args.codes.now) c.args.self.now.spot.tail)

pub returns-in_err-named-in_default-category-clause-bites : goal.returns-in_err-named-in_default-category-clause-bites
returns-in_err-named-in_default-category-clause-bites g c =
    let is : c.from_residual-in_err-named-in_default-category.result ≡ Err NoMemory = search rules in
    no_memory (name (g.C.Codes.cats c.args.codes.now) c.args.self.now.spot.tail) _ _ _ is (name_gives (g.C.Codes.cats c.args.codes.now) c.args.self.now.spot.tail)
