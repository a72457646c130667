use Rattle.std.proofs.Common.{◌≡◌, ◌∙◌, sym, ap, subst, arith, length, ℕ}
use Rattle.texml_token.specs.Numbers.{Table, Numbered, TextsAreScalar, number_of, with_text, text_at, Extends}
use Rattle.texml_token.proofs.Table.{named_with, text_with, scalars_with, numbered_with, grows_by}
use Rattle.texml_token.proofs.names.Names.intern.Goals as goal

pub returns-clause-number : goal.returns-clause-number
returns-clause-number c = c.in_ok-number.ensures.number ∙ sym (named_with c.self.inside.texts.keys c.args.text.now).0 ∙ ap (λ texts. number_of texts c.args.text.now) (sym c.in_ok-number.ensures.texts)

pub returns-clause-within : goal.returns-clause-within
returns-clause-within c =
    let n = named_with c.self.inside.texts.keys c.args.text.now in
    let at : c.in_ok-number.field-0 ≡ number_of c.self.inside.texts.keys c.args.text.now = c.in_ok-number.ensures.number in
    let long : length c.number.new.texts.keys ≡ length (with_text c.self.inside.texts.keys c.args.text.now) = ap (λ (t : Table). length t) c.in_ok-number.ensures.texts in
    (omega (arith, at), omega (arith, at, n.1, long))

pub returns-clause-text : goal.returns-clause-text
returns-clause-text c =
    ap (λ (n : ℕ). text_at c.number.new.texts.keys n) c.in_ok-number.ensures.number ∙ ap (λ (t : Table). text_at t (number_of c.self.inside.texts.keys c.args.text.now)) c.in_ok-number.ensures.texts ∙ text_with c.self.inside.texts.keys c.args.text.now

pub returns-clause-grows : goal.returns-clause-grows
returns-clause-grows c = subst (λ (t : Table). Extends t c.number.new.texts.keys) c.self.view_is (subst (Extends c.self.inside.texts.keys) (sym c.in_ok-number.ensures.texts) (grows_by c.self.inside.texts.keys c.args.text.now))

pub returns-clause-numbered : goal.returns-clause-numbered
returns-clause-numbered c = subst Numbered (sym c.in_ok-number.ensures.texts) (numbered_with c.self.inside.texts.keys c.args.text.now c.self.invariant.0)

pub invariant_of-self-2 : goal.invariant_of-self-2
invariant_of-self-2 c = (
  subst Numbered (sym c.in_ok-number.ensures.texts) (numbered_with c.self.inside.texts.keys c.args.text.now c.self.invariant.0),
  subst TextsAreScalar (sym c.in_ok-number.ensures.texts) (scalars_with c.self.inside.texts.keys c.args.text.now c.requires c.self.invariant.1),
)
