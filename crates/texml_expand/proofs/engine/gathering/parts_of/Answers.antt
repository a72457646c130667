use Rattle.std.proofs.Common.{sym, ap, subst, ◌∙◌}
use Rattle.texml_token.specs.Numbers.{tokens_at}
use Rattle.texml_expand.specs.Gathering.{kept_of}
use Rattle.texml_expand.specs.VariableCodes.{internal_at, InternalWithin}
use Rattle.texml_expand.proofs.Gatherer.{ok_on, quantity_back, quantity_kept, parts_returned}
use Rattle.texml_expand.proofs.engine.gathering.parts_of.Goals as goal

pub returns-in-Tokens-clause-kept : goal.returns-in-Tokens-clause-kept
returns-in-Tokens-clause-kept c = ok_on c.taken.result c.taken.ensures.kept (λ parts h texts. h texts ∙ sym (ap (λ q. kept_of (internal_at texts q)) c.in-Tokens.is))

pub returns-in-Tokens-clause-within : goal.returns-in-Tokens-clause-within
returns-in-Tokens-clause-within c = ok_on c.taken.result c.taken.ensures.within (λ parts h count within. h count (subst (InternalWithin count) c.in-Tokens.is within))

pub returns-in_ok-shown-in_default : goal.returns-in_ok-shown-in_default
returns-in_ok-shown-in_default c =
    let q = c.args.internal in
    let list = c.in_ok-shown-in_default.field-0 in
    let shows = c.in_ok-shown-in_default.ensures in
    record {
      back = ok_on c.returned.result c.returned.ensures (λ parts e texts. ap (λ p. tokens_at texts p.back) e ∙ shows.is texts ∙ sym (quantity_back texts q c.in_default.not-Tokens));
      told = ok_on c.returned.result c.returned.ensures (λ parts e texts. ap (λ p. tokens_at texts p.told) e ∙ shows.is texts);
      kept = ok_on c.returned.result c.returned.ensures (λ parts e texts. ap (λ p. tokens_at texts p.kept) e ∙ sym (quantity_kept texts q c.in_default.not-Tokens));
      within = ok_on c.returned.result c.returned.ensures (λ parts e count within. parts_returned count parts list e (shows.within count within));
    }
