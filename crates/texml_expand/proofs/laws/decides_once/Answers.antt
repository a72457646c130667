use Rattle.std.proofs.Common.{Bool, true, false, []}
use Rattle.texml_expand.specs.Laws.{Agrees}
use Rattle.texml_expand.specs.Quantities.{int_text, dimension_text, glue_text, keyword_text, expanded, read_index, read_key}
use Rattle.texml_expand.specs.Expand.{level, fetched, expand_token}
use Rattle.texml_expand.specs.Absorb.{absorb as spec_absorb}
use Rattle.texml_expand.proofs.Lawful.{By, Lawful, lawful_scan}
use Rattle.texml_expand.proofs.Looking.{lawful_expanded, lawful_index, lawful_key}
use Rattle.texml_expand.proofs.Public.{lawful_fetched, lawful_expand_token, absorbing, lawful_absorbing}
use Rattle.texml_expand.proofs.Readings.{agree}
use Rattle.texml_expand.proofs.Total.{at_depth, mono_at}
use Rattle.texml_expand.proofs.laws.decides_once.Goals as goal

agrees : {A : Type 0} (r : By A) → Lawful r → Agrees (λ n. r (level n))
agrees r h s = agree (at_depth r s) (mono_at r h s)

absorb : (expanding : Bool) → Agrees (spec_absorb expanding)
absorb false = agrees (absorbing false) (lawful_absorbing false)
absorb true = agrees (absorbing true) (lawful_absorbing true)

pub returns : goal.returns
returns c = record {
  fetch = agrees fetched lawful_fetched;
  look = agrees expanded lawful_expanded;
  expand = λ t. agrees (λ c. expand_token c t) (lawful_expand_token t);
  int = agrees (λ c. c.scan int_text []) (lawful_scan int_text);
  dimen = agrees (λ c. c.scan dimension_text []) (lawful_scan dimension_text);
  glue = agrees (λ c. c.scan glue_text []) (lawful_scan glue_text);
  keyword = λ word. agrees (λ c. c.scan (keyword_text word) []) (lawful_scan (keyword_text word));
  index = λ i. agrees (λ c. read_index c i) (lawful_index i);
  variable = λ v. agrees (λ c. read_key c v) (lawful_key v);
  absorb = absorb;
}
