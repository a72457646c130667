use Rattle.std.proofs.Common.{Bool, true, false, []}
use Rattle.texml_expand.specs.Laws.{Decides}
use Rattle.texml_expand.specs.Quantities.{int_text, dimension_text, glue_text, keyword_text, expanded, read_index, read_key}
use Rattle.texml_expand.specs.Expand.{level, fetched, expand_token}
use Rattle.texml_expand.specs.Absorb.{absorb as spec_absorb}
use Rattle.texml_expand.proofs.Lawful.{By, Lawful, lawful_scan}
use Rattle.texml_expand.proofs.Looking.{lawful_expanded, lawful_index, lawful_key}
use Rattle.texml_expand.proofs.Public.{lawful_fetched, lawful_expand_token, absorbing, lawful_absorbing}
use Rattle.texml_expand.proofs.Total.{settles_at}
use Rattle.texml_expand.proofs.laws.always_decides.Goals as goal

decides : {A : Type 0} (r : By A) → Lawful r → Decides (λ n. r (level n))
decides r h s = let d = settles_at r h s in (d.at, d.decided)

absorb : (expanding : Bool) → Decides (spec_absorb expanding)
absorb false = decides (absorbing false) (lawful_absorbing false)
absorb true = decides (absorbing true) (lawful_absorbing true)

pub returns : goal.returns
returns c = record {
  fetch = decides fetched lawful_fetched;
  look = decides expanded lawful_expanded;
  expand = λ t. decides (λ c. expand_token c t) (lawful_expand_token t);
  int = decides (λ c. c.scan int_text []) (lawful_scan int_text);
  dimen = decides (λ c. c.scan dimension_text []) (lawful_scan dimension_text);
  glue = decides (λ c. c.scan glue_text []) (lawful_scan glue_text);
  keyword = λ word. decides (λ c. c.scan (keyword_text word) []) (lawful_scan (keyword_text word));
  index = λ i. decides (λ c. read_index c i) (lawful_index i);
  variable = λ v. decides (λ c. read_key c v) (lawful_key v);
  absorb = absorb;
}
