use Rattle.std.proofs.Common.{true, false, sym, ap, ◌∙◌, rules}
use Rattle.texml_token.specs.Numbers.{tokens_at}
use Rattle.texml_expand.specs.Held.{world_in, read_at}
use Rattle.texml_expand.specs.Quantities.{counts_as}
use Rattle.texml_expand.specs.declared.feeding.Verdict.TheVariants.{Yields}
use Rattle.texml_expand.proofs.Gatherer.{name_ends}
use Rattle.texml_expand.proofs.engine.Engine.of_name.Goals as goal

pub returns-then-ends_name : goal.returns-then-ends_name
returns-then-ends_name c =
    let now = c.args.self.now in
    let w = world_in now in
    let list = c.in_ok-tokens.ensures in
    let ends = name_ends now.names w (tokens_at now.names c.args.gathered.now) c.in_ok-token.token c.in_default.not-Char (counts_as w (read_at now.names c.args.read)) c.in_ok-token.ensures.is c.in_ok-means.field-0 c.in_ok-means.ensures.means true (sym c.if-ends_name.true ∙ c.ends_name.ensures now.names) in
    record {
      is = ap (λ l. Yields (tokens_at now.names l)) list ∙ ends;
      within = search (rules, list, c.requires.list);
    }

pub returns : goal.returns
returns c =
    let now = c.args.self.now in
    let w = world_in now in
    record {
      is = name_ends now.names w (tokens_at now.names c.args.gathered.now) c.in_ok-token.token c.in_default.not-Char (counts_as w (read_at now.names c.args.read)) c.in_ok-token.ensures.is c.in_ok-means.field-0 c.in_ok-means.ensures.means false (sym c.if-ends_name.false ∙ c.ends_name.ensures now.names);
      within = tt;
    }
