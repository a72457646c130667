use Rattle.std.proofs.Common.{ap}
use Rattle.std.proofs.lemmas.Str.{is_utf8-from_IsUtf8}
use Rattle.texml_text.proofs.Taking.{cuts_at, utf8_not}
use Rattle.texml_text.proofs.reader.LineReader.load_first.Goals as goal

pub returns-in_default-from_utf8 : goal.returns-in_default-from_utf8
returns-in_default-from_utf8 c = (
  c.in-Some.bytes.now,
  cuts_at c.args.self.now _ _ _ _ (ap (λ r. r.fresh) c.self.view_is) c.held.ensures c.in-Some.ensures,
  utf8_not _ c.in_default-from_utf8.ensures.cases.0,
)

pub returns-in-Ok-load_text : goal.returns-in-Ok-load_text
returns-in-Ok-load_text c =
    let text = c.in-Ok.ensures.cases in (
      c.in-Some.bytes.now,
      cuts_at c.args.self.now _ _ _ _ (ap (λ r. r.fresh) c.self.view_is) c.held.ensures c.in-Some.ensures,
      is_utf8-from_IsUtf8 _ text.1,
      rw text.0 at c.in-Ok-load_text.ensures.codes,
      c.in-Ok-load_text.ensures.scalars,
    )
