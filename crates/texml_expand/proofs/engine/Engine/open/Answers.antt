use Rattle.std.proofs.Common.{◌≡◌, ◌∙◌, refl, Some, length, subst, sym}
use Rattle.texml_token.specs.Numbers.{token_at}
use Rattle.texml_input.specs.Held.{ids_of}
use Rattle.texml_expand.specs.declared.stop.Stop.TheVariants as stop
use Rattle.texml_expand.specs.Hearing.{hears, hears_part}
use Rattle.texml_expand.specs.Held.{Held, Sound, Owns}
use Rattle.texml_expand.specs.contracts.engine.Engine.{the_view}
use Rattle.texml_expand.proofs.Opening.{too_many, one_more, tells_full, tells_missing, tells_unread, tells_short, tells_refused, tells_opened}
use Rattle.texml_expand.proofs.engine.Engine.open.Goals as goal

pub returns-then-files_open-ge-MOST_FILES-clause-tells : goal.returns-then-files_open-ge-MOST_FILES-clause-tells
returns-then-files_open-ge-MOST_FILES-clause-tells g c =
    let T = g.T.Teller in
    let h = c.args.self.now in
    let count = subst (λ (k : Held). c.files_open.result ≡ length (ids_of k.input.sources)) c.self.view_is c.files_open.ensures in
    tells_full (hears T.wanting T.heard) (hears_part T.wanting T.part) c.args.name.now (token_at h.names c.args.token) c.bare_fault.result h c.bare_fault.new.self _ c.args.tell.now
    (too_many h (g.F.Files.shelf c.args.files.now) c.files_open.result count c.if-files_open-ge-MOST_FILES.true) c.bare_fault.ensures.is c.bare_fault.ensures.kept c.requires.owns

pub returns-in-Ok-None-clause-tells : goal.returns-in-Ok-None-clause-tells
returns-in-Ok-None-clause-tells g c =
    let T = g.T.Teller in
    let h = c.args.self.now in
    let before = g.F.Files.shelf c.args.files.now in
    let count = subst (λ (k : Held). c.files_open.result ≡ length (ids_of k.input.sources)) c.self.view_is c.files_open.ensures in
    let opens = rw c.in-Ok-None.field-0-is at c.in-Ok-None.ensures.opens in
    tells_missing (hears T.wanting T.heard) (hears_part T.wanting T.part) c.args.name.now (token_at h.names c.args.token) h c.missing.new.self before (g.F.Files.shelf c.open_text.new.files)
    (g.F.Files.faults c.args.files.now) (g.F.Files.faults c.open_text.new.files) (T.faults c.args.tell.now) (T.loan c.args.tell.now) c.args.tell.now c.requires.owns opens.0
    c.missing.result c.in-Ok-None.ensures.cause.kept (one_more h before c.files_open.result count c.if-files_open-ge-MOST_FILES.false) opens.1 c.missing.ensures.is c.missing.ensures.kept

pub returns-in-Err-NoMemory-clause-tells : goal.returns-in-Err-NoMemory-clause-tells
returns-in-Err-NoMemory-clause-tells g c =
    let T = g.T.Teller in
    let h = c.args.self.now in
    tells_short (hears T.wanting T.heard) (hears_part T.wanting T.part) c.args.name.now (token_at h.names c.args.token) h c.no_memory.new.self (g.F.Files.shelf c.args.files.now) (g.F.Files.shelf c.open_text.new.files)
    (g.F.Files.faults c.args.files.now) (g.F.Files.faults c.open_text.new.files) (T.faults c.args.tell.now) (T.loan c.args.tell.now) c.args.tell.now c.requires.owns c.in-Err-NoMemory.ensures.opens
    c.no_memory.result (rw c.in-Err-NoMemory.field-0-is at c.in-Err-NoMemory.ensures.cause).kept c.no_memory.ensures.is c.no_memory.ensures.kept

pub returns-in-Err-clause-tells : goal.returns-in-Err-clause-tells
returns-in-Err-clause-tells g c =
    let T = g.T.Teller in
    let h = c.args.self.now in
    let opens = rw c.in-Ok-Some.field-0-is at c.in-Ok-Some.ensures.opens in
    let same = subst (λ (k : Held). c.no_memory-in-Err.new.self ≡ record k { stop = Some stop.NoMemory }) c.self.view_is (rw c.in-Err.ensures.err at c.no_memory-in-Err.ensures.kept) in
    tells_refused (hears T.wanting T.heard) (hears_part T.wanting T.part) c.args.name.now (token_at h.names c.args.token) (g.F.Files.shelf c.args.files.now) (g.F.Files.shelf c.open_text.new.files)
    (g.F.Files.shelf c.close_file.new.self) c.in-Ok-Some.file.name c.in-Ok-Some.file.id opens.0 c.close_file.ensures.closed c.no_memory-in-Err.result h c.no_memory-in-Err.new.self
    (g.F.Files.faults c.args.files.now) (g.F.Files.faults c.close_file.new.self) (T.faults c.args.tell.now) (T.loan c.args.tell.now) c.args.tell.now c.requires.owns
    (c.close_file.ensures.faults ∙ c.in-Ok-Some.ensures.cause.kept) c.no_memory-in-Err.ensures.is same

pub returns-clause-tells : goal.returns-clause-tells
returns-clause-tells g c =
    let T = g.T.Teller in
    let h = the_view c.self.inside in
    let before = g.F.Files.shelf c.args.files.now in
    let sound = subst Sound (sym c.self.view_is) c.requires.sound in
    let owns = subst (Owns before) (sym c.self.view_is) c.requires.owns in
    let opens = rw c.in-Ok-Some.field-0-is at c.in-Ok-Some.ensures.opens in
    let e = rw c.new-nothing.ensures at rw c.in-Ok.ensures.ok at c.tell_of.ensures in
    rw (← c.self.view_is)
    (tells_opened (hears T.wanting T.heard) (hears_part T.wanting T.part) c.args.name.now (token_at h.names c.args.token) before (g.F.Files.shelf c.open_text.new.files) h
    c.in-Ok-Some.file.name c.in-Ok-Some.file.id owns opens.0 c.tell_of.result c.tell_of.new.self (g.F.Files.faults c.args.files.now) (g.F.Files.faults c.open_text.new.files)
    (T.faults c.args.tell.now) (T.faults c.tell_of.new.tell) (T.loan c.args.tell.now) (T.loan c.tell_of.new.tell) c.args.tell.now c.tell_of.new.tell
    (one_more h before c.files_open.result c.files_open.ensures c.if-files_open-ge-MOST_FILES.false) opens.1 sound c.in-Ok-Some.ensures.cause.kept e.told e.stops e.same e.progress e.limit e.files)

pub returns-in-Err-Failed-clause-tells : goal.returns-in-Err-Failed-clause-tells
returns-in-Err-Failed-clause-tells g c =
    let T = g.T.Teller in
    let h = c.args.self.now in
    tells_unread (hears T.wanting T.heard) (hears_part T.wanting T.part) c.args.name.now (token_at h.names c.args.token) h c.stop_with.new.self (g.F.Files.shelf c.args.files.now) (g.F.Files.shelf c.open_text.new.files)
    (g.F.Files.faults c.args.files.now) (g.F.Files.faults c.open_text.new.files) (T.faults c.args.tell.now) (T.loan c.args.tell.now) c.args.tell.now c.requires.owns c.in-Err-Failed.ensures.opens
    ((rw c.in-Err-Failed.field-0-is at c.in-Err-Failed.ensures.cause).failed refl) c.stop_with.ensures
