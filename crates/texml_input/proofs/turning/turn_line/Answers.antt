use Rattle.std.proofs.Common.{refl, ap, ◌∙◌, arith, subst}
use Rattle.texml_base.specs.Outside.{IsClosed}
use Rattle.texml_text.proofs.Filling.{touches_refl}
use Rattle.texml_input.specs.Next.{place_at}
use Rattle.texml_input.specs.Inside.{sources_of}
use Rattle.texml_input.proofs.InFront.{aside_is, room_is, turn_loaded, turn_not_text, turn_broken, turn_ended, aside_gone, room_gone, holds_gone, little_past, little_broken}
use Rattle.texml_input.proofs.turning.turn_line.Goals as goal

pub returns-in-Err-clause-turns : goal.returns-in-Err-clause-turns
returns-in-Err-clause-turns g c = λ told cats texts.
    turn_broken (g.F.Files.shelf c.args.files.now) (g.F.Files.shelf c.args.files.now) c.args.file c.args.file (sources_of c.args.frames.now.items) (sources_of c.put_last.new.frames.items) c.put_last.ensures.sources c.requires.held refl (touches_refl (g.F.Files.shelf c.args.files.now) c.args.file.reader.id) cats c.args.end texts c.args.place.now c.requires.dry refl

pub returns-in-Err-clause-little : goal.returns-in-Err-clause-little
returns-in-Err-clause-little g c = little_past c.args.file (sources_of c.args.frames.now.items) (sources_of c.put_last.new.frames.items) c.put_last.ensures.sources

pub returns-in-Ok-Line-clause-turns : goal.returns-in-Ok-Line-clause-turns
returns-in-Ok-Line-clause-turns g c = λ told cats texts.
    turn_loaded (g.F.Files.shelf c.args.files.now) (g.F.Files.shelf c.load.new.files) c.args.file c.load.new.self (sources_of c.args.frames.now.items) (sources_of c.put_last-in-Ok-Line.new.frames.items) c.put_last-in-Ok-Line.ensures.sources c.requires.held c.in-Ok-Line.ensures.id c.in-Ok-Line.ensures.touches
    cats c.args.end texts c.args.place.now c.requires.dry c.in-Ok-Line.ensures.name (rw c.in-Ok-Line.field-0-is at (c.in-Ok-Line.ensures.lines told)) c.go.new.self
    (c.go.ensures ∙ ap (λ n. place_at n c.number.result) c.in-Ok.ensures ∙ ap (place_at c.args.file.name) c.number.ensures)

pub returns-in-Ok-Line-clause-aside : goal.returns-in-Ok-Line-clause-aside
returns-in-Ok-Line-clause-aside g c = λ told. aside_is (g.F.Files.shelf c.args.files.now) (g.F.Files.shelf c.load.new.files) c.args.file c.load.new.self (sources_of c.args.frames.now.items) (sources_of c.put_last-in-Ok-Line.new.frames.items) c.put_last-in-Ok-Line.ensures.sources c.requires.held c.in-Ok-Line.ensures.id c.in-Ok-Line.ensures.touches

pub returns-in-Ok-Line-clause-falls : goal.returns-in-Ok-Line-clause-falls
returns-in-Ok-Line-clause-falls g c =
    let room = room_is (g.F.Files.shelf c.args.files.now) (g.F.Files.shelf c.load.new.files) c.args.file c.load.new.self (sources_of c.args.frames.now.items) (sources_of c.put_last-in-Ok-Line.new.frames.items) c.put_last-in-Ok-Line.ensures.sources c.requires.held c.in-Ok-Line.ensures.id c.in-Ok-Line.ensures.touches in
    let lower = rw c.in-Ok-Line.field-0-is at c.in-Ok-Line.ensures.lower in
    let len = c.put_last-in-Ok-Line.ensures.len in
    (omega arith, omega arith)

pub returns-in-Ok-Nothing-clause-turns : goal.returns-in-Ok-Nothing-clause-turns
returns-in-Ok-Nothing-clause-turns g c = λ told cats texts.
    let closed : IsClosed (g.F.Files.shelf c.load.new.files) (g.F.Files.shelf c.close_file.new.self) c.load.new.self.reader.id =
    subst (IsClosed (g.F.Files.shelf c.load.new.files) (g.F.Files.shelf c.close_file.new.self)) c.id.ensures c.close_file.ensures.closed in
    turn_ended (g.F.Files.shelf c.args.files.now) (g.F.Files.shelf c.load.new.files) (g.F.Files.shelf c.close_file.new.self) c.args.file c.load.new.self (sources_of c.args.frames.now.items) c.requires.held c.in-Ok-Nothing.ensures.id c.in-Ok-Nothing.ensures.touches closed
    cats c.args.end texts c.args.place.now c.requires.dry (rw c.in-Ok-Nothing.field-0-is at (c.in-Ok-Nothing.ensures.lines told))

pub returns-in-Ok-Nothing-clause-holds : goal.returns-in-Ok-Nothing-clause-holds
returns-in-Ok-Nothing-clause-holds g c =
    let closed : IsClosed (g.F.Files.shelf c.load.new.files) (g.F.Files.shelf c.close_file.new.self) c.load.new.self.reader.id =
    subst (IsClosed (g.F.Files.shelf c.load.new.files) (g.F.Files.shelf c.close_file.new.self)) c.id.ensures c.close_file.ensures.closed in
    holds_gone (g.F.Files.shelf c.args.files.now) (g.F.Files.shelf c.load.new.files) (g.F.Files.shelf c.close_file.new.self) c.args.file c.load.new.self (sources_of c.args.frames.now.items) c.requires.held c.in-Ok-Nothing.ensures.id c.in-Ok-Nothing.ensures.touches closed

pub returns-in-Ok-Nothing-clause-aside : goal.returns-in-Ok-Nothing-clause-aside
returns-in-Ok-Nothing-clause-aside g c = λ told.
    let closed : IsClosed (g.F.Files.shelf c.load.new.files) (g.F.Files.shelf c.close_file.new.self) c.load.new.self.reader.id =
    subst (IsClosed (g.F.Files.shelf c.load.new.files) (g.F.Files.shelf c.close_file.new.self)) c.id.ensures c.close_file.ensures.closed in
    aside_gone (g.F.Files.shelf c.args.files.now) (g.F.Files.shelf c.load.new.files) (g.F.Files.shelf c.close_file.new.self) c.args.file c.load.new.self (sources_of c.args.frames.now.items) c.requires.held c.in-Ok-Nothing.ensures.id c.in-Ok-Nothing.ensures.touches closed

pub returns-in-Ok-Nothing-clause-falls : goal.returns-in-Ok-Nothing-clause-falls
returns-in-Ok-Nothing-clause-falls g c =
    let closed : IsClosed (g.F.Files.shelf c.load.new.files) (g.F.Files.shelf c.close_file.new.self) c.load.new.self.reader.id =
    subst (IsClosed (g.F.Files.shelf c.load.new.files) (g.F.Files.shelf c.close_file.new.self)) c.id.ensures c.close_file.ensures.closed in
    let room = room_gone (g.F.Files.shelf c.args.files.now) (g.F.Files.shelf c.load.new.files) (g.F.Files.shelf c.close_file.new.self) c.args.file c.load.new.self (sources_of c.args.frames.now.items) c.requires.held c.in-Ok-Nothing.ensures.id c.in-Ok-Nothing.ensures.touches closed in
    (omega arith, omega arith)

pub returns-in-Err-NotUtf8-clause-turns : goal.returns-in-Err-NotUtf8-clause-turns
returns-in-Err-NotUtf8-clause-turns g c = λ told cats texts.
    turn_not_text (g.F.Files.shelf c.args.files.now) (g.F.Files.shelf c.load.new.files) c.args.file c.load.new.self (sources_of c.args.frames.now.items) (sources_of c.put_last-in-Err-NotUtf8.new.frames.items) c.put_last-in-Err-NotUtf8.ensures.sources c.requires.held c.in-Err-NotUtf8.ensures.id c.in-Err-NotUtf8.ensures.touches
    cats c.args.end texts c.args.place.now c.requires.dry c.in-Err-NotUtf8.ensures.name (rw c.in-Err-NotUtf8.field-0-is at (c.in-Err-NotUtf8.ensures.lines told)) c.go-in-Err-NotUtf8.new.self
    (c.go-in-Err-NotUtf8.ensures ∙ ap (λ n. place_at n c.number-in-Err-NotUtf8.result) c.in-Ok.ensures ∙ ap (place_at c.args.file.name) c.number-in-Err-NotUtf8.ensures)

pub returns-in-Err-NotUtf8-clause-aside : goal.returns-in-Err-NotUtf8-clause-aside
returns-in-Err-NotUtf8-clause-aside g c = λ told. aside_is (g.F.Files.shelf c.args.files.now) (g.F.Files.shelf c.load.new.files) c.args.file c.load.new.self (sources_of c.args.frames.now.items) (sources_of c.put_last-in-Err-NotUtf8.new.frames.items) c.put_last-in-Err-NotUtf8.ensures.sources c.requires.held c.in-Err-NotUtf8.ensures.id c.in-Err-NotUtf8.ensures.touches

pub returns-in-Err-Failed-clause-turns : goal.returns-in-Err-Failed-clause-turns
returns-in-Err-Failed-clause-turns g c = λ told cats texts.
    turn_broken (g.F.Files.shelf c.args.files.now) (g.F.Files.shelf c.load.new.files) c.args.file c.load.new.self (sources_of c.args.frames.now.items) (sources_of c.put_last-in-Err-Failed.new.frames.items) c.put_last-in-Err-Failed.ensures.sources c.requires.held c.in-Err-Failed.ensures.id c.in-Err-Failed.ensures.touches
    cats c.args.end texts c.args.place.now c.requires.dry (rw c.in-Err-Failed.field-0-is at (c.in-Err-Failed.ensures.lines told))

pub returns-in-Err-NoMemory-clause-turns : goal.returns-in-Err-NoMemory-clause-turns
returns-in-Err-NoMemory-clause-turns g c = λ told cats texts.
    turn_broken (g.F.Files.shelf c.args.files.now) (g.F.Files.shelf c.load.new.files) c.args.file c.load.new.self (sources_of c.args.frames.now.items) (sources_of c.put_last-in-Err-NoMemory.new.frames.items) c.put_last-in-Err-NoMemory.ensures.sources c.requires.held c.in-Err-NoMemory.ensures.id c.in-Err-NoMemory.ensures.touches
    cats c.args.end texts c.args.place.now c.requires.dry (rw c.in-Err-NoMemory.field-0-is at (c.in-Err-NoMemory.ensures.lines told))

pub returns-in-Err-Failed-clause-aside : goal.returns-in-Err-Failed-clause-aside
returns-in-Err-Failed-clause-aside g c = λ told. aside_is (g.F.Files.shelf c.args.files.now) (g.F.Files.shelf c.load.new.files) c.args.file c.load.new.self (sources_of c.args.frames.now.items) (sources_of c.put_last-in-Err-Failed.new.frames.items) c.put_last-in-Err-Failed.ensures.sources c.requires.held c.in-Err-Failed.ensures.id c.in-Err-Failed.ensures.touches

pub returns-in-Err-NoMemory-clause-aside : goal.returns-in-Err-NoMemory-clause-aside
returns-in-Err-NoMemory-clause-aside g c = λ told. aside_is (g.F.Files.shelf c.args.files.now) (g.F.Files.shelf c.load.new.files) c.args.file c.load.new.self (sources_of c.args.frames.now.items) (sources_of c.put_last-in-Err-NoMemory.new.frames.items) c.put_last-in-Err-NoMemory.ensures.sources c.requires.held c.in-Err-NoMemory.ensures.id c.in-Err-NoMemory.ensures.touches

pub returns-in-Err-Failed-clause-little : goal.returns-in-Err-Failed-clause-little
returns-in-Err-Failed-clause-little g c = λ h.
    little_broken c.load.new.self (sources_of c.args.frames.now.items) (sources_of c.put_last-in-Err-Failed.new.frames.items) c.put_last-in-Err-Failed.ensures.sources c.in-Err-Failed.ensures.broken
    (rw c.in-Err-Failed.field-0-is at (c.in-Err-Failed.ensures.little h.0)) h.1

pub returns-in-Err-NoMemory-clause-little : goal.returns-in-Err-NoMemory-clause-little
returns-in-Err-NoMemory-clause-little g c = λ h.
    little_broken c.load.new.self (sources_of c.args.frames.now.items) (sources_of c.put_last-in-Err-NoMemory.new.frames.items) c.put_last-in-Err-NoMemory.ensures.sources c.in-Err-NoMemory.ensures.broken
    (rw c.in-Err-NoMemory.field-0-is at (c.in-Err-NoMemory.ensures.little h.0)) h.1
