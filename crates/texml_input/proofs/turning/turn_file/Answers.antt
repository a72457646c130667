use Rattle.std.proofs.Common.{◌≤◌, ◌∷◌, length, refl, sym, ap, subst}
use Rattle.texml_text.proofs.Filling.{touches_refl}
use Rattle.texml_text.specs.Reader.{first_size}
use Rattle.texml_scope.specs.Shown.{world_of}
use Rattle.texml_input.specs.Codes.{cats_of, end_of}
use Rattle.texml_input.specs.Held.{page_of, rows_of, rest_at, front_size, File}
use Rattle.texml_input.specs.Inside.{sources_of}
use Rattle.texml_input.specs.Turning.{Turns}
use Rattle.texml_input.proofs.Sources.{sources_more}
use Rattle.texml_input.proofs.Turns.{turns_along}
use Rattle.texml_input.proofs.InFront.{turn_token, turn_dry, turn_invalid, turn_spoiled, little_past}
use Rattle.texml_input.proofs.turning.turn_file.Goals as goal

pub returns-in-Ok-Some-clause-turns : goal.returns-in-Ok-Some-clause-turns
returns-in-Ok-Some-clause-turns g c = λ told.
    let b = rw c.in-Ok-Some.field-0-is at c.in-Ok-Some.ensures.bites in
    turn_token (g.F.Files.shelf c.args.files.now) (g.F.Files.shelf c.args.files.now) c.args.file c.token.new.self (sources_of c.args.frames.now.items) (sources_of c.put_last.new.frames.items) c.put_last.ensures.sources c.requires.held (ap (λ k. k.reader.id) b.1) (touches_refl (g.F.Files.shelf c.args.files.now) c.args.file.reader.id)
    (cats_of (world_of c.args.scope.now)) (end_of (world_of c.args.scope.now)) c.token.new.names c.args.place.now c.in-Ok-Some.token (ap (page_of (g.F.Files.shelf c.args.files.now)) b.1) b.0

pub returns-in-Ok-None-clause-turns : goal.returns-in-Ok-None-clause-turns
returns-in-Ok-None-clause-turns g c = λ told.
    let b = rw c.in-Ok-None.field-0-is at c.in-Ok-None.ensures.bites in
    turns_along (cats_of (world_of c.args.scope.now)) (end_of (world_of c.args.scope.now)) c.token.new.names
    (first_size (rows_of (g.F.Files.shelf c.args.files.now) c.args.file)) (first_size (rows_of (g.F.Files.shelf c.args.files.now) c.token.new.self)) (front_size (g.F.Files.shelf c.turn_line.new.files) (sources_of c.turn_line.new.frames.items))
    (rest_at c.token.new.names (g.F.Files.shelf c.args.files.now) (File c.args.file ∷ sources_of c.args.frames.now.items)) (rest_at c.token.new.names (g.F.Files.shelf c.args.files.now) (File c.token.new.self ∷ sources_of c.args.frames.now.items))
    c.args.place.now c.turn_line.result (rest_at c.token.new.names (g.F.Files.shelf c.turn_line.new.files) (sources_of c.turn_line.new.frames.items)) c.turn_line.new.place
    (ap (λ k. first_size (rows_of (g.F.Files.shelf c.args.files.now) k)) (sym b.2))
    (turn_dry (g.F.Files.shelf c.args.files.now) (g.F.Files.shelf c.args.files.now) c.args.file c.args.file (sources_of c.args.frames.now.items) (File c.args.file ∷ sources_of c.args.frames.now.items) refl c.requires.held refl (touches_refl (g.F.Files.shelf c.args.files.now) c.args.file.reader.id)
    (cats_of (world_of c.args.scope.now)) (end_of (world_of c.args.scope.now)) c.token.new.names c.args.place.now c.token.new.self b.2 b.0 b.1)
    (subst (λ end. Turns (cats_of (world_of c.args.scope.now)) end c.token.new.names (first_size (rows_of (g.F.Files.shelf c.args.files.now) c.token.new.self)) (front_size (g.F.Files.shelf c.turn_line.new.files) (sources_of c.turn_line.new.frames.items))
    (rest_at c.token.new.names (g.F.Files.shelf c.args.files.now) (File c.token.new.self ∷ sources_of c.args.frames.now.items)) c.args.place.now c.turn_line.result (rest_at c.token.new.names (g.F.Files.shelf c.turn_line.new.files) (sources_of c.turn_line.new.frames.items)) c.turn_line.new.place)
    c.end_character-end.ensures (c.turn_line.ensures.turns told (cats_of (world_of c.args.scope.now)) c.token.new.names))

pub returns-in-Ok-None-clause-within : goal.returns-in-Ok-None-clause-within
returns-in-Ok-None-clause-within g c = c.turn_line.ensures.within (length c.token.new.names) (sources_more (length c.args.names.now) (length c.token.new.names) c.token.ensures.grows.longer (sources_of c.args.frames.now.items) c.requires.within)

pub returns-in-Err-Invalid-clause-turns : goal.returns-in-Err-Invalid-clause-turns
returns-in-Err-Invalid-clause-turns g c = λ told.
    let b = rw c.in-Err-Invalid.field-0-is at c.in-Err-Invalid.ensures.bites in
    turn_invalid (g.F.Files.shelf c.args.files.now) (g.F.Files.shelf c.args.files.now) c.args.file c.token.new.self (sources_of c.args.frames.now.items) (sources_of c.put_last-in-Err-Invalid.new.frames.items) c.put_last-in-Err-Invalid.ensures.sources c.requires.held (ap (λ k. k.reader.id) b.1) (touches_refl (g.F.Files.shelf c.args.files.now) c.args.file.reader.id)
    (cats_of (world_of c.args.scope.now)) (end_of (world_of c.args.scope.now)) c.token.new.names c.args.place.now _ c.in-Err-Invalid.code c.in-Err-Invalid.code-is b.0

pub returns-in-Err-NoMemory-clause-turns : goal.returns-in-Err-NoMemory-clause-turns
returns-in-Err-NoMemory-clause-turns g c = λ told.
    let b = rw c.in-Err-NoMemory.field-0-is at c.in-Err-NoMemory.ensures.bites in
    turn_spoiled (g.F.Files.shelf c.args.files.now) (g.F.Files.shelf c.args.files.now) c.args.file c.token.new.self (sources_of c.args.frames.now.items) (sources_of c.put_last-in-Err-NoMemory.new.frames.items) c.put_last-in-Err-NoMemory.ensures.sources c.requires.held (ap (λ k. k.reader.id) b) (touches_refl (g.F.Files.shelf c.args.files.now) c.args.file.reader.id)
    (cats_of (world_of c.args.scope.now)) (end_of (world_of c.args.scope.now)) c.token.new.names c.args.place.now b

pub returns-in-Err-NoMemory-clause-little : goal.returns-in-Err-NoMemory-clause-little
returns-in-Err-NoMemory-clause-little g c = λ h.
    let b = rw c.in-Err-NoMemory.field-0-is at c.in-Err-NoMemory.ensures.bites in
    little_past c.token.new.self (sources_of c.args.frames.now.items) (sources_of c.put_last-in-Err-NoMemory.new.frames.items) c.put_last-in-Err-NoMemory.ensures.sources (subst (λ k. length k.reader.held ≤ 4096) (sym b) h.0, h.1)
