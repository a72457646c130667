use Rattle.std.proofs.Common.{ap, ◌∙◌, w32, to_z, of_z}
use Rattle.std.proofs.lemmas.Int.{to_z-of_z}
use Rattle.texml_text.specs.File.{character}
use Rattle.texml_input.proofs.InFront.{loads_line}
use Rattle.texml_input.proofs.file.OpenFile.load.Goals as goal

pub returns-in-Ok-Some-clause-lines : goal.returns-in-Ok-Some-clause-lines
returns-in-Ok-Some-clause-lines g c = λ told.
    let sound = ap (λ r. r.fault) c.deref_mut.ensures.value ∙ ap (λ k. k.reader.fault) c.self.view_is ∙ c.requires.sound in
    let l = rw c.deref_mut.ensures.value at (rw c.in-Ok-Some.field-0-is at (c.in-Ok-Some.ensures.lines sound told)) in
    let number = rw c.deref_mut.ensures.value at (rw c.in-Ok-Some.field-0-is at (c.in-Ok-Some.ensures.number sound)) in
    rw (← c.self.view_is)
    (loads_line (g.F.Files.shelf c.args.files.now) (g.F.Files.shelf c.next_line.new.files)
    (record { name = c.self.inside.name.value; ended = c.self.inside.ended; spot = c.self.inside.mouth.spot; reader = c.self.inside.reader.value })
    (record { name = c.self.inside.name.value; ended = c.self.inside.ended; spot = c.new.result.spot; reader = c.next_line.new.self })
    c.args.end (character (to_z w32 (of_z w32 c.number_of.result))) c.in-Ok-Some.line c.if-self.false c.if-self.false
    (ap (λ m. m.spot) c.new.ensures) number
    (ap character (to_z-of_z w32 c.number_of.result (record { sfits = c.number_of.type_inv })) ∙ c.number_of.ensures) l)
