use Rattle.std.proofs.Common.{◌∷◌, []}
use Rattle.texml_scope.specs.Shown.{world_of}
use Rattle.texml_input.specs.Codes.{cats_of, end_of}
use Rattle.texml_input.specs.Held.{rest_at, front_size, File, Plain, Marked}
use Rattle.texml_input.specs.Inside.{sources_of}
use Rattle.texml_input.proofs.Sources.{within_behind, within_taken}
use Rattle.texml_input.proofs.Known.{known_adds, known_front, known_taken}
use Rattle.texml_input.proofs.Turns.{turns_from}
use Rattle.texml_input.proofs.turning.whole_turn.Goals as goal

pub turn_file-requires-clause-within : goal.turn_file-requires-clause-within
turn_file-requires-clause-within g c = within_behind _ _ (File c.in-Some-File.file ∷ []) _ (rw c.in-Some-File.field-0-is at c.in-Some-File.ensures.sources) c.requires.within

pub returns-in-Some-Token-clause-within : goal.returns-in-Some-Token-clause-within
returns-in-Some-Token-clause-within g c = within_behind _ _ (Plain c.in-Some-Token.token ∷ []) _ (rw c.in-Some-Token.field-0-is at c.in-Some-Token.ensures.sources) c.requires.within

pub returns-in-Some-Frozen-clause-within : goal.returns-in-Some-Frozen-clause-within
returns-in-Some-Frozen-clause-within g c = within_behind _ _ (Marked c.in-Some-Frozen.token ∷ []) _ (rw c.in-Some-Frozen.field-0-is at c.in-Some-Frozen.ensures.sources) c.requires.within

pub returns-in-Some-List-clause-within : goal.returns-in-Some-List-clause-within
returns-in-Some-List-clause-within g c = within_taken _ _ c.in-Some-List.part _ _ _ (rw c.in-Some-List.field-0-is at c.in-Some-List.ensures.sources) c.turn_list.ensures.taken c.requires.within

pub returns-in-Some-Macro-clause-within : goal.returns-in-Some-Macro-clause-within
returns-in-Some-Macro-clause-within g c = within_taken _ _ c.in-Some-Macro.expansion _ _ _ (rw c.in-Some-Macro.field-0-is at c.in-Some-Macro.ensures.sources) c.turn_macro.ensures.taken c.requires.within

pub returns-in-Some-File-clause-turns : goal.returns-in-Some-File-clause-turns
returns-in-Some-File-clause-turns g c = λ told.
    turns_from (cats_of (world_of c.args.scope.now)) (end_of (world_of c.args.scope.now)) (g.F.Files.shelf c.args.files.now) c.args.names.now c.turn_file.new.names c.turn_file.ensures.grows
    (sources_of c.args.frames.now.items) (File c.in-Some-File.file ∷ sources_of c.take_front.new.frames.items) (rw c.in-Some-File.field-0-is at c.in-Some-File.ensures.sources) c.requires.within
    (front_size (g.F.Files.shelf c.turn_file.new.files) (sources_of c.turn_file.new.frames.items)) c.args.place.now c.turn_file.result
    (rest_at c.turn_file.new.names (g.F.Files.shelf c.turn_file.new.files) (sources_of c.turn_file.new.frames.items)) c.turn_file.new.place (c.turn_file.ensures.turns told)

pub returns-in-Some-Token-clause-names : goal.returns-in-Some-Token-clause-names
returns-in-Some-Token-clause-names g c = known_adds _ _ (known_front _ _ (Plain c.in-Some-Token.token) _ (rw c.in-Some-Token.field-0-is at c.in-Some-Token.ensures.sources) c.requires.within)

pub returns-in-Some-Frozen-clause-names : goal.returns-in-Some-Frozen-clause-names
returns-in-Some-Frozen-clause-names g c = known_adds _ _ (known_front _ _ (Marked c.in-Some-Frozen.token) _ (rw c.in-Some-Frozen.field-0-is at c.in-Some-Frozen.ensures.sources) c.requires.within)

pub returns-in-Some-List-clause-names : goal.returns-in-Some-List-clause-names
returns-in-Some-List-clause-names g c = known_taken _ _ c.in-Some-List.part _ _ _ (rw c.in-Some-List.field-0-is at c.in-Some-List.ensures.sources) c.turn_list.ensures.taken c.requires.within

pub returns-in-Some-Macro-clause-names : goal.returns-in-Some-Macro-clause-names
returns-in-Some-Macro-clause-names g c = known_taken _ _ c.in-Some-Macro.expansion _ _ _ (rw c.in-Some-Macro.field-0-is at c.in-Some-Macro.ensures.sources) c.turn_macro.ensures.taken c.requires.within
