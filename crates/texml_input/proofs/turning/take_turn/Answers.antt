use Rattle.std.proofs.Common.{◌∷◌, [], length, arith, sym, ◌∙◌}
use Rattle.texml_scope.specs.Shown.{world_of}
use Rattle.texml_input.specs.Codes.{cats_of, end_of}
use Rattle.texml_input.specs.Held.{Plain}
use Rattle.texml_input.specs.Inside.{sources_of}
use Rattle.texml_input.proofs.Sources.{within_behind}
use Rattle.texml_input.proofs.Plain.{plain_turn, plain_within}
use Rattle.texml_token.proofs.Translation.{token_more}
use Rattle.texml_input.proofs.Known.{known_adds, known_front}
use Rattle.texml_input.proofs.turning.take_turn.Goals as goal

pub returns-in-Some-clause-turns : goal.returns-in-Some-clause-turns
returns-in-Some-clause-turns g c = λ told.
    plain_turn (cats_of (world_of c.args.scope.now)) c.in-Some.token (sources_of c.args.frames.now.items) (sources_of c.plain_token.new.frames.items) c.in-Some.ensures.takes
    (end_of (world_of c.args.scope.now)) c.args.names.now (g.F.Files.shelf c.args.files.now) c.args.place.now c.requires.held

pub returns-in-Some-clause-within : goal.returns-in-Some-clause-within
returns-in-Some-clause-within g c =
    plain_within (cats_of (world_of c.args.scope.now)) c.in-Some.token (sources_of c.args.frames.now.items) (sources_of c.plain_token.new.frames.items) c.in-Some.ensures.takes (length c.args.names.now) c.requires.within

pub returns-in-Some-list_token-clause-within : goal.returns-in-Some-list_token-clause-within
returns-in-Some-list_token-clause-within g c =
    within_behind (length c.args.names.now) (sources_of c.args.frames.now.items) (Plain c.in-Some-list_token.token ∷ []) (sources_of c.list_token.new.frames.items)
    (sym c.in-None.ensures.takes ∙ c.in-Some-list_token.ensures.takes) c.requires.within

pub returns-in-Some-clause-names : goal.returns-in-Some-clause-names
returns-in-Some-clause-names g c =
    known_adds c.args.names.now c.in-Some.token (token_more 0 (length c.args.names.now) (omega arith) c.in-Some.token c.in-Some.ensures.takes.given)

pub returns-in-Some-list_token-clause-names : goal.returns-in-Some-list_token-clause-names
returns-in-Some-list_token-clause-names g c =
    known_adds c.args.names.now c.in-Some-list_token.token
    (known_front c.args.names.now (sources_of c.args.frames.now.items) (Plain c.in-Some-list_token.token) (sources_of c.list_token.new.frames.items)
    (sym c.in-None.ensures.takes ∙ c.in-Some-list_token.ensures.takes) c.requires.within)
