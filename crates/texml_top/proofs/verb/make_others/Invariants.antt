use Rattle.std.proofs.Common.{◌≡◌, None, take}
use Rattle.texml_base.specs.Outside.{Shelf}
use Rattle.texml_base.specs.Rising.{add_up}
use Rattle.texml_expand.specs.Held.{state_of, Kept, SameFiles, Puts, Progress}
use Rattle.texml_top.specs.Verb.{all_other}
use Rattle.texml_top.proofs.verb.make_others.Given as goal

abbrev pub invariant-loop-character : goal.invariant-loop-character
invariant-loop-character l = record {
  running : l.engine.stop ≡ None;
  others : (shelf : Shelf) → state_of shelf l.engine ≡ all_other (take l.character-index l.characters) (state_of shelf l.fn.engine);
  kept : Kept l.fn.engine l.engine;
  advances : Progress l.fn.engine l.engine;
  steps : l.engine.writes ≡ add_up l.fn.engine.writes l.character-index;
  files : SameFiles l.fn.engine l.engine;
  puts : Puts 0 l.fn.engine l.engine;
}
