use Rattle.std.proofs.Common.{◌≡◌, map, take}
use Rattle.std.specs.Option.{option_and_then}
use Rattle.texml_xref.specs.Links.{links_of, kept_owner}
use Rattle.texml_xref.specs.Found.{targets_of}
use Rattle.texml_xref.proofs.linking.links_to.Given as goal

abbrev pub invariant-loop-target : goal.invariant-loop-target
invariant-loop-target l = links_of l.links.items ≡ map (option_and_then (kept_owner l.owners)) (targets_of (take l.target-index l.targets))
