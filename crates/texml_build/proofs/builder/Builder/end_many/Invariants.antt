use Rattle.std.proofs.Common.{◌-◌, ◌+◌, ◌≡◌, length}
use Rattle.texml_model.specs.Rules.{rules_of}
use Rattle.texml_build.specs.Brackets.{end_many}
use Rattle.texml_build.specs.Held.{held_of}
use Rattle.texml_build.proofs.Follow.{Leads}
use Rattle.texml_build.proofs.builder.Builder.end_many.Given as goal

abbrev pub invariant-loop-k : goal.invariant-loop-k
invariant-loop-k l = record {
  leads : Leads (rules_of l.fn.content) (end_many (l.n - l._k)) (held_of l.self) (end_many l.fn.n) (held_of l.fn.self);
  left : length l.self.outer.items + l._k ≡ length l.fn.self.outer.items;
}
