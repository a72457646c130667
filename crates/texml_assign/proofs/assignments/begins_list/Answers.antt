use Rattle.std.proofs.Common.{ap, ◌∙◌}
use Rattle.texml_assign.specs.Assignments.{register_list}
use Rattle.texml_assign.proofs.assignments.begins_list.Goals as goal

pub returns-in-Builtin-clause-is : goal.returns-in-Builtin-clause-is
returns-in-Builtin-clause-is c = λ texts. rw c.in-Builtin.is (c.register_list.ensures.is ∙ ap register_list (rw c.in-Builtin.is at c.target_of.ensures texts))

pub returns-in-Quantity-clause-is : goal.returns-in-Quantity-clause-is
returns-in-Quantity-clause-is c = λ texts. rw c.in-Quantity.is (c.register_list-in-Quantity.ensures.is ∙ ap register_list (rw c.in-Quantity.is at c.target_of-in-Quantity.ensures texts))
