-- What the code finds behind prefixes, as private contracts say it.
use Rattle.std.specs.Prelude.{[]}
use Rattle.texml_token.specs.declared.fault_code.TheConstants.{BAD_PREFIX}
use Rattle.texml_expand.specs.State.{Reading, give, fail}
use Rattle.texml_assign.specs.declared.table.Command.{Command as CommandWord}
use Rattle.texml_assign.specs.declared.table.Prefixes.{Prefixes as PrefixesBefore}
use Rattle.texml_assign.specs.declared.executing.Behind.{Behind}
use Rattle.texml_assign.specs.declared.executing.Behind.TheVariants.{Prefixes, Command, Misfit}
use Rattle.texml_assign.specs.Loop.{Next, On, Over}

abbrev pub turn_of : PrefixesBefore → Behind → Reading (Next PrefixesBefore (PrefixesBefore × CommandWord))
turn_of p (Prefixes more) = give (On more)
turn_of p (Command c) = give (Over (p, c))
turn_of p Misfit = fail BAD_PREFIX []
