-- What the code finds of a name that is to be a command, as private contracts say it.
use Rattle.std.specs.Prelude.{Bool, true, false}
use Rattle.texml_token.specs.Token.{Token}
use Rattle.texml_token.specs.declared.fault_code.TheConstants.{UNDEFINED, NAME_TAKEN}
use Rattle.texml_expand.specs.State.{Reading, give, fail}
use Rattle.texml_expand.specs.Expand.{spelling}
use Rattle.texml_assign.specs.declared.new_command.Allowed.{Allowed}
use Rattle.texml_assign.specs.declared.new_command.Allowed.TheVariants.{Defines, Stays, Taken, Missing}

abbrev pub allowed_as : Allowed → Token → Reading Bool
allowed_as Defines t = give true
allowed_as Stays t = give false
allowed_as Taken t = fail NAME_TAKEN (spelling t)
allowed_as Missing t = fail UNDEFINED (spelling t)
