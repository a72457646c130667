use Rattle.std.proofs.Common.{◌≡◌, ℕ, drop}
use Rattle.std.specs.Option.{option_map}
use Rattle.texml_token.specs.Numbers.{Table, token_at, tokens_at, TokenWithin, TokensWithin, OptionWithin}
use Rattle.texml_assign.specs.NewCommand.{only_token}
use Rattle.texml_assign.proofs.NewCommands.{left_only}
use Rattle.texml_assign.proofs.new_command.only_token.Given as goal

abbrev pub invariant-loop-token : goal.invariant-loop-token
invariant-loop-token l = record {
  is : (texts : Table) → only_token (tokens_at texts l.list) ≡ left_only (option_map (token_at texts) l.only) (tokens_at texts (drop l.token-index l.list));
  within : (count : ℕ) → TokensWithin count l.list → OptionWithin (TokenWithin count) l.only;
}
