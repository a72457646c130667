use Rattle.std.proofs.Common.{◌≡◌, ℕ, drop}
use Rattle.texml_token.specs.Numbers.{Table, tokens_at, TokensWithin, BodyWithin}
use Rattle.texml_assign.specs.Parameters.{body_of}
use Rattle.texml_assign.proofs.ParameterTexts.{left_of, behind_body}
use Rattle.texml_assign.proofs.parameters.body_of.Given as goal

abbrev pub invariant-loop-token : goal.invariant-loop-token
invariant-loop-token l = record {
  is : (texts : Table) → body_of l.slots (tokens_at texts l.list) ≡ behind_body (tokens_at texts l.body) (left_of l.slots l.marked (tokens_at texts (drop l.token-index l.list)));
  within : (count : ℕ) → TokensWithin count l.list → BodyWithin count l.slots l.body;
}
