-- Each command has one answer, and leaves no more to be read.
use Rattle.std.proofs.Common.{◌≡◌, true, false, if◌then◌else◌, [], length, Option, Some, None, refl, ap, arith}
use Rattle.std.specs.Option.{option_to_list}
use Rattle.texml_token.specs.Token.{Token}
use Rattle.texml_token.specs.declared.fault_code.TheConstants.{BAD_PREFIX}
use Rattle.texml_scope.specs.declared.values.KindOf.TheVariants.{Begin}
use Rattle.texml_expand.specs.State.{State, give, fail, change}
use Rattle.texml_expand.specs.Expand.{back}
use Rattle.texml_expand.specs.Contract.{Lower}
use Rattle.texml_input.specs.Rest.{Tok}
use Rattle.texml_expand.proofs.Items.{size-cons}
use Rattle.texml_expand.proofs.Leading.{lower_none}
use Rattle.texml_assign.specs.declared.table.Prefix.{Prefix as PrefixWord}
use Rattle.texml_assign.specs.declared.table.Command.{Command as CommandWord}
use Rattle.texml_assign.specs.declared.table.Command.TheVariants.{Relax, Def, Gdef, Edef, Xdef, Let, BeginGroup, EndGroup, AfterGroup, AfterAssignment, NewCommand, NewIf, ChangeCase, IgnoreSpaces, Assign, Short, Arithmetic}
use Rattle.texml_assign.specs.declared.table.Executable.{Executable}
use Rattle.texml_assign.specs.declared.table.Executable.TheVariants.{Prefix, Command}
use Rattle.texml_assign.specs.declared.table.Prefixes.{Prefixes}
use Rattle.texml_assign.specs.declared.executing.Executed.TheVariants.{Yes, NotMine}
use Rattle.texml_assign.specs.Table.{executable_of, is_assignment, no_prefixes, with_prefix, may_follow}
use Rattle.texml_assign.specs.Loop.{On, Over}
use Rattle.texml_expand.specs.Take.{means}
use Rattle.texml_expand.specs.Arguments.{means_space}
use Rattle.texml_assign.specs.Operands.{meant, with_token}
use Rattle.texml_assign.specs.Define.{defined}
use Rattle.texml_assign.specs.Sets.{begin_kind, end_kind, read_after, keep, keep_token, put_kept_of, put_kept}
use Rattle.texml_assign.specs.Execute.{row, behind, perform, followed, prefix_word, prefix_turn, prefix_loop, prefixed, execute_prefixed, execute_word, execute_by, execute}
use Rattle.texml_assign.proofs.Readings.{Lawful, Plain, lawful_plain, lawful_by, lawful_then, plain_by, plain_give, plain_fail, plain_change, plain_if}
use Rattle.texml_assign.proofs.Looping.{LawfulLoop, lawful_loop}
pub use Rattle.texml_assign.proofs.Parts.{plain_after_assignment, body_taken, head_taken, key_taken, lawful_absorb, lawful_assigned, lawful_body_said, lawful_body_taken, lawful_defined, lawful_head_taken, lawful_key_taken, lawful_meant, lawful_next_body, lawful_spaces, meant_behind, plain_after_group, plain_assign, plain_begin, plain_behind_equals, plain_behind_sign, plain_behind_space, plain_body_said, plain_by_least, plain_end, plain_key_of, plain_meaning_now, plain_meant_behind, plain_needed, plain_needed_body, plain_next, plain_next_key, plain_parameter_text, plain_space_turn, plain_take, plain_token_or_end, plain_with_token, same_room, space_is, spaces_laws}
use Rattle.texml_assign.specs.NewIf.{new_if}
use Rattle.texml_assign.proofs.NewConditionals.{plain_new_if}
use Rattle.texml_assign.proofs.LetterCases.{lawful_change_case}
use Rattle.texml_assign.proofs.Quantities.{lawful_fetch, fetch_leads, lawful_ignore_spaces, lawful_assignment, lawful_short_name, lawful_arithmetic}
use Rattle.texml_assign.proofs.NewCommands.{lawful_new_command}

-- Rows

put_kept_lower : (s : State) (o : Option Token) → s.kept ≡ o → Lower 0 s (put_kept_of o s)
put_kept_lower s None e = lower_none s
put_kept_lower s (Some t) e =
    same_room s (back t false (keep None s)) refl refl refl
    (let one = ap (λ o. length (option_to_list o)) e in omega (arith, one, size-cons (Tok t) s.rest))

pub plain_put_kept : Plain (change put_kept)
plain_put_kept = plain_change put_kept (λ s. put_kept_lower s s.kept refl)

pub plain_behind : (c : CommandWord) → Plain (behind c)
plain_behind c = plain_if (is_assignment c) (change put_kept) (give tt) plain_put_kept (plain_give tt)

pub lawful_row : (p : Prefixes) (c : CommandWord) → Lawful (row p c)
lawful_row p Relax = lawful_plain (give tt) (plain_give tt)
lawful_row p Def = lawful_assigned p.global (defined false p.long) (lawful_defined false p.long)
lawful_row p Gdef = lawful_assigned true (defined false p.long) (lawful_defined false p.long)
lawful_row p Edef = lawful_assigned p.global (defined true p.long) (lawful_defined true p.long)
lawful_row p Xdef = lawful_assigned true (defined true p.long) (lawful_defined true p.long)
lawful_row p Let = lawful_assigned p.global meant lawful_meant
lawful_row p BeginGroup = lawful_plain (begin_kind Begin) (plain_begin Begin)
lawful_row p EndGroup = lawful_plain (end_kind Begin) (plain_end Begin)
lawful_row p AfterGroup = lawful_plain (with_token read_after) plain_after_group
lawful_row p AfterAssignment = lawful_plain (with_token keep_token) plain_after_assignment
lawful_row p (NewCommand naming) = lawful_new_command naming
lawful_row p NewIf = lawful_plain new_if plain_new_if
lawful_row p (ChangeCase case) = lawful_change_case case
lawful_row p IgnoreSpaces = lawful_ignore_spaces
lawful_row p (Assign target) = lawful_assignment p.global target
lawful_row p (Short what) = lawful_short_name p.global what
lawful_row p (Arithmetic what) = lawful_arithmetic p.global what

pub lawful_perform : (p : Prefixes) (c : CommandWord) → Lawful (perform p c)
lawful_perform p c = lawful_then (row p c) (λ _ n. behind c) (lawful_row p c) (λ _. lawful_plain (behind c) (plain_behind c))

-- Prefixes

plain_followed : (p : Prefixes) (c : CommandWord) → Plain (followed p c)
plain_followed p c = plain_if (may_follow p c) (give (Over (p, c))) (fail BAD_PREFIX []) (plain_give _) (plain_fail _ _ _)

plain_word : (p : Prefixes) (x : Option Executable) → Plain (prefix_word p x)
plain_word p None = plain_fail _ _ _
plain_word p (Some (Prefix x)) = plain_give _
plain_word p (Some (Command Relax)) = plain_give _
plain_word p (Some (Command c)) = plain_followed p c

pub plain_prefix_turn : (p : Prefixes) (t : Token) → Plain (λ s. prefix_turn p t 0 s)
plain_prefix_turn p t =
    plain_by (λ s. means s.world t) (λ m. if means_space m then give (On p) else prefix_word p (executable_of m))
    (λ m. plain_if (means_space m) (give (On p)) (prefix_word p (executable_of m)) (plain_give _) (plain_word p (executable_of m)))

pub prefix_laws : LawfulLoop prefix_loop
prefix_laws = record {
  source = lawful_fetch;
  lowers = fetch_leads;
  turn = λ p t. lawful_plain (λ s. prefix_turn p t 0 s) (plain_prefix_turn p t);
  end = λ p. plain_fail _ _ _;
}

pub lawful_prefixed : (p : Prefixes) → Lawful (prefixed p)
lawful_prefixed p = lawful_loop prefix_loop prefix_laws p

-- Tokens

pub lawful_execute_prefixed : (x : PrefixWord) → Lawful (execute_prefixed x)
lawful_execute_prefixed x =
    lawful_then (prefixed (with_prefix no_prefixes x)) (λ found. perform found.0 found.1) (lawful_prefixed (with_prefix no_prefixes x)) (λ found. lawful_perform found.0 found.1)

pub lawful_yes : Lawful (λ n. give Yes)
lawful_yes = lawful_plain (give Yes) (plain_give Yes)

pub lawful_word : (x : Executable) → Lawful (execute_word x)
lawful_word (Command c) = lawful_perform no_prefixes c
lawful_word (Prefix x) = lawful_execute_prefixed x

pub lawful_execute_by : (x : Option Executable) → Lawful (execute_by x)
lawful_execute_by None = lawful_plain (give NotMine) (plain_give NotMine)
lawful_execute_by (Some x) = lawful_then (execute_word x) (λ _ n. give Yes) (lawful_word x) (λ _. lawful_yes)

pub lawful_execute : (t : Token) → Lawful (execute t)
lawful_execute t = lawful_by (λ s. executable_of (means s.world t)) execute_by lawful_execute_by
