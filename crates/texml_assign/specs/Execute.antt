-- Commands that change the world: a row for each (The TeXbook, chapters 20 and 24).
use Rattle.std.specs.Prelude.{ℕ, true, false, if◌then◌else◌, [], Option, None, Some}
use Rattle.texml_token.specs.Token.{Token}
use Rattle.texml_token.specs.declared.fault_code.TheConstants.{FILE_ENDED, BAD_PREFIX}
use Rattle.texml_scope.specs.declared.values.KindOf.TheVariants.{Begin}
use Rattle.texml_expand.specs.State.{State, Answer, Reading, ◌>>=◌, ◌>>◌, give, fail, change}
use Rattle.texml_expand.specs.Expand.{fetch}
use Rattle.texml_assign.specs.declared.table.Prefix.{Prefix as PrefixWord}
use Rattle.texml_assign.specs.declared.table.Command.{Command as CommandWord}
use Rattle.texml_assign.specs.declared.table.Command.TheVariants.{Relax, Def, Gdef, Edef, Xdef, Let, BeginGroup, EndGroup, AfterGroup, AfterAssignment, NewCommand, NewIf, ChangeCase, IgnoreSpaces, Assign, Short, Arithmetic}
use Rattle.texml_assign.specs.declared.table.Executable.{Executable}
use Rattle.texml_assign.specs.declared.table.Executable.TheVariants.{Prefix, Command}
use Rattle.texml_assign.specs.declared.table.Prefixes.{Prefixes}
use Rattle.texml_assign.specs.declared.executing.Executed.{Executed}
use Rattle.texml_assign.specs.declared.executing.Executed.TheVariants.{Yes, NotMine}
use Rattle.texml_assign.specs.Table.{executable_of, is_assignment, no_prefixes, with_prefix, may_follow}
use Rattle.texml_expand.specs.Arguments.{means_space}
use Rattle.texml_assign.specs.Loop.{ByDepth, Next, On, Over, Loop, loops}
use Rattle.texml_expand.specs.Take.{means}
use Rattle.texml_assign.specs.Operands.{meant, with_token}
use Rattle.texml_assign.specs.Define.{defined, assigned}
use Rattle.texml_assign.specs.NewCommand.{new_command}
use Rattle.texml_assign.specs.NewIf.{new_if}
use Rattle.texml_assign.specs.Letters.{change_case}
use Rattle.texml_assign.specs.Fillers.{ignore_spaces}
use Rattle.texml_assign.specs.Assignments.{assignment}
use Rattle.texml_assign.specs.ShortNames.{short_name}
use Rattle.texml_assign.specs.Arithmetic.{arithmetic}
use Rattle.texml_assign.specs.Sets.{begin_kind, end_kind, read_after, keep_token, put_kept}

-- Rows

-- what a command does, with the prefixes before it
abbrev pub row : Prefixes → CommandWord → ByDepth (Unit {0})
row p Relax = λ n. give tt
row p Def = assigned p.global (defined false p.long)
row p Gdef = assigned true (defined false p.long)
row p Edef = assigned p.global (defined true p.long)
row p Xdef = assigned true (defined true p.long)
row p Let = assigned p.global meant
row p BeginGroup = λ n. begin_kind Begin
row p EndGroup = λ n. end_kind Begin
row p AfterGroup = λ n. with_token read_after
row p AfterAssignment = λ n. with_token keep_token
row p (NewCommand naming) = new_command naming
row p NewIf = λ n. new_if
row p (ChangeCase case) = change_case case
row p IgnoreSpaces = ignore_spaces
row p (Assign target) = assignment p.global target
row p (Short what) = short_name p.global what
row p (Arithmetic what) = arithmetic p.global what

-- behind an assignment comes the kept token
abbrev pub behind : CommandWord → Reading (Unit {0})
behind c = if is_assignment c then change put_kept else give tt

abbrev pub perform : Prefixes → CommandWord → ByDepth (Unit {0})
perform p c n = do
  row p c n
  behind c

-- Prefixes

-- a command behind prefixes, which may stand there or not
abbrev pub followed : Prefixes → CommandWord → Reading (Next Prefixes (Prefixes × CommandWord))
followed p c = if may_follow p c then give (Over (p, c)) else fail BAD_PREFIX []

-- a word behind prefixes: one more of them, \relax, which says nothing, or a command
abbrev pub prefix_word : Prefixes → Option Executable → Reading (Next Prefixes (Prefixes × CommandWord))
prefix_word p None = fail BAD_PREFIX []
prefix_word p (Some (Prefix x)) = give (On (with_prefix p x))
prefix_word p (Some (Command Relax)) = give (On p)
prefix_word p (Some (Command c)) = followed p c

-- a token behind prefixes, by its meaning; spaces say nothing
abbrev pub prefix_turn : Prefixes → Token → ByDepth (Next Prefixes (Prefixes × CommandWord))
prefix_turn p t n s = (if means_space (means s.world t) then give (On p) else prefix_word p (executable_of (means s.world t))) s

abbrev pub prefix_loop : Loop Prefixes (Prefixes × CommandWord)
prefix_loop = record { source = fetch; turn = prefix_turn; end = λ p. fail FILE_ENDED [] }

-- the command behind prefixes, with all that stand before it. Tokens are expanded as they are looked at
abbrev pub prefixed : Prefixes → ByDepth (Prefixes × CommandWord)
prefixed = loops prefix_loop

-- Tokens

-- the command behind a prefix
abbrev pub execute_prefixed : PrefixWord → ByDepth (Unit {0})
execute_prefixed x n = do
  found ← prefixed (with_prefix no_prefixes x) n
  perform found.0 found.1 n

abbrev pub execute_word : Executable → ByDepth (Unit {0})
execute_word (Command c) = perform no_prefixes c
execute_word (Prefix x) = execute_prefixed x

abbrev pub execute_by : Option Executable → ByDepth Executed
execute_by None n = give NotMine
execute_by (Some x) n = do
  execute_word x n
  give Yes

-- what a token asks for by its meaning, where that is a prefix or a command
abbrev pub execute : Token → ByDepth Executed
execute t n s = execute_by (executable_of (means s.world t)) n s

abbrev pub executes : Token → State → ℕ → Answer Executed
executes t s n = execute t n s
