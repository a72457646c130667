use Rattle.std.proofs.Common.{Bool, true, if◌then◌else◌, sym, ap, ◌∙◌}
use Rattle.texml_token.specs.declared.fault_code.TheConstants.{UNDEFINED, NAME_TAKEN}
use Rattle.texml_scope.specs.Numbers.{meaning_at}
use Rattle.texml_expand.specs.State.{give, fail}
use Rattle.texml_expand.specs.Expand.{spelling}
use Rattle.texml_assign.specs.NewCommand.{defines}
use Rattle.texml_assign.proofs.new_command.judged.Goals as goal

pub returns-then-is_free : goal.returns-then-is_free
returns-then-is_free c = λ texts t s.
    ap (λ n. defines n t (meaning_at texts c.args.meaning.now) s) c.in-New.is ∙ ap (λ (b : Bool). (if b then give true else fail NAME_TAKEN (spelling t)) s) (sym (c.is_free.ensures texts) ∙ c.if-is_free.true)

pub returns-else-is_free : goal.returns-else-is_free
returns-else-is_free c = λ texts t s.
    ap (λ n. defines n t (meaning_at texts c.args.meaning.now) s) c.in-New.is ∙ ap (λ (b : Bool). (if b then give true else fail NAME_TAKEN (spelling t)) s) (sym (c.is_free.ensures texts) ∙ c.if-is_free.false)

pub returns-then-is_undefined : goal.returns-then-is_undefined
returns-then-is_undefined c = λ texts t s.
    ap (λ n. defines n t (meaning_at texts c.args.meaning.now) s) c.in-Renew.is ∙ ap (λ (b : Bool). (if b then fail UNDEFINED (spelling t) else give true) s) (sym (c.is_undefined.ensures texts) ∙ c.if-is_undefined.true)

pub returns-else-is_undefined : goal.returns-else-is_undefined
returns-else-is_undefined c = λ texts t s.
    ap (λ n. defines n t (meaning_at texts c.args.meaning.now) s) c.in-Renew.is ∙ ap (λ (b : Bool). (if b then fail UNDEFINED (spelling t) else give true) s) (sym (c.is_undefined.ensures texts) ∙ c.if-is_undefined.false)

pub returns-then-is_undefined-2 : goal.returns-then-is_undefined-2
returns-then-is_undefined-2 c = λ texts t s.
    ap (λ n. defines n t (meaning_at texts c.args.meaning.now) s) c.in-Provide.is ∙ ap (λ (b : Bool). give b s) (sym (c.is_undefined-in-Provide.ensures texts) ∙ c.if-is_undefined-2.true)

pub returns-else-is_undefined-2 : goal.returns-else-is_undefined-2
returns-else-is_undefined-2 c = λ texts t s.
    ap (λ n. defines n t (meaning_at texts c.args.meaning.now) s) c.in-Provide.is ∙ ap (λ (b : Bool). give b s) (sym (c.is_undefined-in-Provide.ensures texts) ∙ c.if-is_undefined-2.false)
