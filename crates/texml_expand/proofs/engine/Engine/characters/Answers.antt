use Rattle.std.proofs.Common.{◌∙◌, Bool, if◌then◌else◌, [], List, ℕ, ap, sym, subst, string_bytes}
use Rattle.texml_token.specs.Numbers.{tokens_at}
use Rattle.texml_token.specs.declared.fault_code.TheConstants.{MISSING_ENDCSNAME}
use Rattle.texml_expand.specs.State.{Reading, give, fail}
use Rattle.texml_expand.specs.Include.{bytes_of}
use Rattle.texml_expand.specs.Contract.{Silent}
use Rattle.texml_expand.specs.Held.{place_of, state_of, ok_at}
use Rattle.texml_expand.proofs.Taking.{silent_fault}
use Rattle.texml_expand.proofs.engine.Engine.characters.Goals as goal

-- whether each is a character is known
abbrev by : Bool → List ℕ → Reading (List ℕ)
by b bytes s = (if b then give bytes else fail MISSING_ENDCSNAME []) s

pub returns-then-are_chars-clause-reads : goal.returns-then-are_chars-clause-reads
returns-then-are_chars-clause-reads c = λ shelf.
    let h = c.args.self.now in
    let bytes = bytes_of (tokens_at h.names c.args.list.now) in
    subst (λ b. Silent (by b bytes (state_of shelf h)) (ok_at string_bytes c.text.result) (state_of shelf c.text.new.self)) (sym (sym (c.are_chars.ensures h.names) ∙ c.if-are_chars.true)) (c.text.ensures.reads shelf)

pub returns-else-are_chars-clause-reads : goal.returns-else-are_chars-clause-reads
returns-else-are_chars-clause-reads c = λ shelf.
    let h = c.args.self.now in
    let bytes = bytes_of (tokens_at h.names c.args.list.now) in
    silent_fault _ MISSING_ENDCSNAME [] (place_of h) c.bare_fault.result (state_of shelf c.bare_fault.new.self)
    (ap (λ b. by b bytes (state_of shelf h)) (sym (c.are_chars.ensures h.names) ∙ c.if-are_chars.false)) c.bare_fault.ensures.is
