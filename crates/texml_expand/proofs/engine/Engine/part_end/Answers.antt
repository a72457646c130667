use Rattle.std.proofs.Common.{◌≡◌, ◌∙◌, ◌∷◌, [], Ok, sym, ap, rules}
use Rattle.texml_token.specs.Token.{Fixed}
use Rattle.texml_token.specs.Numbers.{token_at}
use Rattle.texml_cond.specs.declared.limits.Allow.TheVariants.{Go, Relax}
use Rattle.texml_cond.specs.Limits.{allowed}
use Rattle.texml_expand.specs.State.{give}
use Rattle.texml_expand.specs.Calls.{Puts}
use Rattle.texml_expand.specs.Conditionals.{none, part_end, word_by, word_comes}
use Rattle.texml_expand.specs.Held.{Held, state_of}
use Rattle.texml_expand.proofs.Getting.{gets_as, gets_then, gets_stop, gets_now}
use Rattle.texml_expand.proofs.engine.Engine.part_end.Goals as goal

pub returns-in_err-word_comes-in-Go-clause-gets : goal.returns-in_err-word_comes-in-Go-clause-gets
returns-in_err-word_comes-in-Go-clause-gets g c =
    let h = c.args.self.now in let t = token_at h.names c.args.token in let s = state_of (g.F.Files.shelf c.args.files.now) h in
    let go : allowed h.conditionals c.args.word ≡ Go = ap (λ (k : Held). allowed k.conditionals c.args.word) (sym c.self.view_is) ∙ sym c.allow.ensures ∙ c.in-Go.is in
    let e = c.in_err-word_comes-in-Go.field-0.0 in
    let k = gets_as (word_by t c.args.word Go) (part_end t c.args.word) _ h c.word_comes.new.self _ _ (ap (λ a. word_by t c.args.word a s) go)
    (gets_stop (word_comes c.args.word) (λ _. give none) e h c.word_comes.new.self _ _ c.in_err-word_comes-in-Go.ensures.gets) in
    search (rules, k)

pub returns-in_ok-word_comes-in-Go-clause-gets : goal.returns-in_ok-word_comes-in-Go-clause-gets
returns-in_ok-word_comes-in-Go-clause-gets g c =
    let h = c.args.self.now in let t = token_at h.names c.args.token in let s = state_of (g.F.Files.shelf c.args.files.now) h in
    let go : allowed h.conditionals c.args.word ≡ Go = ap (λ (k : Held). allowed k.conditionals c.args.word) (sym c.self.view_is) ∙ sym c.allow.ensures ∙ c.in-Go.is in
    let d = c.in_ok-word_comes-in-Go.ensures.gets in
    let new = c.word_comes.new.self in
    rw c.new.ensures
    (gets_as (word_by t c.args.word Go) (part_end t c.args.word) (Ok none) h new _ _ (ap (λ a. word_by t c.args.word a s) go)
    (gets_then (word_comes c.args.word) (λ _. give none) tt (Ok none) h new new _ _ _ d (gets_now none new _ d.keeps.sound d.stops.kept d.holds.owns)))

pub returns-in-Ok-clause-gets : goal.returns-in-Ok-clause-gets
returns-in-Ok-clause-gets g c =
    let h = c.args.self.now in let t = token_at h.names c.args.token in let s = state_of (g.F.Files.shelf c.args.files.now) h in
    let relax : allowed h.conditionals c.args.word ≡ Relax = ap (λ (k : Held). allowed k.conditionals c.args.word) (sym c.self.view_is) ∙ sym c.allow.ensures ∙ c.in-Relax.is in
    rw c.in-Ok.ensures
    (gets_as (word_by t c.args.word Relax) (part_end t c.args.word) (Ok (Puts (Fixed ∷ t ∷ []))) h h _ _ (ap (λ a. word_by t c.args.word a s) relax)
    (gets_now (Puts (Fixed ∷ t ∷ [])) h _ c.requires.sound c.requires.running c.requires.owns))
