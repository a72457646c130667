use Rattle.std.proofs.Common.{arith, length, ◌≡◌, ◌-◌, ◌∙◌, ap, set, get_or, ℕ}
use Rattle.std.proofs.lemmas.Result.{on_ok_weaker}
use Rattle.texml_build.specs.declared.builder.Open.{Open}
use Rattle.texml_build.specs.Held.{part_of, with_has, extra_after}
use Rattle.texml_build.proofs.Paths.{put_held}
use Rattle.texml_build.proofs.builder.Builder.put.Goals as goal

pub returns-else-n-eq0 : goal.returns-else-n-eq0
returns-else-n-eq0 c =
    let n : c.len.result ≡ length c.args.self.now.outer.items = omega arith in
    let old : c.index_mut.result.now ≡ get_or c.args.self.now.outer.items (length c.args.self.now.outer.items - c.args.n) c.index_mut.result.now =
    c.index_mut.ensures.value ∙ ap (λ (k : ℕ). get_or c.args.self.now.outer.items (k - c.args.n) c.index_mut.result.now) n in
    let given = λ (e : part_of c.give-else-n-eq0.new.self ≡ with_has (extra_after c.args.extra) (part_of c.index_mut.result.now)).
    put_held c.args.self.now.text.items (part_of c.args.self.now.inner) c.args.self.now.outer.items _ c.args.n (extra_after c.args.extra) c.give-else-n-eq0.new.self c.index_mut.result.now (omega arith) (omega arith)
    (ap (λ (k : ℕ). set c.args.self.now.outer.items (k - c.args.n) c.give-else-n-eq0.new.self) n)
    (e ∙ ap (λ (o : Open). with_has (extra_after c.args.extra) (part_of o)) old) in
    on_ok_weaker c.give-else-n-eq0.result given c.give-else-n-eq0.ensures
