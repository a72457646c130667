-- Names are added and expansions begun, step by step.
use Rattle.std.proofs.Common.{◌≡◌, ◌∙◌, Some, refl, arith, subst, sym}
use Rattle.texml_token.proofs.Table.{extends_refl, extends_trans}
use Rattle.texml_expand.specs.declared.stop.Stop.{Stop}
use Rattle.texml_expand.specs.Held.{Held, Progress}

pub progress_itself : (h : Held) → Progress h h
progress_itself h = record { names = extends_refl h.names; begun = omega arith; within = λ b. b; limit = refl; writes = omega arith }

pub progress_then : (a b c : Held) → Progress a b → Progress b c → Progress a c
progress_then a b c g h = record {
  names = extends_trans a.names b.names c.names g.names h.names;
  begun = let x = g.begun in let y = h.begun in omega arith;
  within = λ b. h.within (g.within b);
  limit = h.limit ∙ g.limit;
  writes = omega (arith, g.writes, h.writes);
}

pub progress_same : (a b : Held) → b ≡ a → Progress a b
progress_same a b e = subst (Progress a) (sym e) (progress_itself a)

pub progress_stopped : (a b : Held) (stop : Stop) → b ≡ record a { stop = Some stop } → Progress a b
progress_stopped a b stop e = subst (Progress a) (sym e) (record { names = extends_refl a.names; begun = omega arith; within = λ b. b; limit = refl; writes = omega arith })
