use Rattle.texml_xref.specs.Links.{kept_owner}
use Rattle.texml_xref.proofs.Owning.{owned_more, owned_all}
use Rattle.texml_xref.proofs.owners.own_all.Goals as goal

pub loop-tag-preserved : goal.loop-tag-preserved
loop-tag-preserved c = owned_more c.args.owner c.args.labels.now c.loop-tag.tag-index _ (kept_owner c.args.owners.now) (kept_owner c.loop-tag.owners) (kept_owner c.own.new.owners) c.loop-tag-test.true c.loop-tag.invariant c.in_ok-own.ensures

pub returns : goal.returns
returns c = owned_all c.args.owner c.args.labels.now c.loop-tag.tag-index (kept_owner c.args.owners.now) (kept_owner c.loop-tag.owners) c.loop-tag-test.false c.loop-tag.invariant
