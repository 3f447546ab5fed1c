use Rattle.sm_merge.proofs.TextLists.{pairs_decide}
use Rattle.sm_merge.proofs.shapes.are_same_members.Goals as goal

pub returns : goal.returns
returns c = pairs_decide c.args.a.now c.args.b.now c.eq.result c.eq.ensures
