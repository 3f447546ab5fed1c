use Rattle.sm_merge.proofs.TextLists.{texts_decide}
use Rattle.sm_merge.proofs.shapes.are_same_texts.Goals as goal

pub returns : goal.returns
returns c = texts_decide c.args.a.now c.args.b.now c.eq.result c.eq.ensures
