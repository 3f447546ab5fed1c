use Rattle.std.proofs.Common.{◌∙◌, ap, Some}
use Rattle.sm_ids.proofs.Parting.{member_is}
use Rattle.sm_ids.proofs.id.ShapeIdRef.member_at.Goals as goal

pub returns-then-name-text : goal.returns-then-name-text
returns-then-name-text c = λ m e. ap Some c.range_from.ensures.value ∙ member_is c.args.text.now c.args.name m c.if-name-text.true e
