use Rattle.sm_ids.proofs.Spellings.{shape_before_members}
use Rattle.sm_ids.proofs.laws.shapes_before_members.Goals as goal

pub returns : goal.returns
returns c = shape_before_members
