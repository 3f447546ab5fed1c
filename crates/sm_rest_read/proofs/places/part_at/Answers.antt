use Rattle.std.proofs.Common.{◌∙◌}
use Rattle.sm_rest.specs.bind.BoundView.{bound_of}
use Rattle.sm_rest_read.proofs.BodyShapes.{part_same}
use Rattle.sm_rest_read.proofs.places.part_at.Goals as goal

pub returns : goal.returns
returns c = c.body_part.ensures ∙ part_same (bound_of c.args.place.now)
