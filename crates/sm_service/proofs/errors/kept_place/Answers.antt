use Rattle.std.proofs.Common.{arith}
use Rattle.sm_service.proofs.ErrorsNamed.{below_few}
use Rattle.sm_service.proofs.errors.kept_place.Goals as goal

pub overflow_sub-result : goal.overflow_sub-result
overflow_sub-result c =
    let few = below_few 0 c.requires.rise.0 c.args.places.now c.args.place c.requires.rise.1 c.requires.other (omega arith) in
    omega (arith, few, c.below_place.ensures)
