use Rattle.std.proofs.Common.{arith}
use Rattle.sm_service.proofs.KeptErrors.{kept_whole}
use Rattle.sm_service.proofs.errors.kept_len.Goals as goal

pub overflow_sub-result : goal.overflow_sub-result
overflow_sub-result c = let kept = kept_whole c.args.places.now c.args.errors.now c.requires in omega (arith, kept)

pub returns : goal.returns
returns c = let kept = kept_whole c.args.places.now c.args.errors.now c.requires in omega (arith, kept)
