use Rattle.std.proofs.Common.{ap, drop_of_length-le, arith}
use Rattle.std.specs.List.{count_by}
use Rattle.std.proofs.lemmas.List.Splits.{length-slice_split}
use Rattle.sm_parts.specs.Targets.{is_slash}
use Rattle.sm_routes.proofs.matching.piece_count.Goals as goal

pub returns : goal.returns
returns c =
    let rest = ap (count_by is_slash) (drop_of_length-le c.args.path.now c.loop-byte-test.false) in
    omega (arith, c.loop-byte.invariant, rest, length-slice_split is_slash c.args.path.now)
