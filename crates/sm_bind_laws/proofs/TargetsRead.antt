-- The target that is written for a pattern has its labels and its pairs again.
use Rattle.std.proofs.Common.{◌++◌, map}
use Rattle.sm_parts.specs.Targets.{written_literal, written_pair}
use Rattle.sm_routes.specs.WrittenTargets.{written_path}
use Rattle.sm_bind_laws.specs.Laws.{WrittenTargetRead}
use Rattle.sm_bind_laws.proofs.WrittenPairs.{pairs_read}
use Rattle.sm_bind_laws.proofs.WrittenPaths.{labels_read, path_no}

pub target_again : WrittenTargetRead
target_again u parts is can = (
  labels_read parts.labels u.segments (map written_literal u.literals ++ map written_pair parts.query) is.segments is.greedy can.labelled,
  pairs_read (written_path u.segments parts.labels) u.literals parts.query
      (path_no parts.labels u.segments) is.literals can.literals can.bytes,
)
