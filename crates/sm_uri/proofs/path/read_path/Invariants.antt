use Rattle.std.proofs.Common.{length}
use Rattle.std.specs.Prelude.{IsUtf8}
use Rattle.sm_uri.specs.steps.UriReading.{IsPathRead}
use Rattle.sm_uri.proofs.UriPaths.{PathTaken}
use Rattle.sm_uri.proofs.path.read_path.Given as goal

abbrev pub invariant-segments : goal.invariant-segments
invariant-segments l = record { utf8 : IsUtf8 l.rest; read : IsPathRead l.path; taken : PathTaken l.text l.path.segments.items l.rest }

abbrev pub decreases-segments : goal.decreases-segments
decreases-segments l = length l.rest
