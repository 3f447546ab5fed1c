use Rattle.std.proofs.Common.{◌≡◌, ◌++◌, drop, map}
use Rattle.sm_merge.specs.Stated.{AreFormedFiles, all_said, stated}
use Rattle.sm_merge.specs.Files.{files_view}
use Rattle.sm_merge.specs.steps.Known.{known}
use Rattle.sm_merge.specs.steps.Rows.{rows_view}
use Rattle.sm_merge.proofs.stated.stated.Given as goal

abbrev pub invariant-loop-file : goal.invariant-loop-file
invariant-loop-file l = record {
  formed : AreFormedFiles (files_view (drop l.file-index l.files));
  rows : rows_view l.rows.items ++ map (stated (known l.names)) (all_said (files_view (drop l.file-index l.files)))
      ≡ map (stated (known l.names)) (all_said (files_view l.files));
}
