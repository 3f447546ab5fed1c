use Rattle.std.specs.Vec.Iter.{into_iter_items}
use Rattle.sm_merge.specs.Files.{files_view}
use Rattle.sm_load.specs.ModelFiles.{given_files}
use Rattle.sm_load.specs.steps.Stages.{AreBehind}
use Rattle.sm_load.proofs.loading.all_statements.Given as goal

abbrev pub invariant-loop-file : goal.invariant-loop-file
invariant-loop-file l = record {
  behind : AreBehind (given_files (into_iter_items l.initial.file-iterator)) (given_files (into_iter_items l.file-iterator))
      (files_view l.said.items);
}
