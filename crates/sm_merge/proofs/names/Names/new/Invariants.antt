use Rattle.std.proofs.Common.{◌≡◌, ℕ, List, drop}
use Rattle.std.specs.Prelude.{◌||◌}
use Rattle.sm_merge.specs.Stated.{all_said, defined_among}
use Rattle.sm_merge.specs.Files.{files_view}
use Rattle.sm_merge.specs.steps.Known.{has_text}
use Rattle.sm_merge.proofs.names.Names.new.Given as goal

abbrev pub invariant-loop-file : goal.invariant-loop-file
invariant-loop-file l = (id : List ℕ)
    → (has_text l.ids id || defined_among (all_said (files_view (drop l.file-index l.files))) id)
    ≡ defined_among (all_said (files_view l.files)) id
