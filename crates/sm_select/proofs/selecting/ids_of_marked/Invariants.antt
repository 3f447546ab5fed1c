use Rattle.std.proofs.Common.{◌≡◌, ◌++◌, drop}
use Rattle.sm_model.specs.GraphView.{ids}
use Rattle.sm_select.specs.steps.Imaging.{marked_ids}
use Rattle.sm_select.proofs.selecting.ids_of_marked.Given as goal

abbrev pub invariant-loop-number : goal.invariant-loop-number
invariant-loop-number l =
    l.found.items ++ marked_ids (drop l.number l.marks) (drop l.number (ids l.graph)) ≡ marked_ids l.marks (ids l.graph)
