use Rattle.std.proofs.Common.{◌≡◌, ℕ, List, drop}
use Rattle.std.specs.Prelude.{◌||◌}
use Rattle.sm_model.specs.SaidView.{statements_view}
use Rattle.sm_merge.specs.Stated.{defined_among}
use Rattle.sm_merge.specs.steps.Known.{has_text}
use Rattle.sm_merge.proofs.names.put_names.Given as goal

abbrev pub invariant-loop-statement : goal.invariant-loop-statement
invariant-loop-statement l = (id : List ℕ)
    → (has_text l.ids id || defined_among (statements_view (drop l.statement-index l.file)) id)
    ≡ (has_text l.fn.ids id || defined_among (statements_view l.file) id)
