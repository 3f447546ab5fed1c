use Rattle.std.proofs.Common.{◌≡◌, ◌++◌}
use Rattle.std.specs.Vec.Iter.{into_iter_items}
use Rattle.sm_model.specs.RawView.{raw_members_view}
use Rattle.sm_model.specs.SaidView.{statements_view}
use Rattle.sm_idl.specs.Idl.{metadata_statements}
use Rattle.sm_idl.proofs.file.metadata_statements.Given as goal

abbrev pub invariant-loop-pair : goal.invariant-loop-pair
invariant-loop-pair l = statements_view l.statements.items ++ metadata_statements (raw_members_view (into_iter_items l.pair-iterator))
    ≡ metadata_statements (raw_members_view (into_iter_items l.initial.pair-iterator))
