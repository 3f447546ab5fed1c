use Rattle.std.proofs.Common.{◌≡◌, length, subst, sym, true}
use Rattle.sm_model.specs.GraphView.{entries_of, maps_of}
use Rattle.sm_model.specs.Reaching.{AreMarks, id_of_number}
use Rattle.sm_passes.specs.Owned.{is_own_service}
use Rattle.sm_reference_rules.proofs.unused.put_unused.Goals as goal

pub put_unused_where-requires-clause-services : goal.put_unused_where-requires-clause-services
put_unused_where-requires-clause-services c =
    subst (AreMarks (length (entries_of c.args.graph.now))
    (λ k. is_own_service (maps_of c.args.graph.now) (id_of_number c.args.graph.now k) ≡ true)) (sym c.as_slice.ensures.value)
    c.in_ok-services.ensures
