use Rattle.std.proofs.Common.{◌≡◌, length, subst, sym, true}
use Rattle.sm_model.specs.GraphView.{entries_of, maps_of}
use Rattle.sm_model.specs.Reaching.{AreMarks, id_of_number}
use Rattle.sm_http_rules.specs.steps.LeftOut.{has_left_out}
use Rattle.sm_http_rules.proofs.left_out.leading_to_left_out.Goals as goal

pub leading_to-requires-clause-left_out : goal.leading_to-requires-clause-left_out
leading_to-requires-clause-left_out c =
    let g = c.args.graph.now in
    subst (AreMarks (length (entries_of g)) (λ k. has_left_out (maps_of g) (id_of_number g k) ≡ true)) (sym c.as_slice.ensures.value)
    c.in_ok-left_out.ensures
