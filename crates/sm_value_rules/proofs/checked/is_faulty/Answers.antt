use Rattle.std.proofs.Common.{inr, ap, sym, ◌∙◌}
use Rattle.sm_model.specs.GraphView.{maps_of}
use Rattle.sm_model.specs.Reaching.{id_of_number}
use Rattle.sm_value_rules.specs.steps.Checking.{is_type_left_out}
use Rattle.sm_value_rules.proofs.CheckedMarks.{left_out_seen}
use Rattle.sm_value_rules.proofs.checked.is_faulty.Goals as goal

pub returns-then-is_type_left_out : goal.returns-then-is_type_left_out
returns-then-is_type_left_out c =
    let g = c.args.graph.now in
    inr (left_out_seen (maps_of g) (id_of_number g c.args.number)
    (ap is_type_left_out (sym c.kind_of.ensures) ∙ sym c.is_type_left_out.ensures ∙ c.if-is_type_left_out.true))
