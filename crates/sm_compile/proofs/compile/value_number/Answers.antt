use Rattle.std.proofs.Common.{subst, sym, ◌∙◌}
use Rattle.sm_ids.specs.IdText.{printed}
use Rattle.sm_ids.specs.View.{id_of}
use Rattle.sm_model.specs.GraphView.{maps_of}
use Rattle.sm_model.proofs.Worklist.{apart}
use Rattle.sm_compile.specs.Sound.{IsValueShape}
use Rattle.sm_compile.proofs.LookedUp.{stands_is}
use Rattle.sm_compile.proofs.compile.value_number.Goals as goal

pub returns-then-is_value_shape : goal.returns-then-is_value_shape
returns-then-is_value_shape c =
    let g = c.args.graph.now in
    let x = stands_is g c.in-Some.number c.in-Some.number (printed (id_of c.args.shape.now)) c.in-Some.ensures in
    (x.0, x.1, subst (IsValueShape (maps_of g)) x.1 (c.is_value_shape.ensures.0 c.if-is_value_shape.true))

pub returns-else-is_value_shape : goal.returns-else-is_value_shape
returns-else-is_value_shape c v =
    let g = c.args.graph.now in
    let x = stands_is g c.in-Some.number c.in-Some.number (printed (id_of c.args.shape.now)) c.in-Some.ensures in
    apart (sym c.if-is_value_shape.false ∙ c.is_value_shape.ensures.1 (subst (IsValueShape (maps_of g)) (sym x.1) v))
