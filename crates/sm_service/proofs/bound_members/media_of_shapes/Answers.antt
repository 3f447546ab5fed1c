use Rattle.std.proofs.Common.{get_or}
use Rattle.std.proofs.lemmas.List.Elements.{Contains-get_or}
use Rattle.sm_model.specs.GraphView.{maps_of}
use Rattle.sm_model.specs.Reaching.{id_of_number}
use Rattle.sm_compile.proofs.ReachedNumbers.{each_number}
use Rattle.sm_service.specs.steps.BindingsTold.{TellsShapeMedia}
use Rattle.sm_service.proofs.RowsTold.{row_more}
use Rattle.sm_service.proofs.bound_members.media_of_shapes.Goals as goal

pub text_at-requires : goal.text_at-requires
text_at-requires c =
    let ks = c.args.shapes.now in
    let i = c.loop-shape.shape-index in
    each_number c.args.graph.now ks c.requires (get_or ks i 0) (Contains-get_or ks i 0 c.loop-shape-test.true)

pub loop-shape-preserved : goal.loop-shape-preserved
loop-shape-preserved c =
    let g = c.args.graph.now in
    let ks = c.args.shapes.now in
    let at = c.loop-shape in
    let put = c.in_ok-push.ensures.items in
    row_more (TellsShapeMedia (maps_of g)) (id_of_number g) ks at.shape-index at.media.items c.push.new.self.items c.in_ok-text_at.field-0
    c.loop-shape-test.true put at.invariant c.in_ok-text_at.ensures
