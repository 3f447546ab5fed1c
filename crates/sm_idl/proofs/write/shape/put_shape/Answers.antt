use Rattle.std.proofs.Common.{[], get_or, map, subst}
use Rattle.std.specs.Prelude.{slice_get}
use Rattle.std.proofs.lemmas.Result.{on_ok_weaker}
use Rattle.sm_tree.specs.View.{node_of, members_view}
use Rattle.sm_model.specs.GraphView.{At, entries_of, ids, maps_of}
use Rattle.sm_idl.specs.steps.Writing.{IsShapeText}
use Rattle.sm_idl.proofs.WrittenIdl.{shape_is}
use Rattle.sm_idl.proofs.write.shape.put_shape.Goals as goal

pub returns : goal.returns
returns c =
    let g = c.args.graph.now in
    let k = c.args.number in
    let name = c.args.name.now in
    let members = map (λ m. get_or (ids g) m []) c.members-members.result.now in
    let now = c.put_stated.new.out.items in
    on_ok_weaker c.put_stated.result
    (λ is. subst (λ before. At g k (λ id e. IsShapeText (maps_of g).shapes name before now e)) c.in_ok-put.ensures
    (shape_is (maps_of g).shapes (slice_get (entries_of g) k) name c.kind-kind.result members
    (node_of c.properties-body.result.now)
    (members_view c.traits.result.now) c.put.new.out.items c.put_traits.new.out.items now
    c.kind-kind.ensures c.members-members.ensures.ids c.properties-body.ensures c.traits.ensures c.in_ok-put_traits.ensures is))
    c.put_stated.ensures
