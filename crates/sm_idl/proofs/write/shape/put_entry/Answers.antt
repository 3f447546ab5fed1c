use Rattle.std.proofs.Common.{◌∷◌, ◌++◌, true, subst, sym, ◌∙◌, []}
use Rattle.std.specs.Prelude.{slice_get}
use Rattle.std.proofs.lemmas.Result.{on_ok_weaker}
use Rattle.sm_bytes.specs.Ascii.{line_feed}
use Rattle.sm_model.specs.GraphView.{At, entries_of, maps_of}
use Rattle.sm_idl.specs.steps.Writing.{IsShapeText}
use Rattle.sm_idl.proofs.WrittenIdl.{id_there, member_skipped, other_skipped, shape_put, shape_there_at, told_at}
use Rattle.sm_idl.proofs.write.shape.put_entry.Goals as goal

pub returns-then-is_member : goal.returns-then-is_member
returns-then-is_member c =
    let g = c.args.graph.now in
    member_skipped (maps_of g).shapes c.args.namespace.now (slice_get (entries_of g) c.args.number) c.args.out.now.items
    (told_at g c.args.number c.is_member.result true c.is_member.ensures c.if-is_member.true)

pub put_shape-requires-clause-is_shape : goal.put_shape-requires-clause-is_shape
put_shape-requires-clause-is_shape c =
    shape_there_at c.args.graph.now c.args.number c.is_member.result c.is_member.ensures c.if-is_member.false

pub returns-then-is_its_own : goal.returns-then-is_its_own
returns-then-is_its_own c =
    let g = c.args.graph.now in
    let k = c.args.number in
    let shapes = (maps_of g).shapes in
    let id = c.as_str-id.result.now in
    let own = sym c.is_its_own.ensures ∙ c.if-is_its_own.true in
    let before = c.args.out.now.items in
    let now = c.put_shape.new.out.items in
    on_ok_weaker c.put_shape.result
    (λ is. shape_put shapes c.args.namespace.now (slice_get (entries_of g) k) before now id
    (id_there g k id c.id.result.now c.as_str-id.ensures c.id.ensures) own
    (subst (λ name. At g k (λ i e. IsShapeText shapes name (before ++ line_feed ∷ []) now e)) c.namespace_and_name.ensures.name is))
    c.put_shape.ensures

pub returns : goal.returns
returns c =
    let g = c.args.graph.now in
    let k = c.args.number in
    let id = c.as_str-id.result.now in
    other_skipped (maps_of g).shapes c.args.namespace.now (slice_get (entries_of g) k) c.args.out.now.items id
    (id_there g k id c.id.result.now c.as_str-id.ensures c.id.ensures) (sym c.is_its_own.ensures ∙ c.if-is_its_own.false)
