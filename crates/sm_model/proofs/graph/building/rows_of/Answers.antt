use Rattle.std.proofs.Common.{◌≡◌, ◌<◌, ◌^◌, ap, length, vec_len, subst, sym, arith, rules}
use Rattle.std.specs.Vec.Iter.{into_iter_items}
use Rattle.sm_model.specs.GivenView.{given_view, shape_given_view}
use Rattle.sm_model.specs.Graphs.{given_entries}
use Rattle.sm_model.specs.steps.Blocks.{AreRowsUpTo}
use Rattle.sm_model.proofs.MoreRows.{more_rows, room}
use Rattle.sm_model.proofs.graph.building.rows_of.Goals as goal

pub put_block-requires-clause-few : goal.put_block-requires-clause-few
put_block-requires-clause-few c =
    let all = given_view (into_iter_items c.into_iter-shape-iterator.result) in
    let rows = c.loop-shape.rows in
    let long : vec_len rows ≡ length rows.items = search rules in
    let few = subst (λ xs. length (given_entries (given_view xs)) < 2 ^ 32)
    (sym c.into_iter-shape-iterator.ensures.into_iter_gives.0) c.requires.few in
    omega (
      arith,
      long,
      room all (shape_given_view c.in-Some.shape) (given_view (into_iter_items c.next.new.self)) rows.items
          (subst (λ ss. AreRowsUpTo all ss rows.items) (ap given_view c.in-Some.ensures.steps.0) c.loop-shape.invariant) few,
    )

pub loop-shape-preserved : goal.loop-shape-preserved
loop-shape-preserved c =
    let all = given_view (into_iter_items c.into_iter-shape-iterator.result) in
    let rows = c.loop-shape.rows in
    more_rows all (shape_given_view c.in-Some.shape) (given_view (into_iter_items c.next.new.self)) rows.items
    (subst (λ ss. AreRowsUpTo all ss rows.items) (ap given_view c.in-Some.ensures.steps.0) c.loop-shape.invariant)
    _ c.in_ok-put_block.ensures
