use Rattle.std.proofs.Common.{◌≡◌, ◌<◌, ◌^◌, List, length, vec_len, subst, sym, arith, rules}
use Rattle.sm_tree.specs.View.{pairs_view}
use Rattle.sm_model.specs.GraphRows.{ids_of}
use Rattle.sm_model.specs.steps.TargetNumbers.{AreTargets}
use Rattle.sm_model.specs.declared.graph.rows.GraphRow.{GraphRow}
use Rattle.sm_model.specs.steps.Rising.{KeepsMap, Rise}
use Rattle.sm_model.proofs.MadeGraphs.{few_rows, few_sorted, given_sorted, made_map, same_graph, sound_rows}
use Rattle.sm_model.proofs.graph.Graph.build.Goals as goal

pub rows_of-requires-clause-given : goal.rows_of-requires-clause-given
rows_of-requires-clause-given c = given_sorted c.args.shapes.items c.shapes_in_order.result.items c.shapes_in_order.ensures.moved
    c.requires.each

pub rows_of-requires-clause-few : goal.rows_of-requires-clause-few
rows_of-requires-clause-few c = few_sorted c.args.shapes.items c.shapes_in_order.result.items c.shapes_in_order.ensures.moved c.requires.few

pub targets_of-requires-clause-rise : goal.targets_of-requires-clause-rise
targets_of-requires-clause-rise c = subst (λ rows. Rise (ids_of rows)) (sym c.as_slice.ensures.value) c.in_ok-rows.ensures.rise

pub targets_of-requires-clause-few : goal.targets_of-requires-clause-few
targets_of-requires-clause-few c =
    subst (λ (rs : List GraphRow). length rs < 2 ^ 32) (sym c.as_slice.ensures.value)
    (few_rows c.args.shapes.items c.shapes_in_order.result.items c.shapes_in_order.ensures.moved c.in_ok-rows.rows.items
    c.in_ok-rows.ensures c.requires.few)

pub invariant_of-result : goal.invariant_of-result
invariant_of-result c =
    let moved = c.shapes_in_order.ensures.moved in
    let rows = c.in_ok-rows.rows in
    let long : vec_len rows ≡ length rows.items = search rules in
    record {
      few = omega (
        arith,
        long,
        few_rows c.args.shapes.items c.shapes_in_order.result.items moved rows.items c.in_ok-rows.ensures
            c.requires.few,
      );
      sound = sound_rows c.args.shapes.items c.shapes_in_order.result.items moved rows.items c.in_ok-rows.ensures;
      targeted = subst (λ rs. AreTargets rs c.in_ok-targets.targets.items) c.as_slice.ensures.value c.in_ok-targets.ensures;
      sorted = c.pairs_in_order-metadata.ensures.sorted;
    }

pub returns : goal.returns
returns c = same_graph _ _ _ _
    (made_map c.args.shapes.items c.shapes_in_order.result.items c.shapes_in_order.ensures.moved c.in_ok-rows.rows.items
    c.in_ok-rows.ensures)
    (sym (subst (λ es. KeepsMap es (pairs_view c.pairs_in_order-metadata.result)) c.new.ensures c.pairs_in_order-metadata.ensures.same))
