use Rattle.std.proofs.Common.{◌≤◌, length, subst, sym, arith}
use Rattle.std.specs.List.{Contains}
use Rattle.sm_model.specs.GraphView.{entries_of, maps_of}
use Rattle.sm_model.specs.Reaching.{id_of_number}
use Rattle.sm_shapes.specs.AnyStore.{any_texts}
use Rattle.sm_rules.specs.TraitShapes.{HasFaultyValue}
use Rattle.sm_rules.specs.declared.rule.Rule.TheVariants.{TraitValue}
use Rattle.sm_passes.proofs.EventsPut.{puts_begun, puts_next}
use Rattle.sm_passes.proofs.Numbered.{puts_numbers}
use Rattle.sm_value_rules.specs.steps.Valuing.{IsWantedTrait, ToldValues}
use Rattle.sm_value_rules.proofs.NodesTold.{table_for}
use Rattle.sm_value_rules.proofs.ValuesTold.{value_there}
use Rattle.sm_value_rules.proofs.values.put_by_marks.Goals as goal

pub new-requires : goal.new-requires
new-requires c = λ k among. c.in_ok-roots.ensures.checked k (subst (λ ks. Contains ks k) c.as_slice.ensures.value among)

pub loop-number-init : goal.loop-number-init
loop-number-init c = record {
  told = puts_begun (λ k. ToldValues (maps_of c.args.graph.now) (id_of_number c.args.graph.now k)) c.args.events.now.items;
  nodes =
      let nodes = c.in_ok-nodes.nodes in
      table_for c.args.graph.now (Contains c.as_slice.result.now) (IsWantedTrait c.args.graph.now) nodes.tabled
      (any_texts nodes.patterns)
      (λ k w. subst (λ ks. Contains ks k) (sym c.as_slice.ensures.value) (c.in_ok-roots.ensures.wanted w.0 k w.1 w.2))
      c.in_ok-nodes.ensures;
}

pub loop-number-preserved : goal.loop-number-preserved
loop-number-preserved c = record {
  told = puts_next (λ k. ToldValues (maps_of c.args.graph.now) (id_of_number c.args.graph.now k)) c.loop-number.number
      c.args.events.now.items c.loop-number.events.items c.put_at.new.events.items c.loop-number.invariant.told
      c.in_ok-put_at.ensures.told;
  nodes = c.in_ok-put_at.ensures.nodes;
}

pub returns : goal.returns
returns c =
    let g = c.args.graph.now in
    let at = c.loop-number in
    let all : length (entries_of g) ≤ at.number = omega (arith, c.loop-number-test.false, c.count-number-end.ensures) in
    puts_numbers g TraitValue (HasFaultyValue (maps_of g)) (value_there (maps_of g)) at.number all c.args.events.now.items
    at.events.items at.invariant.told
