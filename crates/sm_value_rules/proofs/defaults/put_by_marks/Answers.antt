use Rattle.std.proofs.Common.{◌≡◌, length, subst, sym, arith}
use Rattle.std.specs.List.{Contains}
use Rattle.sm_model.specs.GraphView.{entries_of, maps_of}
use Rattle.sm_model.specs.Reaching.{id_of_number}
use Rattle.sm_shapes.specs.AnyStore.{any_texts}
use Rattle.sm_rules.specs.Defaults.{HasWrongDefault}
use Rattle.sm_rules.specs.RuleEvents.{Puts}
use Rattle.sm_rules.specs.declared.rule.Rule.TheVariants.{DefaultValue}
use Rattle.sm_passes.specs.Putting.{Below}
use Rattle.sm_passes.proofs.EventsPut.{puts_begun, puts_next}
use Rattle.sm_passes.proofs.Numbered.{puts_homes}
use Rattle.sm_value_rules.specs.steps.Defaulting.{IsWantedTarget, ToldDefaults}
use Rattle.sm_value_rules.proofs.DefaultsTold.{home_of, homes_there}
use Rattle.sm_value_rules.proofs.NodesTold.{table_for}
use Rattle.sm_value_rules.proofs.defaults.put_by_marks.Goals as goal

pub new-requires : goal.new-requires
new-requires c = λ k among. c.in_ok-roots.ensures.checked k (subst (λ ks. Contains ks k) c.as_slice.ensures.value among)

pub loop-number-init : goal.loop-number-init
loop-number-init c =
    let g = c.args.graph.now in
    let nodes = c.in_ok-nodes.nodes in
    record {
      within = omega arith;
      told = puts_begun (λ k. ToldDefaults (maps_of g) (id_of_number g k)) c.args.events.now.items;
      nodes = table_for g (Contains c.as_slice.result.now) (IsWantedTarget g) nodes.tabled (any_texts nodes.patterns)
          (λ k w. subst (λ ks. Contains ks k) (sym c.as_slice.ensures.value) (c.in_ok-roots.ensures.wanted w.0 k w.1 w.2))
          c.in_ok-nodes.ensures;
    }

pub loop-number-preserved : goal.loop-number-preserved
loop-number-preserved c =
    let at = c.loop-number in
    record {
      within = omega (arith, c.loop-number-test.true, c.count-number-end.ensures);
      told = puts_next (λ k. ToldDefaults (maps_of c.args.graph.now) (id_of_number c.args.graph.now k)) at.number
          c.args.events.now.items at.events.items c.put_in_shape.new.events.items at.invariant.told c.in_ok-put_in_shape.ensures.told;
      nodes = c.in_ok-put_in_shape.ensures.nodes;
    }

pub returns : goal.returns
returns c =
    let g = c.args.graph.now in
    let at = c.loop-number in
    let all : at.number ≡ length (entries_of g) =
    omega (arith, c.loop-number-test.false, c.count-number-end.ensures, at.invariant.within) in
    puts_homes g DefaultValue (HasWrongDefault (maps_of g)) (home_of (maps_of g)) (homes_there (maps_of g)) c.args.events.now.items
    at.events.items
    (subst (λ n. Puts (Below (λ k. ToldDefaults (maps_of g) (id_of_number g k)) n) c.args.events.now.items at.events.items) all
    at.invariant.told)
