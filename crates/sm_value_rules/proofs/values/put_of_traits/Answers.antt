use Rattle.std.proofs.Common.{subst, sym}
use Rattle.std.proofs.lemmas.List.{take_all}
use Rattle.sm_model.specs.GraphView.{maps_of}
use Rattle.sm_model.specs.Reaching.{id_of_number}
use Rattle.sm_rules.specs.RuleEvents.{Puts}
use Rattle.sm_passes.specs.Putting.{ToldOf}
use Rattle.sm_passes.proofs.ListPut.{none_of, put_next}
use Rattle.sm_value_rules.specs.steps.Valuing.{ToldValue}
use Rattle.sm_value_rules.proofs.values.put_of_traits.Goals as goal

pub loop-pair-init : goal.loop-pair-init
loop-pair-init c = record {
  told = none_of (ToldValue (maps_of c.args.graph.now) (id_of_number c.args.graph.now c.args.number)) c.args.events.now.items;
  nodes = c.requires.nodes;
}

pub put_of_trait-requires-clause-stands : goal.put_of_trait-requires-clause-stands
put_of_trait-requires-clause-stands c =
    c.requires.traits c.pair-item.result (c.loop-pair.pair-index, c.loop-pair-test.true, sym c.pair-item.is)

pub loop-pair-preserved : goal.loop-pair-preserved
loop-pair-preserved c =
    let at = c.loop-pair in
    record {
      told = put_next (ToldValue (maps_of c.args.graph.now) (id_of_number c.args.graph.now c.args.number)) c.args.traits.now at.pair-index
          c.pair-item.result c.loop-pair-test.true c.pair-item.is c.args.events.now.items at.events.items
          c.put_of_trait.new.events.items at.invariant.told c.in_ok-put_of_trait.ensures.told;
      nodes = c.in_ok-put_of_trait.ensures.nodes;
    }

pub returns-clause-told : goal.returns-clause-told
returns-clause-told c =
    subst (λ ts. Puts (ToldOf (ToldValue (maps_of c.args.graph.now) (id_of_number c.args.graph.now c.args.number)) ts)
    c.args.events.now.items c.loop-pair.events.items)
    (take_all c.loop-pair.pair-index c.args.traits.now c.loop-pair-test.false) c.loop-pair.invariant.told
