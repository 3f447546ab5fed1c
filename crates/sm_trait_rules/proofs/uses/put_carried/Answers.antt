use Rattle.std.proofs.Common.{refl, subst, ◌∙◌}
use Rattle.std.proofs.lemmas.List.{take_all}
use Rattle.sm_model.specs.Joins.{Joins}
use Rattle.sm_trait_rules.specs.steps.Placing.{HasUse}
use Rattle.sm_trait_rules.proofs.UsesPut.{IsUseOfOne, next_trait, no_traits}
use Rattle.sm_trait_rules.proofs.uses.put_carried.Goals as goal

pub put_named-requires-clause-rows : goal.put_named-requires-clause-rows
put_named-requires-clause-rows c = c.loop-pair.invariant.count ∙ c.requires.rows

pub loop-pair-init : goal.loop-pair-init
loop-pair-init c = record {
  count = refl;
  uses = no_traits c.args.graph.now c.args.firsts.now c.args.rows.now.items c.args.number;
}

pub loop-pair-preserved : goal.loop-pair-preserved
loop-pair-preserved c =
    let at = c.loop-pair in
    record {
      count = c.in_ok-put_named.ensures.count ∙ at.invariant.count;
      uses = next_trait c.args.graph.now c.args.firsts.now c.args.rows.now.items at.rows.items c.put_named.new.rows.items c.args.number
          c.args.traits.now at.pair-index c.pair-item.result c.as_str.result.now c.loop-pair-test.true c.pair-item.is
          c.as_str.ensures.bytes at.invariant.uses c.in_ok-put_named.ensures.uses;
    }

pub returns-clause-uses : goal.returns-clause-uses
returns-clause-uses c =
    subst (λ ts. Joins (HasUse c.args.rows.now.items) (IsUseOfOne c.args.graph.now c.args.firsts.now c.args.number ts)
    (HasUse c.loop-pair.rows.items)) (take_all c.loop-pair.pair-index c.args.traits.now c.loop-pair-test.false)
    c.loop-pair.invariant.uses
