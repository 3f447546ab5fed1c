use Rattle.std.proofs.Common.{◌∙◌, refl, subst}
use Rattle.std.proofs.lemmas.List.{take_all}
use Rattle.sm_model.specs.Reaching.{IsMarked}
use Rattle.sm_model.specs.Joins.{Joins}
use Rattle.sm_trait_rules.specs.steps.Placing.{IsNamedOf}
use Rattle.sm_value_rules.proofs.UsedTraits.{named_more, named_none}
use Rattle.sm_value_rules.proofs.used.mark_traits.Goals as goal

pub loop-pair-init : goal.loop-pair-init
loop-pair-init c = record {
  count = refl;
  named = named_none c.args.graph.now c.args.marks.now.items;
}

pub loop-pair-preserved : goal.loop-pair-preserved
loop-pair-preserved c =
    let at = c.loop-pair in
    record {
      count = c.mark_named.ensures.count ∙ at.invariant.count;
      named = named_more c.args.graph.now c.args.marks.now.items at.marks.items c.mark_named.new.marks.items c.args.traits.now
          at.pair-index c.pair-item.result c.as_str.result.now c.loop-pair-test.true c.pair-item.is c.as_str.ensures.bytes
          at.invariant.named c.mark_named.ensures.named;
    }

pub returns-clause-named : goal.returns-clause-named
returns-clause-named c =
    subst (λ ts. Joins (IsMarked c.args.marks.now.items) (IsNamedOf c.args.graph.now ts) (IsMarked c.loop-pair.marks.items))
    (take_all c.loop-pair.pair-index c.args.traits.now c.loop-pair-test.false) c.loop-pair.invariant.named
