use Rattle.std.proofs.Common.{subst, sym}
use Rattle.sm_trait_rules.specs.steps.Placing.{AreFirsts, AreSharedUses}
use Rattle.sm_trait_rules.proofs.places.put_unpicked.Goals as goal

pub uses_of-requires : goal.uses_of-requires
uses_of-requires c = subst (AreFirsts c.args.graph.now) (sym c.as_slice.ensures.value) c.in_ok-firsts.ensures

pub put_by_texts-requires-clause-rows : goal.put_by_texts-requires-clause-rows
put_by_texts-requires-clause-rows c =
    subst (AreSharedUses c.args.graph.now) (sym c.as_slice-2.ensures.value)
    (c.as_slice.result.now, subst (AreFirsts c.args.graph.now) (sym c.as_slice.ensures.value) c.in_ok-firsts.ensures, c.in_ok-rows.ensures)
