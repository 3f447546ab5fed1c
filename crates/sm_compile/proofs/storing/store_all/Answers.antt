use Rattle.std.proofs.Common.{subst, sym}
use Rattle.sm_model.specs.GraphView.{AreShapeNumbers}
use Rattle.sm_compile.specs.steps.Carrying.{carriers_of}
use Rattle.sm_compile.proofs.TextsStored.{number_at, rows_of, stops_next, stores_next}
use Rattle.sm_compile.proofs.storing.store_all.Goals as goal

pub store_text-requires : goal.store_text-requires
store_text-requires g c =
    number_at c.args.graph.now c.as_slice-first-items.result.now c.loop-first.first-index _ c.loop-first-test.true
    (subst (λ fs. AreShapeNumbers c.args.graph.now (carriers_of (rows_of fs))) (sym c.as_slice-first-items.ensures.value) c.requires)

pub returns-in-Err : goal.returns-in-Err
returns-in-Err g c =
    stops_next c.as_slice-first-items.result.now c.args.carried.now.firsts.items c.as_slice-first-items.ensures.value
    c.loop-first.first-index _ c.loop-first-test.true _ _ _ c.loop-first.rows.items c.loop-first.invariant c.args.graph.now
    c.in-Err.refusal c.in-Err.ensures

pub loop-first-preserved : goal.loop-first-preserved
loop-first-preserved g c =
    stores_next c.as_slice-first-items.result.now c.args.carried.now.firsts.items c.as_slice-first-items.ensures.value
    c.loop-first.first-index _ c.loop-first-test.true _ _ _ c.loop-first.rows.items c.loop-first.invariant
    c.store_text.new.rows.items c.in-Ok.ensures
