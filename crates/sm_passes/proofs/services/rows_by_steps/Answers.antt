use Rattle.std.proofs.lemmas.List.Sorted.{Contains-permutation, IsPermutation-sym}
use Rattle.sm_passes.proofs.SharedClosures.{services_moved}
use Rattle.sm_passes.proofs.services.rows_by_steps.Goals as goal

pub returns-clause-services : goal.returns-clause-services
returns-clause-services c =
    services_moved c.args.graph.now c.in_ok-rows.rows.items c.sort_unstable_by.new.self.items c.sort_unstable_by.ensures.permutation
    c.in_ok-rows.ensures.services

pub returns-clause-rows : goal.returns-clause-rows
returns-clause-rows c r h =
    c.in_ok-rows.ensures.rows r
    (Contains-permutation _ _ r (IsPermutation-sym _ _ c.sort_unstable_by.ensures.permutation) h)
