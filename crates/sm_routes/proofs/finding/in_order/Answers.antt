use Rattle.std.proofs.Common.{rules}
use Rattle.std.proofs.lemmas.Fn.{always_returns_same}
use Rattle.std.proofs.lemmas.List.Sorted.{IsPermutation-map, ranks_by}
use Rattle.sm_routes.specs.KeptOrder.{stands_first}
use Rattle.sm_routes.specs.RouteView.{route_data}
use Rattle.sm_routes.proofs.KeptRows.{kept_total}
use Rattle.sm_routes.proofs.finding.in_order.Goals as goal

pub returns-clause-ordered : goal.returns-clause-ordered
returns-clause-ordered c =
    c.in_ok-sort_by.ensures.sorted stands_first (ranks_by kept_total route_data) (always_returns_same _ _ _ (λ a r f called. search rules))

pub returns-clause-permuted : goal.returns-clause-permuted
returns-clause-permuted c =
    IsPermutation-map route_data c.args.rows.items c.sort_by.new.self.items c.in_ok-sort_by.ensures.permutation
