use Rattle.std.proofs.Common.{◌≡◌, ◌++◌, map, drop}
use Rattle.sm_shapes.specs.ValueView.{val_of, vals_view}
use Rattle.sm_shapes.proofs.twice.each.Given as goal

abbrev pub invariant-loop-value : goal.invariant-loop-value
invariant-loop-value l = map (λ v. val_of v.now) l.all.items ++ vals_view (drop l.value-index l.values) ≡ vals_view l.values
