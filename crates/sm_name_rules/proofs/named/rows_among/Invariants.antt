use Rattle.std.proofs.Common.{take}
use Rattle.std.specs.List.{Contains}
use Rattle.sm_name_rules.specs.steps.Naming.{AreRowsAmong, IsKeyBy, is_named, tree_in}
use Rattle.sm_name_rules.proofs.named.rows_among.Given as goal

abbrev pub invariant-loop-number : goal.invariant-loop-number
invariant-loop-number l =
    AreRowsAmong (λ k. Contains (take l.number-index l.numbers) k) (is_named l.graph l.inside) (IsKeyBy (tree_in l.given) l.graph)
    l.rows.items
