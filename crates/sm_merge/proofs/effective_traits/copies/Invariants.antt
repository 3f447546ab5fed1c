use Rattle.std.proofs.Common.{◌≡◌, ◌++◌, drop, filter, bytes_eq}
use Rattle.std.specs.Prelude.{◌||◌, not}
use Rattle.sm_merge.specs.Mixins.{mixin_trait}
use Rattle.sm_merge.specs.steps.Filling.{folded_rows}
use Rattle.sm_merge.specs.steps.Known.{has_text}
use Rattle.sm_merge.proofs.effective_traits.copies.Given as goal

abbrev pub invariant-loop-row : goal.invariant-loop-row
invariant-loop-row l =
    folded_rows l.rows.items
    ++ filter (λ r. not (bytes_eq r.0 mixin_trait || has_text l.local r.0)) (folded_rows (drop l.row-index l.own))
    ≡ filter (λ r. not (bytes_eq r.0 mixin_trait || has_text l.local r.0)) (folded_rows l.own)
