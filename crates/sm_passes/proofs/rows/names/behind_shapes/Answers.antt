use Rattle.std.proofs.Common.{false, ◌++◌, sym, ◌∙◌}
use Rattle.std.specs.Prelude.{◌||◌}
use Rattle.sm_rules.specs.TraitRows.{constraint_rows, documentation_rows, other_rows, wire_rows}
use Rattle.sm_passes.proofs.RowTested.{behind_group, not_text}
use Rattle.sm_passes.proofs.rows.names.behind_shapes.Goals as goal

pub returns-in_default : goal.returns-in_default
returns-in_default c =
    λ test. c.behind_constraints.ensures test ∙ sym (behind_group constraint_rows (documentation_rows ++ wire_rows ++ other_rows)
    c.args.name.now test
    (λ i. (not_text c.in_default.not-text i || false) || ((not_text c.in_default.not-text-2 i || false)
    || ((not_text c.in_default.not-text-2 i || false) || ((not_text c.in_default.not-text-3 i || false) || false)))))
