use Rattle.std.proofs.Common.{false, ◌++◌, sym, ◌∙◌}
use Rattle.std.specs.Prelude.{◌||◌}
use Rattle.sm_rules.specs.TraitRows.{documentation_rows, other_rows, wire_rows}
use Rattle.sm_passes.proofs.RowTested.{behind_group, not_text}
use Rattle.sm_passes.proofs.rows.names.behind_constraints.Goals as goal

pub returns-in_default : goal.returns-in_default
returns-in_default c =
    λ test. c.behind_documentation.ensures test ∙ sym (behind_group documentation_rows (wire_rows ++ other_rows) c.args.name.now test
    (λ i. (not_text c.in_default.not-text i || (not_text c.in_default.not-text-2 i || false))
    || ((not_text c.in_default.not-text-3 i || false) || ((not_text c.in_default.not-text-4 i
    || (not_text c.in_default.not-text-5 i || false)) || ((not_text c.in_default.not-text-6 i || false)
    || ((not_text c.in_default.not-text-7 i || false) || ((not_text c.in_default.not-text-8 i || false)
    || ((not_text c.in_default.not-text-9 i || false) || ((not_text c.in_default.not-text-10 i || false) || false)))))))))
