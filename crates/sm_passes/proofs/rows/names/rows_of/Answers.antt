use Rattle.std.proofs.Common.{false, ◌++◌, sym, ◌∙◌}
use Rattle.std.specs.Prelude.{◌||◌}
use Rattle.sm_rules.specs.TraitRows.{annotation_rows, constraint_rows, documentation_rows, other_rows, rows_of_shapes, wire_rows}
use Rattle.sm_passes.proofs.RowTested.{behind_group, not_text}
use Rattle.sm_passes.proofs.rows.names.rows_of.Goals as goal

pub returns-in_default : goal.returns-in_default
returns-in_default c =
    λ test. c.behind_annotations.ensures test ∙ sym (behind_group annotation_rows
    (rows_of_shapes ++ constraint_rows ++ documentation_rows ++ wire_rows ++ other_rows)
    c.args.name.now test
    (λ i. (not_text c.in_default.not-text i || (not_text c.in_default.not-text-2 i || (not_text c.in_default.not-text-3 i
    || (not_text c.in_default.not-text-4 i || (not_text c.in_default.not-text-5 i || (not_text c.in_default.not-text-6 i
    || (not_text c.in_default.not-text-7 i || (not_text c.in_default.not-text-8 i || (not_text c.in_default.not-text-9 i
    || false))))))))) || ((not_text c.in_default.not-text-10 i || (not_text c.in_default.not-text-11 i
    || (not_text c.in_default.not-text-12 i || (not_text c.in_default.not-text-13 i
    || (not_text c.in_default.not-text-14 i || false))))) || ((not_text c.in_default.not-text-15 i || false)
    || ((not_text c.in_default.not-text-16 i || false) || ((not_text c.in_default.not-text-17 i
    || (not_text c.in_default.not-text-18 i || (not_text c.in_default.not-text-19 i
    || (not_text c.in_default.not-text-20 i || false)))) || ((not_text c.in_default.not-text-21 i
    || (not_text c.in_default.not-text-22 i || (not_text c.in_default.not-text-23 i || false)))
    || ((not_text c.in_default.not-text-24 i || (not_text c.in_default.not-text-25 i || false))
    || ((not_text c.in_default.not-text-26 i || false) || ((not_text c.in_default.not-text-27 i || false)
    || ((not_text c.in_default.not-text-28 i || false) || ((not_text c.in_default.not-text-29 i || false)
    || false))))))))))))
