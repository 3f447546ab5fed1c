use Rattle.std.proofs.Common.{sym, ◌∙◌}
use Rattle.sm_passes.proofs.RowTested.{row_named}
use Rattle.sm_trait_rules.proofs.known.has_row.Goals as goal

pub returns : goal.returns
returns c = c.some_row.ensures ∙ sym (row_named c.args.name.now)
