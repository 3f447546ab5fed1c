use Rattle.std.proofs.Common.{◌∙◌}
use Rattle.sm_passes.proofs.RowTested.{defaulted_kind_same}
use Rattle.sm_passes.proofs.rows.kinds.is_defaulted_kind.Goals as goal

pub returns : goal.returns
returns c = c.is_no_container.ensures ∙ defaulted_kind_same c.args.kind
