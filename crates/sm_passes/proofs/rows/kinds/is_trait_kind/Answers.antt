use Rattle.std.proofs.Common.{◌∙◌}
use Rattle.sm_passes.proofs.RowTested.{trait_kind_same}
use Rattle.sm_passes.proofs.rows.kinds.is_trait_kind.Goals as goal

pub returns : goal.returns
returns c = c.has_values.ensures ∙ trait_kind_same c.args.kind
