use Rattle.std.proofs.Common.{◌∙◌}
use Rattle.sm_passes.proofs.RowTested.{place_same}
use Rattle.sm_trait_rules.proofs.table_rules.StandsByRowTest.passes.Goals as goal

pub returns : goal.returns
returns c = c.allows.ensures ∙ place_same c.args.place c.args.self.now.at
