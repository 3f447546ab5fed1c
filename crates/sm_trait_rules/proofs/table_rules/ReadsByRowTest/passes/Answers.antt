use Rattle.std.proofs.Common.{sym, ◌∙◌}
use Rattle.sm_tree.specs.View.{node_of}
use Rattle.sm_passes.proofs.RowTested.{form_same}
use Rattle.sm_trait_rules.proofs.table_rules.ReadsByRowTest.passes.Goals as goal

pub returns : goal.returns
returns c = c.is_of_form.ensures ∙ sym (form_same c.args.form (node_of c.args.self.now.tree.now))
