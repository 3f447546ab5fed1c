use Rattle.std.proofs.Common.{sym, ap, ◌∙◌}
use Rattle.std.specs.Prelude.{◌&&◌}
use Rattle.std.specs.List.{list_any}
use Rattle.sm_tree.specs.View.{node_of}
use Rattle.sm_passes.specs.Places.{places_said}
use Rattle.sm_passes.specs.RowTests.{stand_takes_in}
use Rattle.sm_passes.proofs.RowTested.{form_same, place_same}
use Rattle.sm_trait_rules.proofs.table_rules.ReadsThereRowTest.passes.Goals as goal

pub returns : goal.returns
returns c =
    c.both.ensures
    ∙ ap (λ b. b && c.is_of_form-reads.result) (c.allows-here.ensures ∙ place_same c.args.place c.args.self.now.at)
    ∙ ap (λ b. list_any (stand_takes_in c.args.self.now.at) (places_said c.args.place) && b)
    (c.is_of_form-reads.ensures ∙ sym (form_same c.args.form (node_of c.args.self.now.tree.now)))
