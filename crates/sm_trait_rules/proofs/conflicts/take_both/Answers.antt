use Rattle.std.proofs.Common.{sym, ◌∙◌}
use Rattle.sm_model.specs.Graphs.{text_cmp}
use Rattle.sm_model.specs.GraphView.{maps_of}
use Rattle.sm_model.specs.Reaching.{id_of_number}
use Rattle.sm_passes.specs.Carrying.{carries}
use Rattle.sm_trait_rules.specs.steps.Conflicting.{HasText, IsGreaterBy}
use Rattle.sm_trait_rules.proofs.ConflictsTold.{takes_failing, takes_passing}
use Rattle.sm_trait_rules.proofs.conflicts.take_both.Goals as goal

pub returns-in_ok-take_greater : goal.returns-in_ok-take_greater
returns-in_ok-take_greater c =
    let name = c.args.name.now in
    let other = c.args.other.now in
    takes_passing (IsGreaterBy (text_cmp name other) name other) (HasText c.args.told.now.texts)
    (carries (maps_of c.args.graph.now) other (id_of_number c.args.graph.now c.args.number)) (sym c.carries.ensures ∙ c.if-carries.true)
    (HasText c.take_greater.new.told.texts) c.in_ok-take_greater.ensures

pub returns-else-carries : goal.returns-else-carries
returns-else-carries c =
    let name = c.args.name.now in
    let other = c.args.other.now in
    takes_failing (IsGreaterBy (text_cmp name other) name other) (HasText c.args.told.now.texts)
    (carries (maps_of c.args.graph.now) other (id_of_number c.args.graph.now c.args.number)) (sym c.carries.ensures ∙ c.if-carries.false)
