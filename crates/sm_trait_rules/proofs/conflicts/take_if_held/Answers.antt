use Rattle.std.proofs.Common.{sym, ◌∙◌}
use Rattle.sm_model.specs.GraphView.{maps_of}
use Rattle.sm_model.specs.Reaching.{id_of_number}
use Rattle.sm_trait_rules.specs.steps.Conflicting.{HasText, IsGreaterOfBoth, has_text}
use Rattle.sm_trait_rules.proofs.ConflictsTold.{takes_failing, takes_passing}
use Rattle.sm_trait_rules.proofs.conflicts.take_if_held.Goals as goal

pub returns-in_ok-take_both : goal.returns-in_ok-take_both
returns-in_ok-take_both c =
    takes_passing
    (IsGreaterOfBoth (maps_of c.args.graph.now) (id_of_number c.args.graph.now c.args.number) c.args.name.now c.args.other.now)
    (HasText c.args.told.now.texts) (has_text c.args.set.now.texts c.args.other.now) (sym c.has.ensures ∙ c.if-has.true)
    (HasText c.take_both.new.told.texts) c.in_ok-take_both.ensures

pub returns-else-has : goal.returns-else-has
returns-else-has c =
    takes_failing
    (IsGreaterOfBoth (maps_of c.args.graph.now) (id_of_number c.args.graph.now c.args.number) c.args.name.now c.args.other.now)
    (HasText c.args.told.now.texts) (has_text c.args.set.now.texts c.args.other.now) (sym c.has.ensures ∙ c.if-has.false)
