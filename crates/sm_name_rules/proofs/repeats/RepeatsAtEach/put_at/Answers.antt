use Rattle.std.proofs.Common.{sym, ◌∙◌}
use Rattle.sm_model.specs.Reaching.{id_of_number}
use Rattle.sm_name_rules.proofs.RepeatedNames.{no_repeats, repeats_put}
use Rattle.sm_name_rules.proofs.repeats.RepeatsAtEach.put_at.Goals as goal

pub returns-in_ok-put_repeats_of : goal.returns-in_ok-put_repeats_of
returns-in_ok-put_repeats_of c =
    repeats_put c.args.graph.now c.args.number (sym c.is_own_shape.ensures ∙ c.if-is_own_shape.true) c.members_of.result.now
    c.members_of.ensures.ids c.args.events.now.items c.put_repeats_of.new.events.items c.in_ok-put_repeats_of.ensures

pub returns-else-is_own_shape : goal.returns-else-is_own_shape
returns-else-is_own_shape c =
    no_repeats c.args.graph.now (id_of_number c.args.graph.now c.args.number) c.args.events.now.items
    (sym c.is_own_shape.ensures ∙ c.if-is_own_shape.false)
