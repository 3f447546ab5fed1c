use Rattle.std.proofs.Common.{sym, ◌∙◌}
use Rattle.sm_model.specs.GraphView.{maps_of}
use Rattle.sm_model.specs.Reaching.{id_of_number}
use Rattle.sm_value_rules.proofs.DefaultsTold.{members_put, no_shape_put}
use Rattle.sm_value_rules.proofs.defaults.put_in_shape.Goals as goal

pub returns-in_ok-put_of_members-clause-told : goal.returns-in_ok-put_of_members-clause-told
returns-in_ok-put_of_members-clause-told c =
    members_put c.args.graph.now c.args.shape (sym c.is_own_shape.ensures ∙ c.if-is_own_shape.true) c.members_of.result.now
    c.members_of.ensures.ids c.args.events.now.items c.put_of_members.new.events.items c.in_ok-put_of_members.ensures.told

pub returns-else-is_own_shape-clause-told : goal.returns-else-is_own_shape-clause-told
returns-else-is_own_shape-clause-told c =
    no_shape_put (maps_of c.args.graph.now) (id_of_number c.args.graph.now c.args.shape)
    (sym c.is_own_shape.ensures ∙ c.if-is_own_shape.false) c.args.events.now.items
