use Rattle.std.proofs.Common.{sym}
use Rattle.sm_value_rules.proofs.EnumMembers.{no_values, values_put}
use Rattle.sm_value_rules.proofs.enums.WrongAtEach.put_at.Goals as goal

pub returns-in_ok-put_values-in-Some : goal.returns-in_ok-put_values-in-Some
returns-in_ok-put_values-in-Some c =
    values_put c.args.graph.now c.args.number c.in-Some.kind (sym c.in-Some.ensures) c.members_of.result.now c.members_of.ensures.ids
    c.args.events.now.items c.put_values.new.events.items c.in_ok-put_values-in-Some.ensures

pub returns-in-None : goal.returns-in-None
returns-in-None c = no_values c.args.graph.now c.args.number (sym c.in-None.ensures) c.args.events.now.items
