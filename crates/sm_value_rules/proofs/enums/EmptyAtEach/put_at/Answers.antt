use Rattle.std.proofs.Common.{sym}
use Rattle.sm_model.specs.GraphView.{maps_of}
use Rattle.sm_model.specs.Reaching.{id_of_number}
use Rattle.sm_value_rules.proofs.EnumMembers.{empty_members, empty_put, no_empty}
use Rattle.sm_value_rules.proofs.enums.EmptyAtEach.put_at.Goals as goal

pub returns-in_ok-put_if-in-Some : goal.returns-in_ok-put_if-in-Some
returns-in_ok-put_if-in-Some c =
    let x = empty_members c.args.graph.now c.args.number c.members_of.result.now c.members_of.ensures.ids c.are_none-none.result
    c.are_none-none.ensures in
    empty_put (maps_of c.args.graph.now) (id_of_number c.args.graph.now c.args.number) _
    (sym c.in-Some.ensures) c.are_none-none.result x.0 x.1
    c.args.events.now.items c.put_if.new.events.items c.in_ok-put_if-in-Some.ensures

pub returns-in-None : goal.returns-in-None
returns-in-None c =
    no_empty (maps_of c.args.graph.now) (id_of_number c.args.graph.now c.args.number) (sym c.in-None.ensures) c.args.events.now.items
