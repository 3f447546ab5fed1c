use Rattle.std.proofs.Common.{sym}
use Rattle.sm_value_rules.specs.steps.Enums.{value_at}
use Rattle.sm_value_rules.specs.steps.SeenValues.{Holds, holds, value_node}
use Rattle.sm_value_rules.proofs.EnumMembers.{none_joined, none_told, value_joined, value_told}
use Rattle.sm_value_rules.proofs.enums.put_value.Goals as goal

pub returns-in_ok-put_if-in-Some-clause-seen : goal.returns-in_ok-put_if-in-Some-clause-seen
returns-in_ok-put_if-in-Some-clause-seen c =
    value_joined (Holds c.args.seen.now) (Holds c.take.new.self) (value_at c.args.graph.now c.args.kind c.args.member)
    (value_node c.in-Some.value)
    (sym c.in-Some.ensures) c.in_ok-new-in-Some.ensures.held

pub returns-in_ok-put_if-in-Some-clause-told : goal.returns-in_ok-put_if-in-Some-clause-told
returns-in_ok-put_if-in-Some-clause-told c =
    value_told c.args.graph.now (holds c.args.seen.now) (value_at c.args.graph.now c.args.kind c.args.member) c.args.member
    (value_node c.in-Some.value)
    (sym c.in-Some.ensures) c.in_ok-new-in-Some.new c.in_ok-new-in-Some.ensures.new c.args.events.now.items c.put_if.new.events.items
    c.in_ok-put_if-in-Some.ensures

pub returns-in_ok-put_event-in-None-clause-seen : goal.returns-in_ok-put_event-in-None-clause-seen
returns-in_ok-put_event-in-None-clause-seen c =
    none_joined (Holds c.args.seen.now) (value_at c.args.graph.now c.args.kind c.args.member) (sym c.in-None.ensures)

pub returns-in_ok-put_event-in-None-clause-told : goal.returns-in_ok-put_event-in-None-clause-told
returns-in_ok-put_event-in-None-clause-told c =
    none_told c.args.graph.now (Holds c.args.seen.now) (value_at c.args.graph.now c.args.kind c.args.member) c.args.member
    (sym c.in-None.ensures)
    c.args.events.now.items c.put_event.new.events.items c.in_ok-put_event-in-None.ensures
