use Rattle.std.proofs.Common.{sym}
use Rattle.sm_reference_rules.proofs.TargetKinds.{members_put, no_members}
use Rattle.sm_reference_rules.proofs.kinds.TargetsAtEach.put_at.Goals as goal

pub returns-in_ok-put_members-in-Some : goal.returns-in_ok-put_members-in-Some
returns-in_ok-put_members-in-Some c =
    members_put c.args.graph.now c.args.number c.in-Some.home (sym c.in-Some.ensures) c.members_of.result.now c.members_of.ensures.ids
    c.args.events.now.items c.put_members.new.events.items c.in_ok-put_members-in-Some.ensures

pub returns-in-None : goal.returns-in-None
returns-in-None c = no_members c.args.graph.now c.args.number (sym c.in-None.ensures) c.args.events.now.items
