use Rattle.sm_merge.proofs.IdsNamed.{name_one}
use Rattle.sm_merge.proofs.events_members.put_mixed_others.Goals as goal

pub put_if_other-requires-clause-name : goal.put_if_other-requires-clause-name
put_if_other-requires-clause-name c =
    name_one c.args.members.now c.loop-member.member-index c.member-item.result c.requires.names c.loop-member-test.true c.member-item.is
