use Rattle.sm_merge.proofs.IdsNamed.{name_one}
use Rattle.sm_merge.proofs.events_places.put_places.Goals as goal

pub id_of_member-requires-clause-name : goal.id_of_member-requires-clause-name
id_of_member-requires-clause-name c =
    name_one c.args.members.now c.loop-member.member-index c.member-item.result c.requires.names c.loop-member-test.true c.member-item.is
