use Rattle.std.proofs.Common.{subst, sym}
use Rattle.sm_ids.specs.Identifier.{IsIdentifier}
use Rattle.sm_merge.proofs.IdsNamed.{own_one}
use Rattle.sm_merge.proofs.events_members.put_own_others.Goals as goal

pub put_if_other-requires-clause-name : goal.put_if_other-requires-clause-name
put_if_other-requires-clause-name c =
    subst IsIdentifier (sym c.as_str.ensures.bytes)
    (own_one c.args.members.now c.loop-name.name-index c.loop-name-item.result c.requires.names c.loop-name-test.true c.loop-name-item.is)
