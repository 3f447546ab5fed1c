use Rattle.sm_schema.proofs.listing.DefinedPlaces.put_members.Goals as goal

pub member_defined-requires-clause-known : goal.member_defined-requires-clause-known
member_defined-requires-clause-known c = c.loop-member.invariant.numbered.values
