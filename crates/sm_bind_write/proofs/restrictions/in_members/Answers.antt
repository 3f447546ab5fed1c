use Rattle.sm_bind_write.proofs.restrictions.in_members.Goals as goal

pub in_errors-requires-clause-each : goal.in_errors-requires-clause-each
in_errors-requires-clause-each c = λ e there. (c.requires.sound.errors e there).0.0
