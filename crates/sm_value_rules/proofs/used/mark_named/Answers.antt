use Rattle.sm_value_rules.proofs.UsedTraits.{none_named, one_named}
use Rattle.sm_value_rules.proofs.used.mark_named.Goals as goal

pub returns-in-Some-clause-named : goal.returns-in-Some-clause-named
returns-in-Some-clause-named c =
    one_named c.args.graph.now c.args.marks.now.items c.mark.new.marks.items c.args.name.now c.in-Some.number c.in-Some.ensures
    c.mark.ensures.marked

pub returns-in-None-clause-named : goal.returns-in-None-clause-named
returns-in-None-clause-named c = none_named c.args.graph.now c.args.marks.now.items c.args.name.now c.in-None.ensures
