use Rattle.sm_compile.proofs.LookedUp.{stands_is}
use Rattle.sm_name_rules.proofs.NamesTold.{wrong_nowhere, wrong_there}
use Rattle.sm_name_rules.proofs.names.is_wrong_name.Goals as goal

pub is_left-requires-clause-number : goal.is_left-requires-clause-number
is_left-requires-clause-number c = (stands_is c.args.graph.now 0 c.in-Some.number c.args.name.now c.in-Some.ensures).0

pub returns-in-Some : goal.returns-in-Some
returns-in-Some c =
    let s = stands_is c.args.graph.now 0 c.in-Some.number c.args.name.now c.in-Some.ensures in
    wrong_there c.args.graph.now c.args.inside.now c.args.name.now c.in-Some.number s.0 s.1 c.is_left.result c.is_left.ensures

pub returns-in-None : goal.returns-in-None
returns-in-None c = wrong_nowhere c.args.graph.now c.args.inside.now c.args.name.now c.in-None.ensures
