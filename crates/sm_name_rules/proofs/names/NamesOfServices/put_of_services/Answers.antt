use Rattle.std.proofs.Common.{subst, sym}
use Rattle.sm_passes.specs.Closures.{AreInsideOf}
use Rattle.sm_name_rules.proofs.names.NamesOfServices.put_of_services.Goals as goal

pub names_inside-requires : goal.names_inside-requires
names_inside-requires c = c.requires.closure.found

pub put_names_each-requires-clause-inside : goal.put_names_each-requires-clause-inside
put_names_each-requires-clause-inside c =
    subst (AreInsideOf c.args.graph.now c.args.services.now) (sym c.in_ok-inside.ensures.0) c.requires.closure.inside

pub put_names_each-requires-clause-names : goal.put_names_each-requires-clause-names
put_names_each-requires-clause-names c =
    c.in_ok-inside.ensures.1 c.args.graph.now c.requires.knows.0 c.requires.closure.inside.0
