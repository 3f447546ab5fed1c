use Rattle.sm_model.specs.Reaching.{id_of_number}
use Rattle.sm_service.proofs.OperationsReady.{in_name_order, names_differ}
use Rattle.sm_service.proofs.operation_numbers.operation_numbers.Goals as goal

pub by_name-requires-clause-differ : goal.by_name-requires-clause-differ
by_name-requires-clause-differ c =
    names_differ c.args.graph.now (id_of_number c.args.graph.now c.args.service) c.requires.service c.requires.ready c.args.marks.now
    c.requires.marks c.in_ok-numbers.numbers.items c.in_ok-numbers.ensures.are

pub returns : goal.returns
returns c =
    in_name_order c.args.graph.now (id_of_number c.args.graph.now c.args.service) c.requires.service c.requires.ready c.args.marks.now
    c.requires.marks c.in_ok-numbers.numbers.items c.in_ok-numbers.ensures.are c.by_name.result.items c.by_name.ensures
