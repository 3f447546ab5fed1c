use Rattle.std.proofs.Common.{subst}
use Rattle.std.specs.List.{Contains}
use Rattle.std.proofs.lemmas.Option.{slice_get_within}
use Rattle.sm_model.specs.GraphView.{maps_of}
use Rattle.sm_service.specs.ServedOperation.{TellsAllServed}
use Rattle.sm_service.specs.ServiceView.{served_said}
use Rattle.sm_service.specs.steps.WalkStarts.{roots_of}
use Rattle.sm_service.proofs.ServedRoots.{if_ok}
use Rattle.sm_service.proofs.StartsTold.{served_told, start_numbers}
use Rattle.sm_service.proofs.operations.own_served.Goals as goal

pub walk_starts-requires : goal.walk_starts-requires
walk_starts-requires c = record {
  errors = λ e there. let at = c.requires.errors e there in slice_get_within c.args.shapes.now e.shape at.0 at.1;
}

pub served_from-requires-clause-numbers : goal.served_from-requires-clause-numbers
served_from-requires-clause-numbers c w there =
    start_numbers c.args.graph.now c.args.shapes.now c.args.own.now c.args.input c.args.output c.in_ok-starts.starts.items
    c.in_ok-starts.ensures c.requires.errors c.requires.input c.requires.output w
    (subst (λ ws. Contains ws w) c.as_slice.ensures.value there)

pub returns-clause-room : goal.returns-clause-room
returns-clause-room c = if_ok c.served_from.result (λ s told. c.served_from.ensures.room) c.served_from.ensures.served

pub returns-clause-served : goal.returns-clause-served
returns-clause-served c =
    if_ok c.served_from.result
    (λ s told. served_told c.args.graph.now c.args.shapes.now c.args.own.now c.args.input c.args.output c.in_ok-starts.starts.items
    c.in_ok-starts.ensures c.requires.errors (served_said s)
    (subst (λ ws. TellsAllServed (maps_of c.args.graph.now) (roots_of c.args.graph.now ws) (served_said s)) c.as_slice.ensures.value told))
    c.served_from.ensures.served
