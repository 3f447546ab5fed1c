use Rattle.std.proofs.Common.{subst}
use Rattle.std.specs.List.{Contains}
use Rattle.std.proofs.lemmas.Option.{slice_get_within}
use Rattle.sm_service.specs.ServiceView.{served_said}
use Rattle.sm_service.proofs.ServedRoots.{if_ok}
use Rattle.sm_service.proofs.StartsTold.{errors_stand, errors_told}
use Rattle.sm_service.proofs.operations.errors_served.Goals as goal

pub push_errors-requires : goal.push_errors-requires
push_errors-requires c = record {
  errors = λ e there. let at = c.requires.errors e there in slice_get_within c.args.shapes.now e.shape at.0 at.1;
}

pub served_from-requires-clause-numbers : goal.served_from-requires-clause-numbers
served_from-requires-clause-numbers c w there =
    errors_stand c.args.graph.now c.args.shapes.now c.args.errors.now c.new-starts.result.items c.push_errors.new.starts.items
    c.new-starts.ensures.items c.in_ok-push_errors.ensures c.requires.errors w (subst (λ ws. Contains ws w) c.as_slice.ensures.value there)

pub returns-clause-room : goal.returns-clause-room
returns-clause-room c = if_ok c.served_from.result (λ s told. c.served_from.ensures.room) c.served_from.ensures.served

pub returns-clause-served : goal.returns-clause-served
returns-clause-served c =
    if_ok c.served_from.result
    (λ s told. errors_told c.args.graph.now c.args.shapes.now c.args.errors.now c.new-starts.result.items c.push_errors.new.starts.items
    c.new-starts.ensures.items c.in_ok-push_errors.ensures c.requires.errors c.as_slice.result.now c.as_slice.ensures.value (served_said s) told)
    c.served_from.ensures.served
