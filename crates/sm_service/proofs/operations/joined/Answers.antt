use Rattle.std.proofs.Common.{map, sym, ap, subst, ◌∙◌}
use Rattle.std.specs.List.{Contains}
use Rattle.sm_service.specs.ErrorOrder.{name_at_place}
use Rattle.sm_service.specs.ErrorsView.{joined_errors}
use Rattle.sm_service.specs.ServiceData.{name_of_error}
use Rattle.sm_service.specs.steps.OperationRows.{AreAgain}
use Rattle.sm_service.proofs.ServedRoots.{if_ok}
use Rattle.sm_service.proofs.operations.joined.Goals as goal

pub new-requires-clause-named : goal.new-requires-clause-named
new-requires-clause-named c =
    let own = c.args.own.items in
    let again = c.in_ok-again.again.items in
    let are = subst (λ es. AreAgain es c.args.known.now.value again) c.as_slice.ensures.value
    (subst (λ ss. AreAgain c.as_slice.result.now ss again) c.as_ref.ensures c.in_ok-again.ensures) in
    λ k there. subst (λ ss. Contains (map name_of_error own) (name_at_place ss k)) (sym c.in-Ok.ensures.cases) (are.named k there)

pub returns-in-Ok : goal.returns-in-Ok
returns-in-Ok c =
    let own = c.args.own.items in
    let again = c.in_ok-again.again.items in
    if_ok c.new.result
    (λ all is. record {
      again = again;
      places = subst (λ es. AreAgain es c.args.known.now.value again) c.as_slice.ensures.value
          (subst (λ ss. AreAgain c.as_slice.result.now ss again) c.as_ref.ensures c.in_ok-again.ensures);
      joined = is ∙ ap (joined_errors own again) c.in-Ok.ensures.cases;
    })
    c.new.ensures
