use Rattle.std.proofs.Common.{◌≡◌, sym, subst}
use Rattle.std.specs.Prelude.{MatchOption, Some, slice_get}
use Rattle.std.specs.List.{Contains}
use Rattle.std.specs.List.Sorted.{IsStrictlySortedBy}
use Rattle.sm_model.specs.Graphs.{text_cmp}
use Rattle.sm_service.specs.ServiceView.{operations_view}
use Rattle.sm_messages.proofs.OperationsNamed.{names_seen}
use Rattle.sm_messages.proofs.names.operation_named.Goals as goal

pub place_of-requires-clause-order : goal.place_of-requires-clause-order
place_of-requires-clause-order c =
    subst (IsStrictlySortedBy text_cmp) (names_seen c.as_slice.result.now (operations_view c.args.operations.now) c.as_slice.ensures)
    c.requires.order

pub returns : goal.returns
returns c =
    let same = names_seen c.as_slice.result.now (operations_view c.args.operations.now) c.as_slice.ensures in
    let q = c.args.name.now in
    subst (λ ns. MatchOption c.place_of.result (Contains ns q → ⊥) (λ place. slice_get ns place ≡ Some q)) (sym same) c.place_of.ensures
