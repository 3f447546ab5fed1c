use Rattle.std.proofs.Common.{rules}
use Rattle.std.proofs.lemmas.Fn.{always_returns_same}
use Rattle.sm_model.specs.Graphs.{text_cmp}
use Rattle.sm_messages.proofs.OperationsNamed.{found_nowhere, found_there, searchable}
use Rattle.sm_messages.proofs.names.place_of.Goals as goal

pub returns-in-Ok : goal.returns-in-Ok
returns-in-Ok c =
    let q = c.args.name.now in
    let held = c.in-Ok.ensures.position (λ o. text_cmp o.name q) (always_returns_same _ _ _ (λ a r g called. search rules)) in
    found_there (λ o. o.name) c.args.operations.now q c.in-Ok.at c.in-Ok.ensures.bound held

pub returns-in-Err : goal.returns-in-Err
returns-in-Err c =
    let q = c.args.name.now in
    let parted = c.in-Err.ensures.position (λ o. text_cmp o.name q) (always_returns_same _ _ _ (λ a r g called. search rules)) in
    found_nowhere (λ o. o.name) c.args.operations.now q c.in-Err.field-0 (parted (searchable (λ o. o.name) c.args.operations.now
    c.requires.order q))
