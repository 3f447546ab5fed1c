use Rattle.std.proofs.Common.{rules}
use Rattle.std.proofs.lemmas.Fn.{always_returns_same}
use Rattle.sm_model.specs.Graphs.{text_cmp}
use Rattle.sm_model.proofs.Rises.{sorted_from_rise}
use Rattle.sm_model.proofs.Searching.{found_at, found_nowhere, rises}
use Rattle.sm_merge.specs.steps.Placed.{bare_view}
use Rattle.sm_merge.specs.steps.ShapeTables.{shapes_view}
use Rattle.sm_merge.proofs.look.position.Goals as goal

pub returns-in-Ok : goal.returns-in-Ok
returns-in-Ok c =
    let q = c.args.id.now in
    let sorted = sorted_from_rise (shapes_view c.args.rows.now) c.requires in
    let held = c.in-Ok.ensures.position (λ s. text_cmp s.id q) (always_returns_same _ _ _ (λ a r g called. search rules)) in
    found_at (λ s. (s.id, bare_view s)) c.args.rows.now sorted q c.in-Ok.place c.in-Ok.ensures.bound held

pub returns-in-Err : goal.returns-in-Err
returns-in-Err c =
    let q = c.args.id.now in
    let sorted = sorted_from_rise (shapes_view c.args.rows.now) c.requires in
    let parted = c.in-Err.ensures.position (λ s. text_cmp s.id q) (always_returns_same _ _ _ (λ a r g called. search rules)) in
    found_nowhere (λ s. (s.id, bare_view s)) c.args.rows.now q c.in-Err.field-0
    (parted (rises (λ s. (s.id, bare_view s)) c.args.rows.now sorted q))
