use Rattle.std.proofs.Common.{[], ap, rules, sym}
use Rattle.std.specs.Option.{unwrap_or}
use Rattle.std.proofs.lemmas.Fn.{always_returns_same}
use Rattle.sm_model.specs.Graphs.{text_cmp}
use Rattle.sm_model.proofs.Rises.{sorted_from_rise}
use Rattle.sm_model.proofs.Searching.{value_found, found_nowhere, rises}
use Rattle.sm_merge.specs.steps.Tables.{places_view}
use Rattle.sm_merge.proofs.look.traits_at.Goals as goal

pub returns-in-Ok : goal.returns-in-Ok
returns-in-Ok c =
    let q = c.args.place.now in
    let sorted = sorted_from_rise (places_view c.args.rows.now) c.requires in
    let held = c.in-Ok.ensures.position (λ r. text_cmp r.place q) (always_returns_same _ _ _ (λ a r g called. search rules)) in
    sym (ap (λ o. unwrap_or o []) (value_found (λ r. (r.place, r.traits.items)) c.args.rows.now sorted q c.in-Ok.number
    c.in-Ok.ensures.bound
    held c.traits_in.result.now c.traits_in.ensures))

pub returns-in-Err : goal.returns-in-Err
returns-in-Err c =
    let q = c.args.place.now in
    let sorted = sorted_from_rise (places_view c.args.rows.now) c.requires in
    let parted = c.in-Err.ensures.position (λ r. text_cmp r.place q) (always_returns_same _ _ _ (λ a r g called. search rules)) in
    sym (ap (λ o. unwrap_or o []) (found_nowhere (λ r. (r.place, r.traits.items)) c.args.rows.now q c.in-Err.field-0
    (parted (rises (λ r. (r.place, r.traits.items)) c.args.rows.now sorted q))))
