use Rattle.std.proofs.Common.{rules}
use Rattle.std.proofs.lemmas.Fn.{always_returns_same}
use Rattle.sm_model.specs.Graphs.{text_cmp}
use Rattle.sm_model.proofs.Rises.{sorted_from_rise}
use Rattle.sm_model.proofs.Searching.{value_found, found_nowhere, rises}
use Rattle.sm_merge.specs.steps.Tables.{named_view}
use Rattle.sm_merge.proofs.look.value_named.Goals as goal

pub returns-in-Ok : goal.returns-in-Ok
returns-in-Ok c =
    let q = c.args.name.now in
    let sorted = sorted_from_rise (named_view c.args.values.now) c.requires in
    let held = c.in-Ok.ensures.position (λ v. text_cmp v.name q) (always_returns_same _ _ _ (λ a r g called. search rules)) in
    value_found (λ v. (v.name, v.folded)) c.args.values.now sorted q c.in-Ok.place c.in-Ok.ensures.bound held c.folded_in.result.now
    c.folded_in.ensures

pub returns-in-Err : goal.returns-in-Err
returns-in-Err c =
    let q = c.args.name.now in
    let sorted = sorted_from_rise (named_view c.args.values.now) c.requires in
    let parted = c.in-Err.ensures.position (λ v. text_cmp v.name q) (always_returns_same _ _ _ (λ a r g called. search rules)) in
    found_nowhere (λ v. (v.name, v.folded)) c.args.values.now q c.in-Err.field-0
    (parted (rises (λ v. (v.name, v.folded)) c.args.values.now sorted q))
