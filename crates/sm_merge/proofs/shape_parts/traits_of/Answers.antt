use Rattle.std.proofs.Common.{[], ap, rules, sym}
use Rattle.std.specs.Option.{unwrap_or}
use Rattle.std.proofs.lemmas.Fn.{always_returns_same}
use Rattle.sm_model.specs.Graphs.{text_cmp}
use Rattle.sm_model.proofs.Rises.{sorted_from_rise}
use Rattle.sm_model.proofs.Searching.{value_found, found_nowhere, rises}
use Rattle.sm_merge.specs.steps.EffectiveTables.{by_members}
use Rattle.sm_merge.proofs.shape_parts.traits_of.Goals as goal

pub returns-in-Ok : goal.returns-in-Ok
returns-in-Ok c =
    let q = c.args.name.now in
    let sorted = sorted_from_rise (by_members c.args.members.now) c.requires in
    let held = c.in-Ok.ensures.position (λ m. text_cmp m.member q) (always_returns_same _ _ _ (λ a r g called. search rules)) in
    sym (ap (λ o. unwrap_or o []) (value_found (λ m. (m.member, m.traits.items)) c.args.members.now sorted q c.in-Ok.number
    c.in-Ok.ensures.bound
    held c.traits_in.result.now c.traits_in.ensures))

pub returns-in-Err : goal.returns-in-Err
returns-in-Err c =
    let q = c.args.name.now in
    let sorted = sorted_from_rise (by_members c.args.members.now) c.requires in
    let parted = c.in-Err.ensures.position (λ m. text_cmp m.member q) (always_returns_same _ _ _ (λ a r g called. search rules)) in
    sym (ap (λ o. unwrap_or o []) (found_nowhere (λ m. (m.member, m.traits.items)) c.args.members.now q c.in-Err.field-0
    (parted (rises (λ m. (m.member, m.traits.items)) c.args.members.now sorted q))))
