use Rattle.std.proofs.Common.{◌∷◌, ap, rules, ◌≡◌, ℕ, List}
use Rattle.std.specs.Prelude.{IsSomeAnd, Option, None, Some, slice_get}
use Rattle.std.proofs.lemmas.Fn.{always_returns_same}
use Rattle.sm_model.specs.Graphs.{text_cmp}
use Rattle.sm_model.proofs.Rises.{sorted_from_rise}
use Rattle.sm_model.proofs.Searching.{value_found, found_nowhere, rises}
use Rattle.sm_groups.specs.Groups.{group_view, groups_view}
use Rattle.sm_groups.specs.declared.groups.Group.{Group}
use Rattle.sm_bind_read.proofs.PartsFound.{found_texts}
use Rattle.sm_bind_read.proofs.sources.group_under.Goals as goal

pub returns-in-Ok : goal.returns-in-Ok
returns-in-Ok c = λ rows are.
    let q = c.args.key.now in
    let gs = c.args.groups.now in
    let sorted = sorted_from_rise (groups_view gs) are.rise in
    let held = c.in-Ok.ensures.position (λ g. text_cmp g.key q) (always_returns_same _ _ _ (λ a r g called. search rules)) in
    let one = c.group_at.result.now in
    found_texts q rows gs are (Some (one.first ∷ one.more.items))
    (value_found group_view gs sorted q c.in-Ok.place c.in-Ok.ensures.bound held (one.first ∷ one.more.items)
    (same (slice_get gs c.in-Ok.place) c.group_at.ensures))
  where
    same : (o : Option (Group (List ℕ))) → IsSomeAnd o (λ g. c.group_at.result.now ≡ g)
        → IsSomeAnd o (λ g. c.group_at.result.now.first ∷ c.group_at.result.now.more.items ≡ (group_view g).1)
    same None h = h
    same (Some g) h = ap (λ (y : Group (List ℕ)). y.first ∷ y.more.items) h

pub returns-in-Err : goal.returns-in-Err
returns-in-Err c = λ rows are.
    let q = c.args.key.now in
    let gs = c.args.groups.now in
    let sorted = sorted_from_rise (groups_view gs) are.rise in
    let parted = c.in-Err.ensures.position (λ g. text_cmp g.key q) (always_returns_same _ _ _ (λ a r g called. search rules)) in
    found_texts q rows gs are None (found_nowhere group_view gs q c.in-Err.field-0 (parted (rises group_view gs sorted q)))
