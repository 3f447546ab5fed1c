use Rattle.std.proofs.Common.{sym, rules}
use Rattle.std.specs.Ordering.{nat_cmp}
use Rattle.std.specs.Cmp.Lexicographic.{slice_cmp}
use Rattle.std.proofs.lemmas.Fn.{always_returns_same}
use Rattle.sm_shapes.proofs.NamedMembers.{searchable, found_there, found_nowhere}
use Rattle.sm_service.specs.ErrorOrder.{name_at_place, places_of}
use Rattle.sm_service.proofs.error_order.place_named.Goals as goal

pub returns-in-Ok : goal.returns-in-Ok
returns-in-Ok c =
    let name = name_at_place c.args.errors.now in
    let places = places_of c.args.errors.now in
    let numbers = c.args.by_name.now in
    let q = c.args.name.now in
    let held = c.in-Ok.ensures.position (λ k. slice_cmp nat_cmp (name k) q) (always_returns_same _ _ _ (λ a r g called. search rules)) in
    sym (found_there name numbers c.requires.order.1 places q c.in-Ok.at c.requires.order.0 c.requires.differ c.in-Ok.ensures.bound held)

pub returns-in-Err : goal.returns-in-Err
returns-in-Err c =
    let name = name_at_place c.args.errors.now in
    let places = places_of c.args.errors.now in
    let numbers = c.args.by_name.now in
    let q = c.args.name.now in
    let parted = c.in-Err.ensures.position (λ k. slice_cmp nat_cmp (name k) q) (always_returns_same _ _ _ (λ a r g called. search rules)) in
    sym (found_nowhere name numbers c.requires.order.1 places q c.in-Err.field-0 c.requires.order.0
    (parted (searchable name numbers c.requires.order.1 q)))
