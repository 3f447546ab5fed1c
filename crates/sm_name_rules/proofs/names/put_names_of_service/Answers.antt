use Rattle.std.proofs.Common.{length, ap, sym, subst, ◌∙◌}
use Rattle.std.specs.List.{Contains}
use Rattle.std.specs.List.Sorted.{IsStrictlyIncreasing}
use Rattle.sm_model.specs.GraphView.{maps_of}
use Rattle.sm_model.specs.Reaching.{id_of_number}
use Rattle.sm_tree.specs.Parts.{tree_named}
use Rattle.sm_name_rules.specs.steps.Naming.{AreRowsAmong, IsKeyBy, is_named, tree_in}
use Rattle.sm_passes.specs.Closures.{AreInside}
use Rattle.sm_passes.proofs.OwnServices.{own_service}
use Rattle.sm_name_rules.proofs.AlikeHeld.{alike_among}
use Rattle.sm_name_rules.proofs.NamesTold.{names_put}
use Rattle.sm_name_rules.proofs.names.put_names_of_service.Goals as goal

pub rows_among-requires-clause-whole : goal.rows_among-requires-clause-whole
rows_among-requires-clause-whole c = ap length c.inside.ensures ∙ c.requires.inside.whole

pub rows_among-requires-clause-numbers : goal.rows_among-requires-clause-numbers
rows_among-requires-clause-numbers c k among =
    c.in_ok-numbers.ensures.alike.within k (subst (λ ns. Contains ns k) c.as_slice.ensures.value among)

pub rows_among-requires-clause-rise : goal.rows_among-requires-clause-rise
rows_among-requires-clause-rise c = subst IsStrictlyIncreasing (sym c.as_slice.ensures.value) c.in_ok-numbers.ensures.rise

pub put_later-requires-clause-numbers : goal.put_later-requires-clause-numbers
put_later-requires-clause-numbers c r among =
    c.in_ok-numbers.ensures.alike.within r.1 (subst (λ ns. Contains ns r.1) c.as_slice.ensures.value
    (c.in_ok-rows.ensures.each r (subst (λ rs. Contains rs r) c.as_slice-2.ensures.value among)).0.0)

pub put_renames-requires-clause-inside : goal.put_renames-requires-clause-inside
put_renames-requires-clause-inside c =
    subst (AreInside c.args.graph.now c.args.service) (sym c.inside-2.ensures) c.requires.inside

pub returns : goal.returns
returns c =
    let g = c.args.graph.now in
    let inside = c.args.names.now.inside.now in
    let renames = c.renames_of-renames.result.now in
    let given = tree_in c.in_ok-given.given in
    let ns = c.in_ok-numbers.numbers.items in
    let s = own_service (maps_of g) (id_of_number g c.args.service) c.requires.own in
    names_put g c.args.service inside c.requires.inside s.0 s.1 s.2 given
    (λ key. c.in_ok-given.ensures key ∙ ap (tree_named key) c.renames_of-renames.ensures) renames c.renames_of-renames.ensures
    (λ k. Contains ns k)
    (alike_among g inside c.requires.inside.whole renames ns c.in_ok-numbers.ensures.alike given c.in_ok-given.ensures)
    c.as_slice-2.result.now
    (subst (AreRowsAmong (λ k. Contains ns k) (is_named g inside) (IsKeyBy given g)) (sym c.as_slice-2.ensures.value)
    (subst (λ ms. AreRowsAmong (λ k. Contains ns k) (is_named g ms) (IsKeyBy given g) c.in_ok-rows.rows.items) c.inside.ensures
    (subst (λ ks. AreRowsAmong (λ k. Contains ks k) (is_named g c.inside.result.now) (IsKeyBy given g) c.in_ok-rows.rows.items)
    c.as_slice.ensures.value c.in_ok-rows.ensures)))
    c.args.events.now.items c.put_later.new.events.items c.put_renames.new.events.items c.in_ok-put_later.ensures
    c.in_ok-put_renames.ensures
