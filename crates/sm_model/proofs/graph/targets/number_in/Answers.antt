use Rattle.std.proofs.Common.{[], Some, ap, subst, sym, ◌<◌, ◌∙◌, rules}
use Rattle.std.proofs.lemmas.Fn.{always_returns_same}
use Rattle.std.proofs.lemmas.List.{length-map}
use Rattle.std.proofs.lemmas.Option.{slice_get-get_or}
use Rattle.sm_model.specs.Graphs.{text_cmp}
use Rattle.sm_model.specs.GraphRows.{id_of_row, ids_of}
use Rattle.sm_model.proofs.Places.{found_place, no_place}
use Rattle.sm_model.proofs.graph.targets.number_in.Goals as goal

pub returns-in-Ok : goal.returns-in-Ok
returns-in-Ok c =
    let rows = c.args.rows.now in
    let q = c.args.id.now in
    let held = c.in-Ok.ensures.position (λ r. text_cmp r.id q) (always_returns_same _ _ _ (λ a r g called. search rules)) in
    slice_get-get_or (ids_of rows) c.in-Ok.place [] (subst (λ n. c.in-Ok.place < n) (sym (length-map rows id_of_row)) c.in-Ok.ensures.bound)
    ∙ ap Some (found_place rows q c.in-Ok.place c.in-Ok.ensures.bound held)

pub returns-in-Err : goal.returns-in-Err
returns-in-Err c there =
    let q = c.args.id.now in
    no_place c.args.rows.now q c.in-Err.field-0 c.requires.rise there
    (c.in-Err.ensures.position (λ r. text_cmp r.id q) (always_returns_same _ _ _ (λ a r g called. search rules)))
