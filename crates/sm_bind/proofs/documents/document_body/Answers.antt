use Rattle.std.proofs.Common.{◌<◌, length, map, sym, ap, subst, refl, ◌∙◌}
use Rattle.std.proofs.lemmas.Result.{IfOk-weaker}
use Rattle.std.specs.List.{AllByRecursion, filter}
use Rattle.sm_shapes.specs.Names.{AllDiffer}
use Rattle.sm_shapes.specs.TableData.{json_name_at, member_count, name_at}
use Rattle.sm_shapes.specs.TableView.{table_data}
use Rattle.sm_bind.specs.BindingsView.{bound_side}
use Rattle.sm_bind.proofs.GrowingBodies.{has_excerpt, has_whole, kept_json_names, kept_names, kept_within}
use Rattle.sm_bind.proofs.documents.document_body.Goals as goal
use Rattle.sm_bind.specs.Roles.{is_unbound_on}

pub returns-then-is_as_long : goal.returns-then-is_as_long
returns-then-is_as_long c =
    let t = table_data c.args.table.now in
    let side = bound_side c.args.side in
    let test = is_unbound_on t side in
    let kept = c.in-Ok.ensures ∙ ap (filter test) c.members-members.ensures in
    let long = c.is_as_long.ensures c.if-is_as_long.true in
    has_whole t side _ c.args.shape c.requires.grown c.requires.shaped c.requires.shape c.requires.kind c.requires.some
    (ap length (sym kept) ∙ ap length (sym c.as_slice.ensures.value) ∙ long ∙ ap length c.members-members.ensures) refl

pub excerpt_body-requires-clause-shaped : goal.excerpt_body-requires-clause-shaped
excerpt_body-requires-clause-shaped c = c.requires.grown.shaped

pub excerpt_body-requires-clause-members : goal.excerpt_body-requires-clause-members
excerpt_body-requires-clause-members c =
    let t = table_data c.args.table.now in
    let d = table_data c.args.documents in
    let side = bound_side c.args.side in
    let kept = c.as_slice-else-is_as_long.ensures.value ∙ c.in-Ok.ensures ∙ ap (filter (is_unbound_on t side)) c.members-members.ensures in
    subst (AllByRecursion (λ k. k < member_count d)) (sym kept)
    (kept_within t side d c.requires.grown.extends c.requires.shaped c.args.shape c.requires.shape)

pub excerpt_body-requires-clause-names : goal.excerpt_body-requires-clause-names
excerpt_body-requires-clause-names c =
    let t = table_data c.args.table.now in
    let d = table_data c.args.documents in
    let side = bound_side c.args.side in
    let kept = c.as_slice-else-is_as_long.ensures.value ∙ c.in-Ok.ensures ∙ ap (filter (is_unbound_on t side)) c.members-members.ensures in
    subst (λ ks. AllDiffer (map (name_at d) ks)) (sym kept)
    (kept_names t side d c.requires.grown.extends c.requires.shaped c.args.shape c.requires.shape)

pub excerpt_body-requires-clause-json_names : goal.excerpt_body-requires-clause-json_names
excerpt_body-requires-clause-json_names c =
    let t = table_data c.args.table.now in
    let d = table_data c.args.documents in
    let side = bound_side c.args.side in
    let kept = c.as_slice-else-is_as_long.ensures.value ∙ c.in-Ok.ensures ∙ ap (filter (is_unbound_on t side)) c.members-members.ensures in
    subst (λ ks. AllDiffer (map (json_name_at d) ks)) (sym kept)
    (kept_json_names t side d c.requires.grown.extends c.requires.shaped c.args.shape c.requires.shape)

pub returns-in-Ok : goal.returns-in-Ok
returns-in-Ok c =
    let t = table_data c.args.table.now in
    let d = table_data c.args.documents in
    let side = bound_side c.args.side in
    let kept = c.as_slice-else-is_as_long.ensures.value ∙ c.in-Ok.ensures ∙ ap (filter (is_unbound_on t side)) c.members-members.ensures in
    IfOk-weaker c.excerpt_body.result _ _
    (λ body h. has_excerpt t side d body c.args.shape c.as_slice-else-is_as_long.result.now c.requires.grown c.requires.shaped c.requires.shape c.requires.some
    kept h) c.excerpt_body.ensures
