use Rattle.std.proofs.Common.{◌≡◌, ◌<◌, length, map, sym, ap, subst, ◌∙◌, rules}
use Rattle.std.proofs.lemmas.List.{length-map}
use Rattle.std.proofs.lemmas.Result.{IfOk-weaker}
use Rattle.std.specs.List.{AllByRecursion}
use Rattle.sm_shapes.specs.Names.{AllDiffer}
use Rattle.sm_shapes.specs.TableData.{json_name_at, name_at}
use Rattle.sm_shapes.specs.TableView.{member_data, shape_data, table_data}
use Rattle.sm_excerpts.specs.steps.Rows.{rows_alone}
use Rattle.sm_excerpts.proofs.AddedRows.{added_is}
use Rattle.sm_excerpts.proofs.excerpt.added.Goals as goal

pub excerpt_rows-requires-clause-members : goal.excerpt_rows-requires-clause-members
excerpt_rows-requires-clause-members c =
    subst (λ rs. AllByRecursion (λ k. k < length rs) c.args.members.now) (sym c.into_inner.ensures) c.requires.members

pub excerpt_rows-requires-clause-names : goal.excerpt_rows-requires-clause-names
excerpt_rows-requires-clause-names c =
    subst (λ rs. AllDiffer (map (name_at (rows_alone rs)) c.args.members.now)) (sym c.into_inner.ensures) c.requires.names

pub excerpt_rows-requires-clause-json_names : goal.excerpt_rows-requires-clause-json_names
excerpt_rows-requires-clause-json_names c =
    subst (λ rs. AllDiffer (map (json_name_at (rows_alone rs)) c.args.members.now)) (sym c.into_inner.ensures) c.requires.json_names

pub returns-in-Ok-excerpt_rows : goal.returns-in-Ok-excerpt_rows
returns-in-Ok-excerpt_rows c =
    let t = table_data c.args.table in
    let many : length c.into_inner-shapes.result.items ≡ c.len.result = search rules in
    let shape : c.in-Ok.shape ≡ length t.shapes =
    c.in-Ok.ensures.1 ∙ sym many ∙ sym (length-map c.into_inner-shapes.result.items shape_data) ∙ ap length c.into_inner-shapes.ensures in
    IfOk-weaker c.with_rows.result _ _
    (λ all h. added_is t (table_data all) c.args.members.now c.in-Ok.shape (map shape_data c.into_inner-shapes.result.items)
    (map member_data c.into_inner.result.items) c.in-Ok-excerpt_rows.rows c.into_inner-shapes.ensures c.into_inner.ensures shape
    c.in-Ok-excerpt_rows.ensures h) c.with_rows.ensures
