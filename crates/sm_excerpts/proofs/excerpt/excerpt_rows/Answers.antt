use Rattle.std.proofs.Common.{◌≡◌, ◌++◌, length, map, sym, ap, subst, ◌∙◌, arith, rules}
use Rattle.std.proofs.lemmas.List.{length-append, length-map}
use Rattle.std.proofs.lemmas.Result.{IfOk-weaker}
use Rattle.sm_shapes.specs.Names.{AllDiffer}
use Rattle.sm_shapes.specs.TableData.{json_name_at, name_at}
use Rattle.sm_shapes.specs.TableView.{member_data, shape_data}
use Rattle.sm_excerpts.specs.steps.Rows.{IsExcerptRow, copies_of, numbers_from, rows_alone}
use Rattle.sm_excerpts.proofs.MoreRows.{copies_long, json_names_differ, names_differ}
use Rattle.sm_excerpts.proofs.excerpt.excerpt_rows.Goals as goal

pub with_row-requires-clause-names : goal.with_row-requires-clause-names
with_row-requires-clause-names c =
    let ms = map member_data c.args.rows.items in
    let ks = c.args.members.now in
    let first : length c.args.rows.items ≡ c.len-first.result = search rules in
    subst (λ rs. AllDiffer (map (name_at (rows_alone rs)) (numbers_from c.len-first.result (length ks)))) (sym c.in-Ok.ensures)
    (subst (λ f. AllDiffer (map (name_at (rows_alone (ms ++ copies_of ms c.args.shape ks))) (numbers_from f (length ks))))
    (length-map c.args.rows.items member_data ∙ first) (names_differ ms c.args.shape ks c.requires.members c.requires.names))

pub with_row-requires-clause-json_names : goal.with_row-requires-clause-json_names
with_row-requires-clause-json_names c =
    let ms = map member_data c.args.rows.items in
    let ks = c.args.members.now in
    let first : length c.args.rows.items ≡ c.len-first.result = search rules in
    subst (λ rs. AllDiffer (map (json_name_at (rows_alone rs)) (numbers_from c.len-first.result (length ks)))) (sym c.in-Ok.ensures)
    (subst (λ f. AllDiffer (map (json_name_at (rows_alone (ms ++ copies_of ms c.args.shape ks))) (numbers_from f (length ks))))
    (length-map c.args.rows.items member_data ∙ first) (json_names_differ ms c.args.shape ks c.requires.members c.requires.json_names))

pub with_row-requires-clause-within : goal.with_row-requires-clause-within
with_row-requires-clause-within c =
    let ms = map member_data c.args.rows.items in
    let ks = c.args.members.now in
    let first : length c.args.rows.items ≡ c.len-first.result = search rules in
    let many = ap length c.in-Ok.ensures in
    let all = length-map c.in-Ok.all.items member_data in
    let ends = length-append ms (copies_of ms c.args.shape ks) in
    let copies = copies_long ms c.args.shape ks c.requires.members in
    let rows = length-map c.args.rows.items member_data in omega (arith, first, many, all, ends, copies, rows)

pub returns-in-Ok : goal.returns-in-Ok
returns-in-Ok c =
    let ks = c.args.members.now in
    let first : length c.args.rows.items ≡ c.len-first.result = search rules in
    IfOk-weaker c.with_row.result _ _
    (λ all h. record {
      members = ap (map member_data) h.0 ∙ c.in-Ok.ensures;
      is = subst (λ xs. IsExcerptRow (map member_data xs) (length (map member_data c.args.rows.items)) (length ks) (shape_data all.row))
          (sym h.0)
          (subst (λ f. IsExcerptRow (map member_data c.in-Ok.all.items) f (length ks) (shape_data all.row))
          (sym (length-map c.args.rows.items member_data ∙ first)) h.1);
    }) c.with_row.ensures
