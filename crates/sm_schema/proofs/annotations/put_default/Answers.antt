use Rattle.std.proofs.Common.{codes, ap, sym, ◌∙◌}
use Rattle.std.specs.Option.{option_map}
use Rattle.sm_tree.specs.View.{members_view}
use Rattle.sm_shapes.specs.TableData.{default_in}
use Rattle.sm_shapes.specs.TableView.{table_data}
use Rattle.sm_shapes.specs.ValueView.{val_of}
use Rattle.sm_schema.specs.Noted.{default_spelled, with_tree}
use Rattle.sm_schema.specs.steps.Joined.{joined}
use Rattle.sm_schema.specs.steps.Numbered.{listing}
use Rattle.sm_schema.proofs.OkParts.{on_ok}
use Rattle.sm_schema.proofs.annotations.put_default.Goals as goal

pub returns-in-Ok : goal.returns-in-Ok
returns-in-Ok c =
    on_ok c.put_where.result (λ says ps more.
    let d = listing (table_data c.args.table.now) c.args.json_names ps in
    says more ∙ ap (λ o. joined (members_view c.args.pairs.now.pairs.items) (with_tree (codes "default") o more))
    (c.in-Ok.ensures ps ∙ ap (default_spelled d c.args.member) (sym (ap default_in c.member.ensures ∙ ap (option_map val_of) c.in-Some.is))))
    c.put_where.ensures
