use Rattle.std.proofs.Common.{length, sym, ap, ◌∙◌}
use Rattle.std.proofs.lemmas.List.{length-map}
use Rattle.sm_shapes.specs.Broken.{first_broken, broken, length_broken}
use Rattle.sm_shapes.specs.ConstraintView.{constraint_data}
use Rattle.sm_shapes.specs.Fitting.{finder}
use Rattle.sm_shapes.specs.TableView.{table_data}
use Rattle.sm_shapes.specs.ValueView.{val_of, items_view, entries_view}
use Rattle.sm_shapes.proofs.FirstBroken.{each_of, keys_of_entries}
use Rattle.sm_shapes.proofs.ValueViews.{list_value, map_value}
use Rattle.sm_shapes.proofs.constraints.Constraints.judge.Goals as goal

pub returns-in-List-clause-first : goal.returns-in-List-clause-first
returns-in-List-clause-first g c =
    let finds = finder (table_data c.args.table.now) g.P.Patterns.test in
    let cd = constraint_data c.args.self.now in
    let parts = c.in-List.items in
    let slice = c.as_slice-in-List.result.now in
    let count = each_of (items_view parts) ∙ ap (λ xs. length xs) (sym c.as_slice-in-List.ensures) ∙ length-map slice val_of in
    c.judge_length-in-List.ensures ∙ ap (λ n. first_broken (length_broken cd n)) (sym count)
    ∙ sym (ap (λ v. first_broken (broken finds c.args.kind cd v)) (ap val_of c.in-List.is ∙ list_value parts))

pub returns-in-Map-clause-first : goal.returns-in-Map-clause-first
returns-in-Map-clause-first g c =
    let finds = finder (table_data c.args.table.now) g.P.Patterns.test in
    let cd = constraint_data c.args.self.now in
    let parts = c.in-Map.entries in
    let slice = c.as_slice-in-Map.result.now in
    let count = keys_of_entries (entries_view parts) ∙ ap (λ xs. length xs) (sym c.as_slice-in-Map.ensures)
    ∙ length-map slice (λ e. (e.0, val_of e.1)) in
    c.judge_length-in-Map.ensures ∙ ap (λ n. first_broken (length_broken cd n)) (sym count)
    ∙ sym (ap (λ v. first_broken (broken finds c.args.kind cd v)) (ap val_of c.in-Map.is ∙ map_value parts))
