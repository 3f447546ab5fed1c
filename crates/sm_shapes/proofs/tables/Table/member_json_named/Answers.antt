use Rattle.std.proofs.Common.{sym, subst, rules}
use Rattle.std.specs.Ordering.{nat_cmp}
use Rattle.std.specs.Cmp.Lexicographic.{slice_cmp}
use Rattle.std.proofs.lemmas.Fn.{always_returns_same}
use Rattle.sm_shapes.specs.TableData.{json_name_at, members_at}
use Rattle.sm_shapes.specs.TableView.{table_data}
use Rattle.sm_shapes.specs.InOrder.{AreByName}
use Rattle.sm_shapes.proofs.NamedMembers.{searchable, found_there, found_nowhere}
use Rattle.sm_shapes.proofs.tables.Table.member_json_named.Goals as goal

pub returns-in-Ok : goal.returns-in-Ok
returns-in-Ok c =
    let name = json_name_at (table_data c.args.self.now) in
    let members = members_at (table_data c.args.self.now) c.args.shape in
    let numbers = c.by_json_name-numbers.result.now in
    let q = c.args.name.now in
    let order = subst (λ ks. AreByName name members ks) (sym c.by_json_name-numbers.ensures)
    (c.requires.shaped.by_json_name c.args.shape c.requires.number) in
    let held = c.in-Ok.ensures.position (λ k. slice_cmp nat_cmp (name k) q) (always_returns_same _ _ _ (λ a r g called. search rules)) in
    sym (found_there name numbers order.1 members q c.in-Ok.place order.0 (c.requires.shaped.json_names c.args.shape c.requires.number)
    c.in-Ok.ensures.bound held)

pub returns-in-Err : goal.returns-in-Err
returns-in-Err c =
    let name = json_name_at (table_data c.args.self.now) in
    let members = members_at (table_data c.args.self.now) c.args.shape in
    let numbers = c.by_json_name-numbers.result.now in
    let q = c.args.name.now in
    let order = subst (λ ks. AreByName name members ks) (sym c.by_json_name-numbers.ensures)
    (c.requires.shaped.by_json_name c.args.shape c.requires.number) in
    let parted = c.in-Err.ensures.position (λ k. slice_cmp nat_cmp (name k) q) (always_returns_same _ _ _ (λ a r g called. search rules)) in
    sym (found_nowhere name numbers order.1 members q c.in-Err.field-0 order.0 (parted (searchable name numbers order.1 q)))
