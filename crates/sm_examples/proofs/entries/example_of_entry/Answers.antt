use Rattle.std.proofs.Common.{◌≡◌, ◌∙◌, None, ap, codes, cond, subst, sym}
use Rattle.std.specs.Prelude.{IfOk}
use Rattle.std.specs.Option.{option_map}
use Rattle.sm_tree.specs.View.{node_of}
use Rattle.sm_compile.specs.TraitNodes.{field_of}
use Rattle.sm_messages.specs.service.ServiceView.{service_data}
use Rattle.sm_messages.specs.Goals.{the_input}
use Rattle.sm_examples.specs.Entries.{example_with, field_value, reply_said}
use Rattle.sm_examples.specs.ExampleView.{example_data}
use Rattle.sm_examples.proofs.entries.example_of_entry.Goals as goal

pub returns-then-is_object-clause-example : goal.returns-then-is_object-clause-example
returns-then-is_object-clause-example g c =
    let s = service_data c.args.service.now in
    let test = g.P.Patterns.test in
    let o = c.args.operation in
    let entry = node_of c.args.entry.now in
    let said = example_with o (field_value s test o the_input (field_of (codes "input") entry))
    (reply_said s test o entry (field_of (codes "error") entry)) in
    subst (λ b. IfOk c.object_example.result (λ e. option_map example_data e ≡ cond b said None))
    (sym c.if-is_object.true ∙ c.is_object.ensures) c.object_example.ensures.example

pub returns-else-is_object-clause-example : goal.returns-else-is_object-clause-example
returns-else-is_object-clause-example g c =
    let s = service_data c.args.service.now in
    let test = g.P.Patterns.test in
    let o = c.args.operation in
    let entry = node_of c.args.entry.now in
    let said = example_with o (field_value s test o the_input (field_of (codes "input") entry))
    (reply_said s test o entry (field_of (codes "error") entry)) in
    ap (λ b. cond b said None) (sym c.if-is_object.false ∙ c.is_object.ensures)
