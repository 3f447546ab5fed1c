use Rattle.std.proofs.Common.{◌<◌, ◌≡◌, ◌∙◌, ap, codes, subst, sym}
use Rattle.std.specs.Prelude.{IfOk}
use Rattle.std.specs.Option.{option_map}
use Rattle.sm_tree.specs.View.{node_of}
use Rattle.sm_shapes.specs.TableData.{shape_count}
use Rattle.sm_shapes.specs.ValueView.{val_of}
use Rattle.sm_compile.specs.TraitNodes.{field_of}
use Rattle.sm_messages.specs.service.ServiceView.{service_data}
use Rattle.sm_messages.specs.Goals.{goal_of, the_input}
use Rattle.sm_messages.proofs.TreeBodies.{goal_structure}
use Rattle.sm_examples.specs.Entries.{example_with, reply_said}
use Rattle.sm_examples.specs.ExampleView.{example_data}
use Rattle.sm_examples.proofs.EntriesRead.{field_read}
use Rattle.sm_examples.proofs.entries.object_example.Goals as goal

pub field_value-requires-clause-shape : goal.field_value-requires-clause-shape
field_value-requires-clause-shape g c =
    let s = service_data c.args.service.now in
    subst (λ k. k < shape_count s.table) (sym c.input_shape-shape.ensures)
    (goal_structure s (goal_of c.args.operation the_input) c.requires.servable (c.requires.number, tt)).0

pub returns-in-Some-clause-example : goal.returns-in-Some-clause-example
returns-in-Some-clause-example g c =
    let s = service_data c.args.service.now in
    let test = g.P.Patterns.test in
    let o = c.args.operation in
    let entry = node_of c.args.entry.now in
    let reply = reply_said s test o entry (field_of (codes "error") entry) in
    let read = field_read s test o the_input c.input_shape-shape.result _ (field_of (codes "input") entry)
    (option_map val_of c.in_ok-told.told) c.input_shape-shape.ensures c.field_of.ensures c.in_ok-told.ensures.value in
    subst (λ x. IfOk c.with_reply.result (λ e. option_map example_data e ≡ example_with o x reply))
    (ap (option_map val_of) (sym c.in-Some.is) ∙ read) c.with_reply.ensures.example

pub returns-in-None-clause-example : goal.returns-in-None-clause-example
returns-in-None-clause-example g c =
    let s = service_data c.args.service.now in
    let test = g.P.Patterns.test in
    let o = c.args.operation in
    let entry = node_of c.args.entry.now in
    let reply = reply_said s test o entry (field_of (codes "error") entry) in
    let read = field_read s test o the_input c.input_shape-shape.result _ (field_of (codes "input") entry)
    (option_map val_of c.in_ok-told.told) c.input_shape-shape.ensures c.field_of.ensures c.in_ok-told.ensures.value in
    ap (λ x. example_with o x reply) (ap (option_map val_of) (sym c.in-None.is) ∙ read)
