use Rattle.std.proofs.Common.{◌<◌, ◌∙◌, ap, codes, subst, sym}
use Rattle.std.specs.Option.{option_map}
use Rattle.sm_tree.specs.View.{node_of}
use Rattle.sm_shapes.specs.TableData.{shape_count}
use Rattle.sm_shapes.specs.ValueView.{val_of}
use Rattle.sm_compile.specs.TraitNodes.{field_of}
use Rattle.sm_messages.specs.service.ServiceView.{service_data}
use Rattle.sm_messages.specs.Goals.{goal_of, the_output}
use Rattle.sm_messages.proofs.TreeBodies.{goal_structure}
use Rattle.sm_examples.specs.Entries.{reply_with}
use Rattle.sm_examples.proofs.EntriesRead.{field_read}
use Rattle.sm_examples.proofs.entries.output_reply.Goals as goal

pub field_value-requires-clause-shape : goal.field_value-requires-clause-shape
field_value-requires-clause-shape g c =
    let s = service_data c.args.service.now in
    subst (λ k. k < shape_count s.table) (sym c.output_shape-shape.ensures)
    (goal_structure s (goal_of c.args.operation the_output) c.requires.servable (c.requires.number, tt)).0

pub returns-in-Some-clause-reply : goal.returns-in-Some-clause-reply
returns-in-Some-clause-reply g c =
    let read = field_read (service_data c.args.service.now) g.P.Patterns.test c.args.operation the_output c.output_shape-shape.result _
    (field_of (codes "output") (node_of c.args.entry.now)) (option_map val_of c.in_ok-output.output) c.output_shape-shape.ensures
    c.field_of.ensures c.in_ok-output.ensures.value in
    ap (λ x. reply_with the_output (option_map val_of x)) (sym c.in-Some.is) ∙ ap (reply_with the_output) read

pub returns-in-None-clause-reply : goal.returns-in-None-clause-reply
returns-in-None-clause-reply g c =
    let read = field_read (service_data c.args.service.now) g.P.Patterns.test c.args.operation the_output c.output_shape-shape.result _
    (field_of (codes "output") (node_of c.args.entry.now)) (option_map val_of c.in_ok-output.output) c.output_shape-shape.ensures
    c.field_of.ensures c.in_ok-output.ensures.value in
    ap (λ x. reply_with the_output (option_map val_of x)) (sym c.in-None.is) ∙ ap (reply_with the_output) read
