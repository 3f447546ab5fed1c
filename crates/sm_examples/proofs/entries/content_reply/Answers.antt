use Rattle.std.proofs.Common.{◌<◌, ◌∙◌, ap, codes, subst, sym}
use Rattle.std.specs.Option.{option_map}
use Rattle.sm_tree.specs.View.{node_of}
use Rattle.sm_shapes.specs.TableData.{shape_count}
use Rattle.sm_shapes.specs.ValueView.{val_of}
use Rattle.sm_compile.specs.TraitNodes.{field_of}
use Rattle.sm_messages.specs.service.ServiceView.{service_data}
use Rattle.sm_messages.specs.Goals.{goal_of, the_error}
use Rattle.sm_messages.proofs.TreeBodies.{goal_structure}
use Rattle.sm_examples.specs.Entries.{reply_with}
use Rattle.sm_examples.proofs.EntriesRead.{field_read}
use Rattle.sm_examples.proofs.entries.content_reply.Goals as goal

pub field_value-requires-clause-shape : goal.field_value-requires-clause-shape
field_value-requires-clause-shape g c =
    let s = service_data c.args.service.now in
    subst (λ e. e.shape < shape_count s.table) (sym c.error_at.ensures)
    (goal_structure s (goal_of c.args.operation (the_error c.args.place)) c.requires.servable c.requires.goal).0

pub returns-in-Some-clause-reply : goal.returns-in-Some-clause-reply
returns-in-Some-clause-reply g c =
    let role = the_error c.args.place in
    let read = field_read (service_data c.args.service.now) g.P.Patterns.test c.args.operation role c.error_at.result.now.shape _
    (field_of (codes "content") (node_of c.args.error.now)) (option_map val_of c.in_ok-content.content) (ap (λ e. e.shape) c.error_at.ensures)
    c.field_of.ensures c.in_ok-content.ensures.value in
    ap (λ x. reply_with role (option_map val_of x)) (sym c.in-Some.is) ∙ ap (reply_with role) read

pub returns-in-None-clause-reply : goal.returns-in-None-clause-reply
returns-in-None-clause-reply g c =
    let role = the_error c.args.place in
    let read = field_read (service_data c.args.service.now) g.P.Patterns.test c.args.operation role c.error_at.result.now.shape _
    (field_of (codes "content") (node_of c.args.error.now)) (option_map val_of c.in_ok-content.content) (ap (λ e. e.shape) c.error_at.ensures)
    c.field_of.ensures c.in_ok-content.ensures.value in
    ap (λ x. reply_with role (option_map val_of x)) (sym c.in-None.is) ∙ ap (reply_with role) read
