use Rattle.std.proofs.Common.{◌≡◌, ap, codes, subst, sym}
use Rattle.std.specs.Prelude.{IfOk}
use Rattle.std.specs.Option.{option_map}
use Rattle.sm_tree.specs.View.{node_of}
use Rattle.sm_compile.specs.TraitNodes.{field_of, text_of}
use Rattle.sm_messages.specs.service.ServiceView.{service_data}
use Rattle.sm_examples.specs.Entries.{content_said}
use Rattle.sm_examples.specs.ExampleView.{reply_data}
use Rattle.sm_examples.proofs.EntriesRead.{told_within}
use Rattle.sm_examples.proofs.entries.error_reply.Goals as goal

pub content_reply-requires-clause-goal : goal.content_reply-requires-clause-goal
content_reply-requires-clause-goal g c = (
  c.requires.number,
  told_within (service_data c.args.service.now) g.P.Patterns.test c.requires.servable c.requires.built.defaults c.args.operation
      c.requires.number (text_of (field_of (codes "shapeId") (node_of c.args.error.now))) c.in-Some.place (sym c.in-Some.ensures),
)

pub returns-in-Some-clause-reply : goal.returns-in-Some-clause-reply
returns-in-Some-clause-reply g c =
    subst (λ x. IfOk c.content_reply.result (λ reply. option_map reply_data reply
    ≡ content_said (service_data c.args.service.now) g.P.Patterns.test c.args.operation (node_of c.args.error.now) x)) c.in-Some.ensures
    c.content_reply.ensures.reply

pub returns-in-None-clause-reply : goal.returns-in-None-clause-reply
returns-in-None-clause-reply g c =
    ap (content_said (service_data c.args.service.now) g.P.Patterns.test c.args.operation (node_of c.args.error.now)) c.in-None.ensures
