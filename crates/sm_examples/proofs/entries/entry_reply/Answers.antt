use Rattle.std.proofs.Common.{◌≡◌, subst}
use Rattle.std.specs.Prelude.{IfOk}
use Rattle.std.specs.Option.{option_map}
use Rattle.sm_tree.specs.View.{node_of}
use Rattle.sm_messages.specs.service.ServiceView.{service_data}
use Rattle.sm_examples.specs.Entries.{reply_said}
use Rattle.sm_examples.specs.ExampleView.{reply_data}
use Rattle.sm_examples.proofs.entries.entry_reply.Goals as goal

pub returns-in-Some-clause-reply : goal.returns-in-Some-clause-reply
returns-in-Some-clause-reply g c =
    subst (λ x. IfOk c.error_reply.result (λ reply. option_map reply_data reply
    ≡ reply_said (service_data c.args.service.now) g.P.Patterns.test c.args.operation (node_of c.args.entry.now) x)) c.in-Some.ensures
    c.error_reply.ensures.reply

pub returns-in-None-clause-reply : goal.returns-in-None-clause-reply
returns-in-None-clause-reply g c =
    subst (λ x. IfOk c.output_reply.result (λ reply. option_map reply_data reply
    ≡ reply_said (service_data c.args.service.now) g.P.Patterns.test c.args.operation (node_of c.args.entry.now) x)) c.in-None.ensures
    c.output_reply.ensures.reply
