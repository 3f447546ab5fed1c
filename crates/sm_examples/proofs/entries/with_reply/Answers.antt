use Rattle.std.proofs.Common.{◌∙◌, Some, ap, sym}
use Rattle.std.specs.Option.{option_map}
use Rattle.sm_shapes.specs.ValueView.{val_of}
use Rattle.sm_examples.specs.Entries.{example_with}
use Rattle.sm_examples.specs.ExampleView.{reply_data}
use Rattle.sm_examples.proofs.entries.with_reply.Goals as goal

pub returns-in-Some-clause-example : goal.returns-in-Some-clause-example
returns-in-Some-clause-example g c =
    let v = val_of c.args.input in
    ap (λ x. example_with c.args.operation (Some v) (option_map reply_data x)) (sym c.in-Some.is)
    ∙ ap (example_with c.args.operation (Some v)) c.in_ok-told.ensures.reply

pub returns-in-None-clause-example : goal.returns-in-None-clause-example
returns-in-None-clause-example g c =
    let v = val_of c.args.input in
    ap (λ x. example_with c.args.operation (Some v) (option_map reply_data x)) (sym c.in-None.is)
    ∙ ap (example_with c.args.operation (Some v)) c.in_ok-told.ensures.reply
