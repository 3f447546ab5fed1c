use Rattle.std.proofs.Common.{map}
use Rattle.sm_shapes.specs.ValueView.{val_of}
use Rattle.sm_examples.specs.ExampleView.{example_data}
use Rattle.sm_examples.proofs.ExamplesAt.{got, got_none, past_before, stands_before}
use Rattle.sm_examples.proofs.order.comes_before.Goals as goal

pub returns-in-Some : goal.returns-in-Some
returns-in-Some c =
    let es = c.args.examples.now in
    let e = c.in-Some.example.now in
    stands_before (map example_data es) c.args.place (example_data e) c.args.operation (val_of c.args.input.now) c.is_lt.result
    c.order_to.result (got es c.args.place e c.in-Some.ensures.lookup.0 c.in-Some.ensures.lookup.1) c.order_to.ensures c.is_lt.ensures

pub returns-in-None : goal.returns-in-None
returns-in-None c =
    let es = c.args.examples.now in
    past_before (map example_data es) c.args.place c.args.operation (val_of c.args.input.now)
    (got_none es c.args.place c.in-None.ensures.lookup.0)
