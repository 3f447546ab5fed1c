use Rattle.std.proofs.Common.{map}
use Rattle.sm_examples.specs.ExampleView.{example_data}
use Rattle.sm_examples.proofs.ExamplesAt.{both_past, both_there, first_alone, got, got_none, second_alone}
use Rattle.sm_examples.proofs.order.order_at.Goals as goal

pub returns-in-Some-get : goal.returns-in-Some-get
returns-in-Some-get c =
    let es = c.args.examples.now in
    let x = c.in-Some.first.now in
    let y = c.in-Some-get.second.now in
    both_there (map example_data es) c.args.a c.args.b (example_data x) (example_data y) c.then_by_place.result c.order_to-order.result
    (got es c.args.a x c.in-Some.ensures.lookup.0 c.in-Some.ensures.lookup.1)
    (got es c.args.b y c.in-Some-get.ensures.lookup.0 c.in-Some-get.ensures.lookup.1) c.order_to-order.ensures c.then_by_place.ensures

pub returns-in-None-get : goal.returns-in-None-get
returns-in-None-get c =
    let es = c.args.examples.now in
    let x = c.in-Some.first.now in
    first_alone (map example_data es) c.args.a c.args.b (example_data x)
    (got es c.args.a x c.in-Some.ensures.lookup.0 c.in-Some.ensures.lookup.1) (got_none es c.args.b c.in-None-get.ensures.lookup.0)

pub returns-in-Some-get-2 : goal.returns-in-Some-get-2
returns-in-Some-get-2 c =
    let es = c.args.examples.now in
    let y = c.in-Some-get-2.field-0.now in
    second_alone (map example_data es) c.args.a c.args.b (example_data y) (got_none es c.args.a c.in-None.ensures.lookup.0)
    (got es c.args.b y c.in-Some-get-2.ensures.lookup.0 c.in-Some-get-2.ensures.lookup.1)

pub returns-in-None-get-2 : goal.returns-in-None-get-2
returns-in-None-get-2 c =
    let es = c.args.examples.now in
    both_past (map example_data es) c.args.a c.args.b c.cmp.result (got_none es c.args.a c.in-None.ensures.lookup.0)
    (got_none es c.args.b c.in-None-get-2.ensures.lookup.0) c.cmp.ensures
