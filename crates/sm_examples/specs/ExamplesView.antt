-- The list that examples of the code stand for.
use Rattle.std.specs.Prelude.{List, map}
use Rattle.sm_examples.specs.ExampleData.{ExampleData}
use Rattle.sm_examples.specs.ExampleView.{example_data}
use Rattle.sm_examples.specs.declared.examples.Examples.{Examples}

abbrev pub examples_view : Examples → List ExampleData
examples_view es = map example_data es.examples.items
