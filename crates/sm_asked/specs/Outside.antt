-- What a command sees of the outside at one moment: what it reads, and its output.
use Rattle.sm_io.specs.Seen.{FilesSeen, Stream}
use Rattle.sm_shapes.specs.Fitting.{Test}
use Rattle.sm_compile.specs.Answers.{StoreSeen}

-- what it reads: its files, its input, and its store of patterns with the one test of the store's type
pub record InputsSeen : Type 0 where
  pub files : FilesSeen
  pub input : Stream
  pub test : Test
  pub store : StoreSeen

pub record Outside : Type 0 where
  pub inputs : InputsSeen
  pub output : Stream

abbrev pub inputs_seen : FilesSeen → Stream → Test → StoreSeen → InputsSeen
inputs_seen files input test store = record { files = files; input = input; test = test; store = store }

abbrev pub outside : InputsSeen → Stream → Outside
outside inputs output = record { inputs = inputs; output = output }
