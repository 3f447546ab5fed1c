-- A table whose defaults are filled is in order as it was, and its defaults pass their patterns.
use Rattle.sm_shapes.specs.TableData.{TableData}
use Rattle.sm_shapes.specs.DefaultPuts.{HasNoDefault}
use Rattle.sm_shapes.specs.InOrder.{Shaped, DefaultsPass}
use Rattle.sm_shapes.specs.Fitting.{Test}
use Rattle.sm_codec.specs.Defaults.{filled}

pub record IsFilled (t : TableData) (test : Test) : Type 0 where
  pub shaped : Shaped t
  pub pass : DefaultsPass t test

abbrev pub FilledIsShaped : Type 0
FilledIsShaped = (t : TableData) (test : Test) → Shaped t → HasNoDefault t → IsFilled (filled t test) test
