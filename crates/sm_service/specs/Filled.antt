-- The service of a graph with the defaults that count in its table, as calls on messages are given it.
use Rattle.std.specs.Prelude.{ℕ, List}
use Rattle.sm_model.specs.Graphs.{GraphMaps}
use Rattle.sm_shapes.specs.Fitting.{Test}
use Rattle.sm_shapes.specs.TableData.{TableData}
use Rattle.sm_codec.specs.Defaults.{filled}
use Rattle.sm_service.specs.Compiled.{IsServiceOf}
use Rattle.sm_service.specs.ServiceData.{ServiceData}

-- the service over another table
abbrev pub over_table : ServiceData → TableData → ServiceData
over_table s t = record s { table = t }

-- all but its table is what was compiled
pub record IsFilledServiceOf (g : GraphMaps) (id : List ℕ) (test : Test) (s : ServiceData) : Type 0 where
  pub made : ServiceData
  pub of_graph : IsServiceOf g id made
  pub is : Path ServiceData s (over_table made (filled made.table test))
