-- Laws over the definitions, each the contract of a function of the module `laws`.
use Rattle.std.specs.Prelude.{List}
use Rattle.sm_model.specs.FormedGraph.{IsFormedGraph}
use Rattle.sm_model.specs.Graphs.{GraphMaps}
use Rattle.sm_load.specs.Loading.{AreAccepted}
use Rattle.sm_load.specs.ModelFiles.{FileGiven}
use Rattle.sm_transform.specs.Renamed.{HasTraitIds}

-- the graph of a model that is accepted may be changed
abbrev pub AcceptedMayChange : Type 0
AcceptedMayChange = (files : List FileGiven) (g : GraphMaps) → AreAccepted files g → IsFormedGraph g × HasTraitIds g
