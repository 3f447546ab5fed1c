-- What the words of files that are accepted, and of files that are refused, say of each other.
use Rattle.std.specs.Prelude.{◌≡◌, List, Err}
use Rattle.sm_model.specs.Graphs.{GraphMaps}
use Rattle.sm_load.specs.Loading.{AreAccepted, LoadsTo}
use Rattle.sm_load.specs.ModelFiles.{FileGiven}
use Rattle.sm_load.specs.declared.model.LoadRefusal.{LoadRefusal}
use Rattle.sm_load.specs.declared.model.LoadRefusal.TheVariants.{NoMemory}

-- files are accepted as one graph at most
abbrev pub AcceptedAsOne : Type 0
AcceptedAsOne = (files : List FileGiven) (g h : GraphMaps) → AreAccepted files g → AreAccepted files h → Path GraphMaps g h

-- and those that are accepted have none of the reasons for which files are refused
abbrev pub AcceptedNotRefused : Type 0
AcceptedNotRefused =
    (files : List FileGiven) (g : GraphMaps) (refusal : LoadRefusal) → AreAccepted files g → LoadsTo files (Err refusal)
    → (refusal ≡ NoMemory → ⊥) → ⊥
