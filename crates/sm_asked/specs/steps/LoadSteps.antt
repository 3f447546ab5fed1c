-- What the steps of loading model files come to.
use Rattle.std.specs.Prelude.{◌≡◌, ℕ, List, Result, Ok, Err}
use Rattle.std.specs.Global.{Vec}
use Rattle.sm_io.specs.Causes.{Rose}
use Rattle.sm_io.specs.Seen.{FilesSeen}
use Rattle.sm_load.specs.Loading.{LoadsTo}
use Rattle.sm_load.specs.ModelFiles.{FileGiven, given_files}
use Rattle.sm_load.specs.declared.model.LoadRefusal.{LoadRefusal}
use Rattle.sm_load.specs.declared.model.LoadRefusal.TheVariants.{Text, Limit, Rejected, NoMemory}
use Rattle.sm_load.specs.declared.model.Model.{Model}
use Rattle.sm_load.specs.declared.model.ModelFile.{ModelFile}
use Rattle.sm_asked.specs.Answer.{Answer}
use Rattle.sm_asked.specs.Loading.{AreRefused, name_at, refusal_answer}
use Rattle.sm_asked.specs.ModelFiles.{AreRead, PassesOne}
use Rattle.sm_asked.specs.Comes.{StepStops}
use Rattle.sm_asked.specs.declared.lines.Shown.{Shown}
use Rattle.sm_asked.specs.declared.stop.CommandStop.{CommandStop}

-- the files are read, or a limit is passed
abbrev pub ReadsModels : FilesSeen → FilesSeen → List (List ℕ) → Result (Vec ModelFile) CommandStop → Type 0
ReadsModels files files1 names (Ok read) = AreRead files.held 0 names (given_files read.items)
ReadsModels files files1 names (Err stop) =
    StepStops (PassesOne files.held 0 names) (Rose files.read_faults files1.read_faults) (Unit {0}) stop

-- the name is that of the file of which the refusal speaks, where it speaks of one
abbrev pub NamesFirst : List FileGiven → LoadRefusal → List ℕ → Type 0
NamesFirst read (Text number place) name = name ≡ name_at read number
NamesFirst read (Limit kind) name = Unit {0}
NamesFirst read (Rejected es) name = Unit {0}
NamesFirst read NoMemory name = Unit {0}

-- files that were read load to a model, or to an answer
abbrev pub TextsAnswer : Shown → List FileGiven → Answer → Type 0
TextsAnswer shown read a = (refusal : LoadRefusal) × AreRefused read refusal × (a ≡ refusal_answer shown read refusal)

abbrev pub StopsLoad : Shown → List FileGiven → CommandStop → Type 0
StopsLoad shown read stop = StepStops (TextsAnswer shown read) ⊥ (Unit {0}) stop

abbrev pub LoadsModel : Shown → List FileGiven → Result Model CommandStop → Type 0
LoadsModel shown read (Ok m) = LoadsTo read (Ok m)
LoadsModel shown read (Err stop) = StopsLoad shown read stop
