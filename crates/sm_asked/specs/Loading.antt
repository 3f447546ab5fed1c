-- What the model files of a command come to: a model, or an answer. The decisions stand in their order: the number of files, their
-- lengths; and what loading them decides: file by file its text, the limits on the size of the graph, what rejects the model.
use Rattle.std.specs.Prelude.{◌≡◌, ◌<◌, ◌≤◌, ℕ, List, [], Option, Result, Ok, Err, length, map, get_or}
use Rattle.sm_io.specs.Causes.{Rose}
use Rattle.sm_io.specs.Files.{Folder}
use Rattle.sm_io.specs.Seen.{FilesSeen}
use Rattle.sm_model.specs.Graphs.{GraphMaps}
use Rattle.sm_model.specs.GraphView.{maps_of}
use Rattle.sm_load.specs.Events.{AreModelEvents}
use Rattle.sm_load.specs.Loading.{AreAccepted, LoadsTo}
use Rattle.sm_load.specs.declared.model.Model.{Model}
use Rattle.sm_load.specs.ModelFiles.{FileGiven}
use Rattle.sm_load.specs.declared.model.LoadRefusal.{LoadRefusal}
use Rattle.sm_load.specs.declared.model.LoadRefusal.TheVariants.{Text, Limit, Rejected, NoMemory}
use Rattle.sm_asked.specs.Answer.{Answer, refused, past}
use Rattle.sm_asked.specs.Comes.{StepStops}
use Rattle.sm_asked.specs.declared.stop.CommandStop.{CommandStop}
use Rattle.sm_asked.specs.IdlLines.{text_line}
use Rattle.sm_asked.specs.declared.lines.Shown.{Shown}
use Rattle.sm_asked.specs.Limits.{files_limit}
use Rattle.sm_asked.specs.Lines.{event_lines, files_limit_line, size_limit_line}
use Rattle.sm_asked.specs.ModelFiles.{AreRead, PassesOne}

-- all files are read
pub record FilesRead (files : Option Folder) (names : List (List ℕ)) : Type 0 where
  pub few : length names ≤ files_limit
  pub read : List FileGiven
  pub are_read : AreRead files 0 names read

-- and are accepted, as this graph
pub record Loaded (files : Option Folder) (names : List (List ℕ)) : Type 0 where
  pub texts : FilesRead files names
  pub graph : GraphMaps
  pub accepted : AreAccepted texts.read graph

-- the name of the file of a number
abbrev pub name_at : List FileGiven → ℕ → List ℕ
name_at read number = get_or (map (λ f. f.name) read) number []

-- what is printed where loading refuses: the line of the first file that says no statements, of a limit, or those of the events that
-- the command shows
abbrev pub refusal_answer : Shown → List FileGiven → LoadRefusal → Answer
refusal_answer shown read (Text number place) = refused (text_line (name_at read number) place)
refusal_answer shown read (Limit kind) = past (size_limit_line kind)
refusal_answer shown read (Rejected es) = refused (event_lines shown es)
refusal_answer shown read NoMemory = refused []

-- loading refuses these files, and that memory ran out isn't why
pub record AreRefused (read : List FileGiven) (refusal : LoadRefusal) : Type 0 where
  pub loads : LoadsTo read (Err refusal)
  pub told : refusal ≡ NoMemory → ⊥

-- the answers that stand before a model, in this order
pub data LoadAnswers (shown : Shown) (files : Option Folder) (names : List (List ℕ)) (a : Answer) : Type 0 where
  many_files : files_limit < length names → a ≡ past files_limit_line → LoadAnswers shown files names a
  long_files : length names ≤ files_limit → PassesOne files 0 names a → LoadAnswers shown files names a
  not_loaded : (texts : FilesRead files names) → (refusal : LoadRefusal) → AreRefused texts.read refusal
      → a ≡ refusal_answer shown texts.read refusal → LoadAnswers shown files names a

-- the model of the files of these names, or the answer before it
abbrev pub Loads : Shown → FilesSeen → FilesSeen → List (List ℕ) → Result Model CommandStop → Type 0
Loads shown files files1 names (Ok m) =
    (loaded : Loaded files.held names) × (maps_of m.graph ≡ loaded.graph) × AreModelEvents (maps_of m.graph) m.events
Loads shown files files1 names (Err stop) =
    StepStops (LoadAnswers shown files.held names) (Rose files.read_faults files1.read_faults) (Unit {0}) stop
