-- What the steps of loading model files come to, joined: the answers of src/files.rt and src/loading.rt cite it.
use Rattle.std.proofs.Common.{◌≡◌, ◌<◌, ◌≤◌, ◌+◌, ℕ, inl, inr, List, [], ◌∷◌, ◌++◌, Option, Some, Result, Ok, Err, length, map}
use Rattle.std.proofs.Common.{sym, ap, subst, refl}
use Rattle.std.proofs.Common.{◌∙◌, append_assoc, append-nil, arith}
use Rattle.sm_io.specs.Causes.{Rose}
use Rattle.sm_io.specs.Files.{Folder, Holds}
use Rattle.sm_io.specs.Seen.{FilesSeen}
use Rattle.sm_model.specs.GraphView.{maps_of}
use Rattle.sm_model.specs.declared.event.ModelEvent.{ModelEvent}
use Rattle.sm_merge.specs.declared.limit.LimitKind.{LimitKind}
use Rattle.sm_load.specs.Loading.{LoadsTo}
use Rattle.sm_load.specs.ModelFiles.{FileGiven, file_given}
use Rattle.sm_load.specs.declared.model.LoadRefusal.TheVariants.{Text, Limit, Rejected}
use Rattle.sm_load.specs.declared.model.Model.{Model}
use Rattle.sm_load.specs.declared.model.TextPlace.{TextPlace}
use Rattle.sm_asked.specs.Answer.{Answer, past, refused}
use Rattle.sm_asked.specs.IdlLines.{text_line}
use Rattle.sm_asked.specs.Limits.{files_limit, file_limit, bytes_limit}
use Rattle.sm_asked.specs.Lines.{bytes_limit_line, event_lines, files_limit_line, shown_line, size_limit_line}
use Rattle.sm_asked.specs.Loading.{FilesRead, LoadAnswers, name_at, Loads}
use Rattle.sm_asked.specs.Loading.LoadAnswers.{many_files, long_files, not_loaded}
use Rattle.sm_asked.specs.ModelFiles.{AreRead, PassesOne}
use Rattle.sm_asked.specs.Comes.{StepStops, EndsWithLine, EndsWithLimit}
use Rattle.sm_asked.specs.steps.FileSteps.{PassesLimit, OpensFile}
use Rattle.sm_asked.specs.steps.LoadSteps.{LoadsModel, StopsLoad, TextsAnswer}
use Rattle.sm_asked.specs.declared.lines.Shown.{Shown}
use Rattle.sm_asked.specs.declared.stop.CommandStop.{CommandStop}
use Rattle.sm_asked.proofs.Stops.{limit_stops, line_stops, stops_map}

pub all_long : (held : Option Folder) (total : ℕ) (names rest : List (List ℕ)) (name file : List ℕ) (Failed : Type 0) (stop : CommandStop)
    → ((a : Answer) → PassesOne held total (name ∷ rest) a → PassesOne held 0 names a) → Holds held name (Some file)
    → length file ≤ file_limit → bytes_limit < total + length file → EndsWithLimit bytes_limit_line stop
    → StepStops (PassesOne held 0 names) Failed (Unit {0}) stop
all_long held total names rest name file Failed stop passes holds within over ends =
    limit_stops (PassesOne held 0 names) Failed (Unit {0}) bytes_limit_line stop
    (passes (past bytes_limit_line) (inr (inl (record { bytes = file; held = holds; within = within }, over, refl)))) tt ends

pub reads_more : (held : Option Folder) (total : ℕ) (names rest : List (List ℕ)) (name file : List ℕ) (before after : List FileGiven)
    → ((more : List FileGiven) → AreRead held total (name ∷ rest) more → AreRead held 0 names (before ++ more))
    → after ≡ before ++ file_given name file ∷ [] → Holds held name (Some file) → length file ≤ file_limit
    → total + length file ≤ bytes_limit → (more : List FileGiven) → AreRead held (total + length file) rest more
    → AreRead held 0 names (after ++ more)
reads_more held total names rest name file before after reads put holds within few more later =
    let f : FileGiven = file_given name file in
    subst (AreRead held 0 names) (sym (ap (λ xs. xs ++ more) put ∙ append_assoc before (f ∷ []) more))
    (reads (f ∷ more) (record { bytes = file; held = holds; within = within }, more, refl, few, later))

pub one_passed : (held : Option Folder) (total : ℕ) (names rest : List (List ℕ)) (name file : List ℕ)
    → ((a : Answer) → PassesOne held total (name ∷ rest) a → PassesOne held 0 names a) → Holds held name (Some file)
    → length file ≤ file_limit → total + length file ≤ bytes_limit
    → (a : Answer) → PassesOne held (total + length file) rest a → PassesOne held 0 names a
one_passed held total names rest name file passes holds within few a later =
    passes a (inr (inr (record { bytes = file; held = holds; within = within }, few, later)))

pub all_read : (held : Option Folder) (total : ℕ) (names rest : List (List ℕ)) (read : List FileGiven) → rest ≡ []
    → ((more : List FileGiven) → AreRead held total rest more → AreRead held 0 names (read ++ more)) → AreRead held 0 names read
all_read held total names rest read e reads =
    subst (AreRead held 0 names) (append-nil read) (reads [] (subst (λ ns. AreRead held total ns []) (sym e) refl))

-- the names of files that were read
pub read_names : (held : Option Folder) (before : ℕ) (names : List (List ℕ)) (read : List FileGiven) → AreRead held before names read
    → map (λ f. f.name) read ≡ names
read_names held before [] read h = ap (map (λ f. f.name)) h
read_names held before (name ∷ names) read (file, more, e, within, later) =
    ap (map (λ f. f.name)) e ∙ ap (λ ns. name ∷ ns) (read_names held (before + length file.bytes) names more later)

-- files that load to no model
pub text_stops : (shown : Shown) (read : List FileGiven) (number : ℕ) (place : TextPlace) (name : List ℕ) (stop : CommandStop)
    → name ≡ name_at read number
    → LoadsTo read (Err (Text number place)) → EndsWithLine (text_line name place) stop → StopsLoad shown read stop
text_stops shown read number place name stop named h ends =
    line_stops (TextsAnswer shown read) ⊥ (Unit {0}) (text_line name place) stop
    (Text number place, record { loads = h; told = λ e. cc }, ap (λ n. refused (text_line n place)) named) tt ends

pub size_stops : (shown : Shown) (read : List FileGiven) (kind : LimitKind) (stop : CommandStop) → LoadsTo read (Err (Limit kind))
    → EndsWithLimit (size_limit_line kind) stop → StopsLoad shown read stop
size_stops shown read kind stop h ends =
    limit_stops (TextsAnswer shown read) ⊥ (Unit {0}) (size_limit_line kind) stop
    (Limit kind, record { loads = h; told = λ e. cc }, refl) tt ends

pub rejected_stops : (shown : Shown) (read : List FileGiven) (es : List ModelEvent) (stop : CommandStop) → LoadsTo read (Err (Rejected es))
    → EndsWithLine (event_lines shown es) stop → StopsLoad shown read stop
rejected_stops shown read es stop h ends =
    line_stops (TextsAnswer shown read) ⊥ (Unit {0}) (event_lines shown es) stop
    (Rejected es, record { loads = h; told = λ e. cc }, refl) tt ends

-- the files of a command
pub files_many : (shown : Shown) (files files1 : FilesSeen) (names : List (List ℕ)) (stop : CommandStop) → files_limit < length names
    → EndsWithLimit files_limit_line stop → Loads shown files files1 names (Err stop)
files_many shown files files1 names stop many ends =
    limit_stops (LoadAnswers shown files.held names) (Rose files.read_faults files1.read_faults) (Unit {0}) files_limit_line stop
    (many_files many refl) tt ends

pub model_loads : (shown : Shown) (files files1 : FilesSeen) (names : List (List ℕ)) (read : List FileGiven) (result : Result Model CommandStop)
    → length names ≤ files_limit → AreRead files.held 0 names read → LoadsModel shown read result → Loads shown files files1 names result
model_loads shown files files1 names read (Ok m) few are h = (
  record { texts = record { few = few; read = read; are_read = are }; graph = maps_of m.graph; accepted = h.accepted },
  refl,
  h.events,
)
model_loads shown files files1 names read (Err stop) few are h =
    stops_map (TextsAnswer shown read) (LoadAnswers shown files.held names) ⊥ (Rose files.read_faults files1.read_faults)
    (Unit {0}) (Unit {0}) stop
    (λ a says. not_loaded texts says.0 says.1 says.2) (λ never. absurd never) (λ short. short) h
  where
    texts : FilesRead files.held names
    texts = record { few = few; read = read; are_read = are }

-- lines of events, one more
pub events_more : (shown : Shown) (all here rest : List ModelEvent) (e : ModelEvent) (before after : List ℕ) → here ≡ e ∷ rest
    → after ≡ before ++ shown_line shown e → before ++ event_lines shown here ≡ event_lines shown all
    → after ++ event_lines shown rest ≡ event_lines shown all
events_more shown all here rest e before after parts put was =
    let lines : shown_line shown e ++ event_lines shown rest ≡ event_lines shown (e ∷ rest) = refl in
    ap (λ xs. xs ++ event_lines shown rest) put ∙ append_assoc before (shown_line shown e) (event_lines shown rest)
    ∙ ap (λ xs. before ++ xs) lines
    ∙ ap (λ es. before ++ event_lines shown es) (sym parts) ∙ was

-- one file by itself
pub one_read : (held : Option Folder) (name file : List ℕ) → Holds held name (Some file) → length file ≤ file_limit
    → AreRead held 0 (name ∷ []) (file_given name file ∷ [])
one_read held name file holds within =
    (record { bytes = file; held = holds; within = within }, [], refl, omega (arith, within), refl)

pub file_loads : (shown : Shown) (files files1 : FilesSeen) (name file : List ℕ) (result : Result Model CommandStop)
    → Holds files.held name (Some file)
    → length file ≤ file_limit → LoadsModel shown (file_given name file ∷ []) result → Loads shown files files1 (name ∷ []) result
file_loads shown files files1 name file result holds within h =
    model_loads shown files files1 (name ∷ []) (file_given name file ∷ []) result (omega arith)
    (one_read files.held name file holds within) h

pub file_stops : (shown : Shown) (files files1 : FilesSeen) (name : List ℕ) (stop : CommandStop) → OpensFile files files1 name (Err stop)
    → Loads shown files files1 (name ∷ []) (Err stop)
file_stops shown files files1 name stop h =
    stops_map (PassesLimit files.held name) (LoadAnswers shown files.held (name ∷ [])) (Rose files.read_faults files1.read_faults)
    (Rose files.read_faults files1.read_faults) (Unit {0}) (Unit {0}) stop (λ a says. long_files (omega arith) (inl says)) (λ rose. rose)
    (λ short. short) h
