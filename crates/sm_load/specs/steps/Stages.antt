-- What the stages of loading model files come to: statements, a graph, a model, or why there is none.
use Rattle.std.specs.Prelude.{◌≡◌, ◌++◌, ◌||◌, ℕ, Bool, false, List, [], ◌∷◌, Result, Ok, Err}
use Rattle.std.specs.Global.{Vec}
use Rattle.sm_tree.specs.Syntax.{IsRead}
use Rattle.sm_tree.specs.View.{node_of}
use Rattle.sm_tree.specs.declared.tree.Tree.{Tree}
use Rattle.sm_json.specs.JsonText.{JsonText}
use Rattle.sm_model.specs.Formed.{AreFormed}
use Rattle.sm_model.specs.Graphs.{GraphMaps}
use Rattle.sm_model.specs.GraphView.{maps_of}
use Rattle.sm_model.specs.Said.{Said}
use Rattle.sm_model.specs.SaidView.{statements_view}
use Rattle.sm_model.specs.declared.event.ModelEvent.{ModelEvent}
use Rattle.sm_rules.specs.RuleList.{is_error}
use Rattle.sm_model.specs.declared.graph.Graph.{Graph}
use Rattle.sm_model.specs.declared.statement.Statement.{Statement}
use Rattle.sm_merge.specs.Answers.{MergesTo}
use Rattle.sm_merge.specs.Files.{files_view}
use Rattle.sm_merge.specs.Stated.{AreFormedFiles}
use Rattle.sm_merge.specs.declared.refusal.MergeRefusal.TheVariants.{Limit as PastLimit, Rejected as RejectedInMerging}
use Rattle.sm_load.specs.Loading.{AcceptsGraph, MergeInto, RejectsGraph}
use Rattle.sm_load.specs.ModelFiles.{FileGiven, HasStatements, HaveStatements, IsFirstRefused, IsRefusedAt}
use Rattle.sm_load.specs.declared.model.LoadRefusal.{LoadRefusal}
use Rattle.sm_load.specs.declared.model.LoadRefusal.TheVariants.{Text, Limit, Rejected, NoMemory}
use Rattle.sm_load.specs.declared.model.Model.{Model}

-- a file of this number says no statements, at this place, or memory runs out
abbrev pub StopsFile : FileGiven → ℕ → LoadRefusal → Type 0
StopsFile f number (Text at place) = (at ≡ number) × IsRefusedAt f place
StopsFile f number (Limit kind) = ⊥
StopsFile f number (Rejected es) = ⊥
StopsFile f number NoMemory = Unit {0}

-- the tree of its text
abbrev pub ReadsTree : FileGiven → ℕ → Result Tree LoadRefusal → Type 0
ReadsTree f number (Ok tree) = IsRead JsonText (node_of tree) f.bytes
ReadsTree f number (Err refusal) = StopsFile f number refusal

-- its statements, as merging asks for them
abbrev pub ReadsFile : FileGiven → ℕ → Result (Vec Statement) LoadRefusal → Type 0
ReadsFile f number (Ok ss) = HasStatements f (statements_view ss.items) × AreFormed (statements_view ss.items)
ReadsFile f number (Err refusal) = StopsFile f number refusal

-- what stops all files: the first that says none
abbrev pub StopsFiles : List FileGiven → LoadRefusal → Type 0
StopsFiles fs (Text number place) = IsFirstRefused fs number place
StopsFiles fs (Limit kind) = ⊥
StopsFiles fs (Rejected es) = ⊥
StopsFiles fs NoMemory = Unit {0}

-- the statements of all
abbrev pub ReadsFiles : List FileGiven → Result (Vec (Vec Statement)) LoadRefusal → Type 0
ReadsFiles fs (Ok said) = HaveStatements fs (files_view said.items) × AreFormedFiles (files_view said.items)
ReadsFiles fs (Err refusal) = StopsFiles fs refusal

-- these files were read before those, and said these statements
pub record AreBehind (all rest : List FileGiven) (said : List (List Said)) : Type 0 where
  pub before : List FileGiven
  pub cut : all ≡ before ++ rest
  pub says : HaveStatements before said
  pub formed : AreFormedFiles said

-- statements don't merge
abbrev pub StopsMerge : List (List Said) → LoadRefusal → Type 0
StopsMerge said (Text number place) = ⊥
StopsMerge said (Limit kind) = MergesTo said (Err (PastLimit kind))
StopsMerge said (Rejected es) = MergesTo said (Err (RejectedInMerging es))
StopsMerge said NoMemory = Unit {0}

abbrev pub Merges : List (List Said) → Result Graph LoadRefusal → Type 0
Merges said (Ok graph) = MergeInto said (maps_of graph)
Merges said (Err refusal) = StopsMerge said refusal

-- files have no graph: the first that says no statements, or why these don't merge
abbrev pub StopsGraph : List FileGiven → LoadRefusal → Type 0
StopsGraph fs (Text number place) = IsFirstRefused fs number place
StopsGraph fs (Limit kind) = (said : List (List Said)) × HaveStatements fs said × MergesTo said (Err (PastLimit kind))
StopsGraph fs (Rejected es) = (said : List (List Said)) × HaveStatements fs said × MergesTo said (Err (RejectedInMerging es))
StopsGraph fs NoMemory = Unit {0}

pub record HaveGraph (fs : List FileGiven) (g : GraphMaps) : Type 0 where
  pub said : List (List Said)
  pub statements : HaveStatements fs said
  pub formed : AreFormedFiles said
  pub merged : MergeInto said g

abbrev pub MakesGraph : List FileGiven → Result Graph LoadRefusal → Type 0
MakesGraph fs (Ok graph) = HaveGraph fs (maps_of graph)
MakesGraph fs (Err refusal) = StopsGraph fs refusal

-- a graph is accepted with its events, or rejected
abbrev pub Judges : GraphMaps → Result Model LoadRefusal → Type 0
Judges g (Ok m) = Path GraphMaps (maps_of m.graph) g × AcceptsGraph g m.events
Judges g (Err (Text number place)) = ⊥
Judges g (Err (Limit kind)) = ⊥
Judges g (Err (Rejected es)) = RejectsGraph g es
Judges g (Err NoMemory) = Unit {0}

-- whether one of some events rejects the model
abbrev pub some_grave : List ModelEvent → Bool
some_grave [] = false
some_grave (e ∷ es) = is_error e.severity || some_grave es
