-- Which model files are accepted, and what loading them answers. The causes stand in their order: a file without statements, a limit,
-- what rejects the model.
use Rattle.std.specs.Prelude.{◌≡◌, ◌⊎◌, ℕ, List, Result, Ok, Err}
use Rattle.sm_model.specs.EventView.{EventTold}
use Rattle.sm_model.specs.Graphs.{GraphMaps}
use Rattle.sm_model.specs.GraphView.{maps_of}
use Rattle.sm_model.specs.Said.{Said}
use Rattle.sm_model.specs.declared.event.ModelEvent.{ModelEvent}
use Rattle.sm_model.specs.declared.event.Severity.TheVariants.{Error}
use Rattle.sm_merge.specs.Answers.{MergesTo}
use Rattle.sm_merge.specs.Limits.{IsWithinLimits}
use Rattle.sm_merge.specs.Merged.{IsGraphOf, IsWrong}
use Rattle.sm_merge.specs.Stated.{AreFormedFiles, stated_by}
use Rattle.sm_merge.specs.declared.refusal.MergeRefusal.TheVariants.{Limit as PastLimit, Rejected as RejectedInMerging}
use Rattle.sm_rules.specs.RuleList.{severity_of}
use Rattle.sm_rules.specs.declared.rule.Rule.{Rule}
use Rattle.sm_load.specs.Events.{AreModelEvents}
use Rattle.sm_load.specs.ModelFiles.{FileGiven, HaveStatements, IsFirstRefused}
use Rattle.sm_rules.specs.Rules.{Fails}
use Rattle.sm_load.specs.declared.model.LoadRefusal.{LoadRefusal}
use Rattle.sm_load.specs.declared.model.LoadRefusal.TheVariants.{Text, Limit, Rejected, NoMemory}
use Rattle.sm_load.specs.declared.model.Model.{Model}

-- some rule fails for which the model is rejected
pub record HasError (g : GraphMaps) : Type 0 where
  pub rule : Rule
  pub id : List ℕ
  pub detail : List ℕ
  pub rejects : severity_of rule ≡ Error
  pub fails : Fails rule g id detail

-- what a graph's events are where it is accepted, and where it is rejected
abbrev pub AcceptsGraph : GraphMaps → List ModelEvent → Type 0
AcceptsGraph g es = (HasError g → ⊥) × AreModelEvents g es

abbrev pub RejectsGraph : GraphMaps → List ModelEvent → Type 0
RejectsGraph g es = HasError g × AreModelEvents g es

-- statements merge to this graph with nothing wrong, and it is within the limits
pub record MergeInto (said : List (List Said)) (g : GraphMaps) : Type 0 where
  pub is_graph : IsGraphOf (stated_by said) g
  pub within : IsWithinLimits g
  pub right : (e : EventTold) → IsWrong (stated_by said) e → ⊥

-- files are accepted, as this graph: each has statements, they merge with nothing wrong, and no rule fails that rejects
pub record AreAccepted (files : List FileGiven) (g : GraphMaps) : Type 0 where
  pub said : List (List Said)
  pub statements : HaveStatements files said
  pub formed : AreFormedFiles said
  pub merged : MergeInto said g
  pub no_error : HasError g → ⊥

-- the model of files: their graph, and its events
pub record IsModelOf (files : List FileGiven) (m : Model) : Type 0 where
  pub accepted : AreAccepted files (maps_of m.graph)
  pub events : AreModelEvents (maps_of m.graph) m.events

-- the model is rejected by a rule: all events are told, those too that don't reject it
pub record AreRejectedByRules (said : List (List Said)) (es : List ModelEvent) : Type 0 where
  pub g : GraphMaps
  pub merged : MergeInto said g
  pub rejects : RejectsGraph g es

-- statements are rejected: in merging, or by a rule of their graph
abbrev pub AreRejected : List (List Said) → List ModelEvent → Type 0
AreRejected said es = MergesTo said (Err (RejectedInMerging es)) ⊎ AreRejectedByRules said es

abbrev pub LoadsTo : List FileGiven → Result Model LoadRefusal → Type 0
LoadsTo files (Ok m) = IsModelOf files m
LoadsTo files (Err (Text number place)) = IsFirstRefused files number place
LoadsTo files (Err (Limit kind)) = (said : List (List Said)) × HaveStatements files said × MergesTo said (Err (PastLimit kind))
LoadsTo files (Err (Rejected es)) = (said : List (List Said)) × HaveStatements files said × AreRejected said es
LoadsTo files (Err NoMemory) = Unit {0}
