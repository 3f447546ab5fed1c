-- The graph that files come to, and its model.
use Rattle.std.proofs.Common.{inl, inr, List, Result, Ok, Err, sym, subst}
use Rattle.sm_model.specs.Graphs.{GraphMaps}
use Rattle.sm_model.specs.GraphView.{maps_of}
use Rattle.sm_model.specs.Said.{Said}
use Rattle.sm_model.specs.declared.graph.Graph.{Graph}
use Rattle.sm_merge.specs.Answers.{MergesTo}
use Rattle.sm_merge.specs.Stated.{AreFormedFiles}
use Rattle.sm_load.specs.Events.{AreModelEvents}
use Rattle.sm_load.specs.Loading.{HasError, LoadsTo, MergeInto}
use Rattle.sm_load.specs.ModelFiles.{FileGiven, HaveStatements}
use Rattle.sm_load.specs.declared.model.LoadRefusal.{LoadRefusal}
use Rattle.sm_load.specs.declared.model.LoadRefusal.TheVariants.{Text, Limit, Rejected, NoMemory}
use Rattle.sm_load.specs.declared.model.Model.{Model}
use Rattle.sm_load.specs.steps.Stages.{HaveGraph, Judges, MakesGraph, Merges, StopsFiles, StopsGraph}

pub graph_told : (said : List (List Said)) (graph : Graph) → MergesTo said (Ok graph) → MergeInto said (maps_of graph)
graph_told said graph merges = record { is_graph = merges.0; within = merges.1; right = merges.2 }

-- files that say no statements, and statements that don't merge
pub no_statements : (fs : List FileGiven) (refusal : LoadRefusal) → StopsFiles fs refusal → StopsGraph fs refusal
no_statements fs (Text number place) h = h
no_statements fs (Limit kind) h = absurd h
no_statements fs (Rejected es) h = absurd h
no_statements fs NoMemory h = h

pub graph_made : (fs : List FileGiven) (said : List (List Said)) (result : Result Graph LoadRefusal) → HaveStatements fs said
    → AreFormedFiles said → Merges said result → MakesGraph fs result
graph_made fs said (Ok graph) are formed merges = record { said = said; statements = are; formed = formed; merged = merges }
graph_made fs said (Err (Text number place)) are formed h = absurd h
graph_made fs said (Err (Limit kind)) are formed h = (said, are, h)
graph_made fs said (Err (Rejected es)) are formed h = (said, are, h)
graph_made fs said (Err NoMemory) are formed h = h

-- no graph, or a graph that is judged
pub no_graph : (fs : List FileGiven) (refusal : LoadRefusal) → StopsGraph fs refusal → LoadsTo fs (Err refusal)
no_graph fs (Text number place) h = h
no_graph fs (Limit kind) h = h
no_graph fs (Rejected es) h = (h.0, h.1, inl h.2)
no_graph fs NoMemory h = h

pub model_made : (fs : List FileGiven) (g : GraphMaps) (result : Result Model LoadRefusal) → HaveGraph fs g → Judges g result
    → LoadsTo fs result
model_made fs g (Ok m) made (same, (no_error, events)) = record {
  accepted = record {
    said = made.said;
    statements = made.statements;
    formed = made.formed;
    merged = subst (MergeInto made.said) (sym same) made.merged;
    no_error = subst (λ x. HasError x → ⊥) (sym same) no_error;
  };
  events = subst (λ x. AreModelEvents x m.events) (sym same) events;
}
model_made fs g (Err (Text number place)) made h = absurd h
model_made fs g (Err (Limit kind)) made h = absurd h
model_made fs g (Err (Rejected es)) made h =
    (made.said, made.statements, inr (record { g = g; merged = made.merged; rejects = h }))
model_made fs g (Err NoMemory) made h = h
