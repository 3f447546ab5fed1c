-- That the tree which is written for a merged graph merges to the graph again.
use Rattle.std.specs.Prelude.{List, [], ◌∷◌, Ok}
use Rattle.sm_model.specs.GraphView.{maps_of}
use Rattle.sm_model.specs.Said.{Said}
use Rattle.sm_model.specs.declared.graph.Graph.{Graph}
use Rattle.sm_ast.specs.GraphSaid.{graph_said}
use Rattle.sm_merge.specs.Answers.{MergesTo}
use Rattle.sm_merge.specs.Stated.{AreFormedFiles}

-- where files merge to a graph, the statements that the tree of this graph says merge to it again
abbrev pub AstMerges : Type 0
AstMerges = (files : List (List Said)) (graph : Graph) → AreFormedFiles files → MergesTo files (Ok graph)
    → MergesTo (graph_said (maps_of graph) ∷ []) (Ok graph)
