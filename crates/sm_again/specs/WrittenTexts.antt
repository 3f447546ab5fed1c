-- That the text which is written for a namespace of a merged graph is that of the namespace's file, and that the texts of all
-- namespaces, read and merged, come to the graph again. The graph's values nest no more levels than are read.
use Rattle.std.specs.Prelude.{◌≡◌, ◌≤◌, ℕ, List, [], ◌∷◌, map, Some, Ok}
use Rattle.std.specs.FinMap as fin
use Rattle.sm_ids.specs.Identifier.{IsNamespace}
use Rattle.sm_tree.specs.Levels.{levels}
use Rattle.sm_tree.specs.Limits.{most_levels}
use Rattle.sm_tree.specs.Node.{Node}
use Rattle.sm_model.specs.Formed.{StandsAmong}
use Rattle.sm_model.specs.Graphs.{Entry, GraphMaps, NodeMap, traits_in}
use Rattle.sm_model.specs.GraphView.{maps_of}
use Rattle.sm_model.specs.Said.{Said}
use Rattle.sm_model.specs.declared.graph.Graph.{Graph}
use Rattle.sm_merge.specs.Answers.{MergesTo}
use Rattle.sm_merge.specs.Stated.{AreFormedFiles}
use Rattle.sm_idl.specs.Idl.{FileSaid, HaveVersion, Idl}
use Rattle.sm_idl.specs.Written.{written_idl}
use Rattle.sm_idl.specs.WrittenFile.{namespace_file}
use Rattle.sm_again.specs.WrittenMerges.{AreAllNamespaces, EnumsTargetUnit, HasRoom, written_files}

-- values of traits and of metadata nest no more levels than are read
abbrev pub AreShallow : NodeMap → Type 0
AreShallow m = (k : List ℕ) (n : Node) → fin.get m k ≡ Some n → levels n ≤ most_levels

pub record IsShallow (g : GraphMaps) : Type 0 where
  pub traits : (id : List ℕ) (e : Entry) → fin.get g.shapes id ≡ Some e → AreShallow (traits_in e)
  pub metadata : AreShallow g.metadata

-- where files merge to a graph, what is written for a namespace of it is the text of the namespace's file
abbrev pub WrittenTexts : Type 0
WrittenTexts = (files : List (List Said)) (graph : Graph) (namespace : List ℕ) → AreFormedFiles files → MergesTo files (Ok graph)
    → IsShallow (maps_of graph) → IsNamespace namespace
    → Idl (namespace_file (maps_of graph) namespace) (written_idl (maps_of graph) namespace)

-- the texts that are written for these namespaces
abbrev pub written_texts : GraphMaps → List (List ℕ) → List (List ℕ)
written_texts g namespaces = map (λ namespace. written_idl g namespace) namespaces

-- the text says these statements, and is of a version that is read
pub record SaysIdl (text : List ℕ) (said : List Said) : Type 0 where
  pub file : FileSaid
  pub is_text : Idl file text
  pub version : HaveVersion file.controls
  pub says : file.said ≡ said

abbrev pub AllSayIdl : List (List ℕ) → List (List Said) → Type 0
AllSayIdl [] [] = Unit {0}
AllSayIdl [] (said ∷ more) = ⊥
AllSayIdl (text ∷ texts) [] = ⊥
AllSayIdl (text ∷ texts) (said ∷ more) = SaysIdl text said × AllSayIdl texts more

-- where files merge to a graph, the texts that are written for all its namespaces say statements, and what they say merges to it
pub record AreReadAgain (graph : Graph) (namespaces : List (List ℕ)) : Type 0 where
  pub said : AllSayIdl (written_texts (maps_of graph) namespaces) (written_files (maps_of graph) namespaces)
  pub merges : (said : List (List Said)) → AllSayIdl (written_texts (maps_of graph) namespaces) said → MergesTo said (Ok graph)

abbrev pub ReadMerges : Type 0
ReadMerges = (files : List (List Said)) (graph : Graph) (namespaces : List (List ℕ)) → AreFormedFiles files → MergesTo files (Ok graph)
    → IsShallow (maps_of graph) → EnumsTargetUnit (maps_of graph) → AreAllNamespaces (maps_of graph) namespaces
    → HasRoom (maps_of graph) namespaces → ((namespace : List ℕ) → StandsAmong namespace namespaces → IsNamespace namespace)
    → AreReadAgain graph namespaces
