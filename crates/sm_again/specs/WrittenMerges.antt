-- That the files which are written for namespaces of a merged graph come to the graph's shapes of these namespaces again, with all
-- metadata: each shape, each member, each trait. Files of all namespaces come to the whole graph.
use Rattle.std.specs.Prelude.{◌≡◌, ℕ, Bool, false, List, [], map, Some, Ok, ◌⊎◌}
use Rattle.std.specs.FinMap as fin
use Rattle.std.specs.List.{list_any}
use Rattle.std.specs.Str.{bytes_eq}
use Rattle.sm_tree.specs.Node.{Node}
use Rattle.sm_model.specs.Formed.{DifferInNames, StandsAmong}
use Rattle.sm_model.specs.Graphs.{GraphMaps, MemberEntry, ShapeEntry, member_entry, member_id, shape_entry}
use Rattle.sm_model.specs.GraphView.{maps_of}
use Rattle.sm_model.specs.PreludeShapes.{is_prelude_id, unit_id}
use Rattle.sm_model.specs.Said.{Said}
use Rattle.sm_model.specs.declared.graph.Graph.{Graph}
use Rattle.sm_model.specs.declared.kind.Kind.{Kind}
use Rattle.sm_model.specs.declared.kind.Kind.TheVariants.{Enum, IntEnum}
use Rattle.sm_merge.specs.Answers.{MergesTo}
use Rattle.sm_merge.specs.Merged.{IsGraphOf}
use Rattle.sm_merge.specs.Stated.{AreFormedFiles, stated_by}
use Rattle.sm_ids.specs.TextParts.{namespace_part}
use Rattle.sm_merge.specs.Restated.{ComesTo, part_of}
use Rattle.sm_idl.specs.WrittenFile.{namespace_file}

abbrev pub IsEnum : Kind → Type 0
IsEnum kind = (kind ≡ Enum) ⊎ (kind ≡ IntEnum)

-- members of enums and intEnums target `Unit`, which the IDL's syntax gives them: so it is in each model without events of rules
abbrev pub EnumsTargetUnit : GraphMaps → Type 0
EnumsTargetUnit g = (id name : List ℕ) (s : ShapeEntry) (m : MemberEntry) → fin.get g.shapes id ≡ Some (shape_entry s)
    → IsEnum s.kind → fin.get g.shapes (member_id id name) ≡ Some (member_entry m) → m.target ≡ unit_id

-- what the files of these namespaces say
abbrev pub written_files : GraphMaps → List (List ℕ) → List (List Said)
written_files g namespaces = map (λ namespace. (namespace_file g namespace).said) namespaces

-- the id is of one of the namespaces
abbrev pub is_of : List (List ℕ) → List ℕ → Bool
is_of namespaces id = list_any (bytes_eq (namespace_part id)) namespaces

-- there is a file, or there is no metadata
abbrev pub HasRoom : GraphMaps → List (List ℕ) → Type 0
HasRoom g namespaces = (key : List ℕ) (n : Node) → fin.get g.metadata key ≡ Some n → namespaces ≡ [] → ⊥

-- files of some namespaces come to the graph's shapes of these, and nothing is wrong with them
abbrev pub WrittenAgain : Type 0
WrittenAgain = (files : List (List Said)) (g : GraphMaps) (namespaces : List (List ℕ)) → AreFormedFiles files
    → IsGraphOf (stated_by files) g → EnumsTargetUnit g → DifferInNames namespaces → HasRoom g namespaces
    → ComesTo (stated_by (written_files g namespaces)) (part_of (is_of namespaces) g)

-- namespaces, each of them once, among which is that of each shape outside the prelude
pub record AreAllNamespaces (g : GraphMaps) (namespaces : List (List ℕ)) : Type 0 where
  pub differ : DifferInNames namespaces
  pub all : (id : List ℕ) (s : ShapeEntry) → fin.get g.shapes id ≡ Some (shape_entry s) → is_prelude_id id ≡ false
      → StandsAmong (namespace_part id) namespaces

-- where files merge to a graph, those that are written for all its namespaces merge to it again
abbrev pub WrittenMerges : Type 0
WrittenMerges = (files : List (List Said)) (graph : Graph) (namespaces : List (List ℕ)) → AreFormedFiles files
    → MergesTo files (Ok graph) → EnumsTargetUnit (maps_of graph) → AreAllNamespaces (maps_of graph) namespaces
    → HasRoom (maps_of graph) namespaces → MergesTo (written_files (maps_of graph) namespaces) (Ok graph)
