-- The tree that is written for the graph of model files is one of JSON.
use Rattle.std.proofs.Common.{ℕ, List, [], ◌∷◌, Option, sym, subst, IsUtf8}
use Rattle.std.specs.FinMap as fin
use Rattle.sm_io.specs.Files.{Folder}
use Rattle.sm_tree.specs.Node.{Node}
use Rattle.sm_tree.specs.Json.{IsJson}
use Rattle.sm_model.specs.Graphs.{Entry, GraphMaps, NodeMap, member_entry, shape_entry}
use Rattle.sm_model.specs.Said.{Said}
use Rattle.sm_model.proofs.MapFacts.{Each}
use Rattle.sm_ast.specs.Written.{written_ast}
use Rattle.sm_ids.specs.TextParts.{member_name}
use Rattle.sm_ids.proofs.TextCuts.{member_named}
use Rattle.sm_ast.proofs.JsonGiven.{id_utf8, identifier_utf8}
use Rattle.sm_ast.proofs.JsonWritten.{AreJsonPairs, EntryIsJson, written_json}
use Rattle.sm_merge.specs.Merged.{IsGraphOf}
use Rattle.sm_merge.specs.Stated.{AreFormedFiles, stated_by}
use Rattle.sm_merge.proofs.EntriesFound.{each_has, has_get}
use Rattle.sm_merge.proofs.GraphSound.{HoldsNamed, IsNamedNode, IsSoundEntry, metadata_named, stands_sound}
use Rattle.sm_asked.specs.Loading.{Loaded}

-- names and nodes that may be written
pairs_json : (ps : List (List ℕ × Node)) → Each (IsNamedNode IsUtf8) ps → AreJsonPairs ps
pairs_json [] h = tt
pairs_json (p ∷ ps) h = (h.0.0, h.0.1.0, pairs_json ps h.1)

pub traits_json : (m : NodeMap) → HoldsNamed m → AreJsonPairs (fin.entries m)
traits_json m h =
    pairs_json (fin.entries m) (each_has (IsNamedNode IsUtf8) (fin.entries m) (λ t n there.
    let held = h t n (has_get m t n there) in (id_utf8 t held.0, held.1)))

-- what stands in a graph
entry_json : (id : List ℕ) (e : Entry) → IsSoundEntry id e → EntryIsJson id e
entry_json id (shape_entry s) h = (id_utf8 id (h.0.0, h.0.1), h.1.0, traits_json s.traits h.2)
entry_json id (member_entry m) h = (
  subst (λ k. IsUtf8 (member_name k)) (sym h.0.is)
      (subst IsUtf8 (sym (member_named h.0.shape h.0.of_shape h.0.name)) (identifier_utf8 h.0.name h.0.named)),
  id_utf8 m.target h.1,
  traits_json m.traits h.2,
)

pub metadata_json : (said : List (List Said)) (g : GraphMaps) → AreFormedFiles said → IsGraphOf (stated_by said) g
    → AreJsonPairs (fin.entries g.metadata)
metadata_json said g formed of =
    pairs_json (fin.entries g.metadata) (each_has (IsNamedNode IsUtf8) (fin.entries g.metadata)
    (λ k n there. metadata_named said formed k n ((of.metadata k n).0 (has_get g.metadata k n there))))

graph_json : (said : List (List Said)) (g : GraphMaps) → AreFormedFiles said → IsGraphOf (stated_by said) g → IsJson (written_ast g)
graph_json said g formed of = written_json g (record {
  shapes = each_has EntryIsJson (fin.entries g.shapes)
      (λ k e there. entry_json k e (stands_sound said formed k e ((of.shapes k e).0 (has_get g.shapes k e there))));
  metadata = metadata_json said g formed of;
})

pub loaded_json : (files : Option Folder) (names : List (List ℕ)) (l : Loaded files names) → IsJson (written_ast l.graph)
loaded_json files names l =
    graph_json l.accepted.said l.graph l.accepted.formed l.accepted.merged.is_graph
