-- What a change makes of the graph of accepted files is whole, as merging makes graphs. So its text loads to it, and it may be changed.
use Rattle.std.proofs.Common.{ℕ, List, refl, arith}
use Rattle.std.specs.Prelude.{codes}
use Rattle.std.specs.List.{Contains}
use Rattle.sm_json.specs.Laws.{WrittenSpells}
use Rattle.sm_model.specs.Given.{HasShapeBody}
use Rattle.sm_model.specs.Graphs.{Entry, GraphMaps, ShapeEntry, ShapeGiven, shape_entry}
use Rattle.sm_model.specs.GraphView.{maps_of}
use Rattle.sm_model.specs.PreludeShapes.{api_id, prelude_shapes, simple_shape}
use Rattle.sm_model.specs.Relations.{HasEntry, IsInGraph}
use Rattle.sm_model.specs.declared.graph.Graph.{Graph}
use Rattle.sm_model.specs.declared.kind.Kind.TheVariants.{Blob}
use Rattle.sm_ast.specs.Laws.{WrittenIsJson, WrittenSays}
use Rattle.sm_merge.proofs.GraphSound.{IsSoundEntry, metadata_named, stands_sound}
use Rattle.sm_merge.proofs.RegularGraphs.{IsRegular, merged_regular}
use Rattle.sm_again.specs.load.Laws.{FormedFiles}
use Rattle.sm_again.specs.load.Loading.{AreAccepted}
use Rattle.sm_again.specs.load.ModelFiles.{FileGiven}
use Rattle.sm_again.proofs.GraphLoads.{IsWhole, graph_loads}
use Rattle.sm_again.proofs.MergedShapes.{few_entries, whole_shape}
use Rattle.sm_transform.specs.Changed.{Change, Changed, IsMadeOf, exclude, include, rename, unless}
use Rattle.sm_transform.specs.IdChanges.{entry_after, id_after}
use Rattle.sm_transform.specs.Included.{StaysIncluded}
use Rattle.sm_transform.specs.Renamed.{renamed_id, renames}
use Rattle.sm_transform.specs.steps.Changing.{IsLeft}
use Rattle.sm_transformed.specs.Transformed.{IsRefusedBy, IsSaid}
use Rattle.sm_changed_again.specs.ChangedLoads.{ChangedLoads, ChangedMayChange}
use Rattle.sm_changed_again.proofs.ChangedWhole.{HasNamedKeys, HasTypeNames, now_is_whole}
use Rattle.sm_changed_again.proofs.ExcludedWhole.{exclude_faithful, excluded_made, made_same}
use Rattle.sm_changed_again.proofs.Faithful.{IsFaithful}
use Rattle.sm_changed_again.proofs.IncludedWhole.{include_faithful}
use Rattle.sm_changed_again.proofs.PreludeAgain.{entry_given, of_prelude}
use Rattle.sm_changed_again.proofs.RenamedWhole.{rename_faithful}

-- a shape of the prelude
abbrev blob : ShapeGiven
blob = simple_shape (codes "Blob") Blob

blob_among : Contains prelude_shapes blob
blob_among = (0, omega arith, refl)

module _ (files : List FileGiven) (g : GraphMaps) (a : AreAccepted files g) where
  regular : IsRegular g
  regular = merged_regular a.said a.formed g a.merged.is_graph

  sound : (k : List ℕ) (e : Entry) → HasEntry g k e → IsSoundEntry k e
  sound k e found = stands_sound a.said a.formed k e ((a.merged.is_graph.shapes k e).0 found)

  shapes : HasTypeNames g
  shapes = whole_shape a.said a.formed g a.merged.is_graph

  keyed : HasNamedKeys g
  keyed k n found = metadata_named a.said a.formed k n ((a.merged.is_graph.metadata k n).0 found)

  bodies : (id : List ℕ) (s : ShapeEntry) → HasEntry g id (shape_entry s) → HasShapeBody s.kind s.properties
  bodies id s found = (shapes id s found).body

  -- each graph has the shapes of the prelude
  has_shape : (s : ShapeGiven) → Contains prelude_shapes s → IsInGraph g s.id
  has_shape s among = (shape_entry (entry_given s), regular.prelude s.id (shape_entry (entry_given s)) (of_prelude s among))

  module _ (graph : Graph) where
    whole_by : (Stays : List ℕ → Type 0) (moved : List ℕ → List ℕ) (after : Entry → Entry) → IsMadeOf Stays moved after g (maps_of graph)
        → IsFaithful g Stays moved after → IsWhole (maps_of graph)
    whole_by Stays moved after made f =
        now_is_whole g (maps_of graph) Stays moved after made f regular sound shapes keyed a.merged.within (few_entries graph)

    pub changed_whole : (change : Change) → IsSaid change → (IsRefusedBy g change → ⊥) → Changed g change (maps_of graph)
        → IsWhole (maps_of graph)
    changed_whole (include steps) said allowed made =
        whole_by (StaysIncluded g steps) (λ id. id) (λ e. e) made (include_faithful g steps)
    changed_whole (exclude steps) said allowed made =
        let change = unless made.out in
        whole_by (IsLeft change) (id_after change) (entry_after change)
        (excluded_made g regular steps made.out made.told (maps_of graph) made.made) (exclude_faithful g regular steps made.out made.told)
    changed_whole (rename from to) said allowed made =
        let change = renames from to in
        whole_by (IsLeft change) (id_after change) (entry_after change)
        (made_same (λ id. Unit {0}) (IsLeft change) (renamed_id from to) (id_after change) (entry_after change) g (maps_of graph)
        (λ id. (λ h. refl, λ h. tt)) (λ id. refl) made)
        (rename_faithful from to said g sound bodies allowed (api_id (codes "Blob"), has_shape blob blob_among, refl))

pub changed_may_change : ChangedMayChange
changed_may_change files g change m a said to =
    let w = changed_whole files g a m.graph change said to.0 to.1 in
    (w.formed, λ id t c. (w.traits id c.entry c.there t c.value c.found).0)

pub changed_loads : WrittenIsJson → WrittenSays → WrittenSpells → FormedFiles → ChangedLoads
changed_loads is_json says spells formed files g change m name a said to few ends = record {
  accepted = graph_loads is_json says spells formed (maps_of m.graph) (changed_whole files g a m.graph change said to.0 to.1) to.2.0 few
      name ends;
  events = to.2.1;
}
