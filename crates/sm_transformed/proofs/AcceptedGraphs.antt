-- The graph of a model that is accepted may be changed.
use Rattle.std.proofs.Common.{◌≡◌, ℕ, List, Some}
use Rattle.std.specs.FinMap as fin
use Rattle.sm_ids.specs.IdText.{IsIdText}
use Rattle.sm_tree.specs.Node.{Node}
use Rattle.sm_model.specs.Graphs.{Entry, GraphMaps, member_entry, shape_entry, traits_in}
use Rattle.sm_merge.proofs.FormedGraphs.{merged_formed}
use Rattle.sm_merge.proofs.GraphSound.{IsSoundEntry, stands_sound}
use Rattle.sm_load.specs.Loading.{AreAccepted}
use Rattle.sm_load.specs.ModelFiles.{FileGiven}
use Rattle.sm_transform.specs.Renamed.{HasTraitIds}
use Rattle.sm_transformed.specs.Laws.{AcceptedMayChange}

trait_id : (id : List ℕ) (e : Entry) → IsSoundEntry id e → (t : List ℕ) (n : Node) → fin.get (traits_in e) t ≡ Some n
    → IsIdText t
trait_id id (shape_entry s) h t n found = (h.2 t n found).0
trait_id id (member_entry m) h t n found = (h.2 t n found).0

traits_named : (files : List FileGiven) (g : GraphMaps) → AreAccepted files g → HasTraitIds g
traits_named files g a id t c =
    trait_id id c.entry (stands_sound a.said a.formed id c.entry ((a.merged.is_graph.shapes id c.entry).0 c.there)) t c.value c.found

pub may_change : AcceptedMayChange
may_change files g a = (merged_formed a.said a.formed g a.merged.is_graph a.merged.within, traits_named files g a)
