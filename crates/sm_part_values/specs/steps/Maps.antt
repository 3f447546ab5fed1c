-- Maps of texts, group by group.
use Rattle.std.specs.Prelude.{◌≡◌, ◌++◌, ℕ, Bool, true, false, List, [], ◌∷◌, Option, None, Some, Result, Ok, Err, length, map, not}
use Rattle.std.specs.Global.{Vec}
use Rattle.sm_tree.specs.declared.path.Step.TheVariants.{Key}
use Rattle.sm_shapes.specs.Broken.{length_broken}
use Rattle.sm_shapes.specs.Places.{Place, constraints_of}
use Rattle.sm_shapes.specs.TableData.{TableData}
use Rattle.sm_shapes.specs.Values.{Val, entries_of, map_val}
use Rattle.sm_shapes.specs.ValueView.{each_entry_view, val_of}
use Rattle.sm_shapes.specs.declared.fault.FaultKind.{FaultKind}
use Rattle.sm_shapes.specs.declared.values.Value.{Value}
use Rattle.sm_codec.specs.Codec.{Codec}
use Rattle.sm_codec.specs.FaultLists.{FaultAt, Reading, here, settled, under}
use Rattle.sm_codec.specs.FrameView.{fault_at}
use Rattle.sm_codec.specs.Readings.{Child, list_reading, pair_faults, pair_values}
use Rattle.sm_codec.specs.declared.decoder.Refusal.{Refusal}
use Rattle.sm_codec.specs.declared.decoder.Refusal.TheVariants.{Fault as a_fault, NoMemory}
use Rattle.sm_part_values.specs.Joins.{IsFirstOf}
use Rattle.sm_part_values.specs.PartTexts.{TextForm, list_child, text_child, text_reading}

-- what stands for the texts of a key: one list, or each by itself
abbrev pub group_children : Bool → TextForm → Codec → List (List ℕ) → List Child
group_children true f c us = list_child c (map (text_child f c) us) ∷ []
group_children false f c us = map (text_child f c) us

abbrev pub Grouped : Type 0
Grouped = List (List ℕ × List (List ℕ))

abbrev pub groups_faults : Bool → TextForm → Codec → Place → Grouped → List FaultAt
groups_faults lists f c p [] = []
groups_faults lists f c p (g ∷ gs) = under (Key g.0) (pair_faults c p g.0 (group_children lists f c g.1)) ++ groups_faults lists f c p gs

abbrev pub groups_values : Bool → TextForm → Codec → Place → Grouped → List (List ℕ × Val)
groups_values lists f c p [] = []
groups_values lists f c p (g ∷ gs) = pair_values c p g.0 (group_children lists f c g.1) ++ groups_values lists f c p gs

-- what the map comes to that these groups are
abbrev pub groups_reading : Bool → TextForm → Codec → Place → Grouped → Reading
groups_reading lists f c p gs =
    settled (groups_faults lists f c p gs ++ here (length_broken (constraints_of c.table p) (length gs)))
    (map_val (entries_of (groups_values lists f c p gs)))

-- the value under a key, or the first fault there
abbrev pub PairJoins : Codec → Place → List ℕ → List Child → Result Value Refusal → Type 0
PairJoins c p key children (Ok v) = (pair_faults c p key children ≡ []) × (pair_values c p key children ≡ (key, val_of v) ∷ [])
PairJoins c p key children (Err (a_fault f)) = IsFirstOf (pair_faults c p key children) (fault_at f)
PairJoins c p key children (Err NoMemory) = Unit {0}

-- what the texts of a key come to, of which there is one where they are no list
abbrev pub group_reading : Bool → TextForm → Codec → Place → List (List ℕ) → Reading
group_reading true f c p us = list_reading c p (map (text_child f c) us)
group_reading false f c p [] = Err []
group_reading false f c p (u ∷ us) = text_reading f c p u

-- what a map comes to whose entries have no fault
abbrev pub closed_map : TableData → Place → List (List ℕ × Val) → Reading
closed_map t p es = settled (here (length_broken (constraints_of t p) (length es))) (map_val (entries_of es))

-- the entries of all groups, or the first fault of one
abbrev pub GroupsJoin : Bool → TextForm → Codec → Place → Grouped → Result (Vec (List ℕ × Value)) Refusal → Type 0
GroupsJoin lists f c p gs (Ok es) =
    (groups_faults lists f c p gs ≡ []) × (groups_values lists f c p gs ≡ each_entry_view es.items)
    × (length gs ≡ length (each_entry_view es.items))
GroupsJoin lists f c p gs (Err (a_fault g)) = IsFirstOf (groups_faults lists f c p gs) (fault_at g)
GroupsJoin lists f c p gs (Err NoMemory) = Unit {0}

-- the first of these faults, all of the part itself
abbrev pub IsFirstKind : List FaultAt → Option FaultKind → Type 0
IsFirstKind fs None = fs ≡ []
IsFirstKind fs (Some kind) = IsFirstOf fs ([], kind)

-- more texts than one stand under a key, and they are no list
abbrev pub is_again : Bool → List (List ℕ) → Bool
is_again lists [] = false
is_again lists (u ∷ us) = not lists
