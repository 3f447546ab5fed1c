-- What reading the entries of a list answers, and closing it.
use Rattle.std.specs.Prelude.{◌≡◌, ◌++◌, ◌∷◌, ◌&&◌, Bool, List, [], Result, Ok, Err, cond, length}
use Rattle.std.specs.Global.{Vec}
use Rattle.sm_tree.specs.declared.path.Step.{Step}
use Rattle.sm_shapes.specs.Broken.{has_twice, length_broken}
use Rattle.sm_shapes.specs.Places.{Place, constraints_of, unique_of}
use Rattle.sm_shapes.specs.TableData.{TableData}
use Rattle.sm_shapes.specs.Values.{Val, list_val, vals_of}
use Rattle.sm_shapes.specs.ValueView.{vals_view}
use Rattle.sm_shapes.specs.declared.fault.FaultKind.TheVariants.{Unique}
use Rattle.sm_shapes.specs.declared.values.Value.{Value}
use Rattle.sm_codec.specs.Codec.{Codec}
use Rattle.sm_codec.specs.FaultLists.{Reading, here, settled}
use Rattle.sm_codec.specs.FrameView.{fault_at}
use Rattle.sm_codec.specs.Readings.{Child, entries_faults, entries_values, one_here}
use Rattle.sm_codec.specs.declared.decoder.Refusal.{Refusal}
use Rattle.sm_codec.specs.declared.decoder.Refusal.TheVariants.{Fault as a_fault, NoMemory}
use Rattle.sm_part_values.specs.Joins.{IsFirstOf}

-- the values of all entries, or the first fault of one
abbrev pub EntriesJoin : Codec → Place → List Child → Result (Vec Value) Refusal → Type 0
EntriesJoin c p children (Ok vs) =
    (entries_faults c p 0 children ≡ []) × (entries_values c p children ≡ vals_view vs.items) × (length children ≡ length (vals_view vs.items))
EntriesJoin c p children (Err (a_fault f)) = IsFirstOf (entries_faults c p 0 children) (fault_at f)
EntriesJoin c p children (Err NoMemory) = Unit {0}

-- what a list comes to whose entries have no fault
abbrev pub closed_list : TableData → Place → List Val → Reading
closed_list t p vs =
    settled (here (length_broken (constraints_of t p) (length vs)) ++ cond (unique_of t p && has_twice vs) (one_here Unique) [])
    (list_val (vals_of vs))

-- the same where only that they differ is asked
abbrev pub unique_list : Bool → List Val → Reading
unique_list unique vs = settled (cond (unique && has_twice vs) (one_here Unique) []) (list_val (vals_of vs))

-- a refusal seen from what has the part at this step
abbrev pub IsUnderStep : Step → Refusal → Refusal → Type 0
IsUnderStep step (a_fault f) (a_fault g) = fault_at g ≡ (step ∷ (fault_at f).0, (fault_at f).1)
IsUnderStep step NoMemory (a_fault g) = ⊥
IsUnderStep step refusal NoMemory = Unit {0}
