-- What a decoder's frame of a list does where an entry is closed, and where the list ends.
use Rattle.std.specs.Prelude.{◌≡◌, ℕ, suc, Bool, true, false, ◌&&◌, cond, List, [], ◌∷◌, ◌++◌, Option, Some, None}
use Rattle.sm_tree.specs.declared.path.Step.TheVariants.{Index}
use Rattle.sm_shapes.specs.Values.{Val, null_val, list_val, vals_of}
use Rattle.sm_shapes.specs.TableData.{ConstraintData}
use Rattle.sm_shapes.specs.Broken.{length_broken, has_twice}
use Rattle.sm_shapes.specs.declared.fault.FaultKind.{FaultKind}
use Rattle.sm_shapes.specs.declared.fault.FaultKind.TheVariants.{Null, Unique}
use Rattle.sm_codec.specs.FaultLists.{FaultAt}
use Rattle.sm_codec.specs.Decoding.{Outcome, good, bad, EntryFrame}
use Rattle.sm_codec.specs.steps.Arrivals.{Arrival, null_comes, value_comes, fault_comes}

-- in a list or a map null is a value in sparse ones alone
abbrev pub entry_comes : Bool → Arrival → Arrival
entry_comes sparse null_comes = cond sparse (value_comes null_val) (fault_comes ([], Null))
entry_comes sparse (value_comes v) = value_comes v
entry_comes sparse (fault_comes f) = fault_comes f

-- an entry with a fault adds no value, and of the faults the first is kept
abbrev pub items_taken : Arrival → List Val → List Val
items_taken null_comes vs = vs
items_taken (value_comes v) vs = vs ++ v ∷ []
items_taken (fault_comes f) vs = vs

abbrev pub kept_first : Option FaultAt → FaultAt → Option FaultAt
kept_first None new = Some new
kept_first (Some old) new = Some old

abbrev pub entry_fault : ℕ → Arrival → Option FaultAt → Option FaultAt
entry_fault i null_comes old = old
entry_fault i (value_comes v) old = old
entry_fault i (fault_comes f) old = kept_first old (Index i ∷ f.0, f.1)

-- the frame keeps the fault of the entry i, or the one that it has
abbrev pub KeepsEntryFault : ℕ → FaultAt → EntryFrame → EntryFrame → Type 0
KeepsEntryFault i new f g =
    (g.shape ≡ f.shape) × (g.count ≡ f.count) × (g.items ≡ f.items) × (g.fault ≡ kept_first f.fault (Index i ∷ new.0, new.1))

-- a tree comes as the next entry of a list
abbrev pub TakesEntry : Bool → Arrival → EntryFrame → EntryFrame → Type 0
TakesEntry sparse x f g =
    (g.shape ≡ f.shape) × (g.count ≡ suc f.count) × (g.items ≡ items_taken (entry_comes sparse x) f.items)
    × (g.fault ≡ entry_fault f.count (entry_comes sparse x) f.fault)

-- what a list comes to where it ends: the first fault of its entries, what their number breaks, that two are equal that must not be, or
-- its value
abbrev pub list_ended : Option FaultAt → List FaultKind → Bool → List Val → Outcome
list_ended (Some f) kinds twice vs = bad f
list_ended None (kind ∷ kinds) twice vs = bad ([], kind)
list_ended None [] true vs = bad ([], Unique)
list_ended None [] false vs = good (list_val (vals_of vs))

abbrev pub list_end : ConstraintData → Bool → EntryFrame → Outcome
list_end c unique f = list_ended f.fault (length_broken c f.count) (unique && has_twice f.items) f.items
