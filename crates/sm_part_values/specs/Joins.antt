-- What reading parts of a message answers: the value that they come to, or their first fault.
use Rattle.std.specs.Prelude.{◌≡◌, List, ◌∷◌, Option, Result, Ok, Err}
use Rattle.std.specs.Option.{option_map}
use Rattle.sm_shapes.specs.Values.{Val}
use Rattle.sm_shapes.specs.ValueView.{val_of}
use Rattle.sm_shapes.specs.declared.values.Value.{Value}
use Rattle.sm_codec.specs.FaultLists.{FaultAt, Reading}
use Rattle.sm_codec.specs.FrameView.{fault_at}
use Rattle.sm_codec.specs.declared.decoder.Refusal.{Refusal}
use Rattle.sm_codec.specs.declared.decoder.Refusal.TheVariants.{Fault as a_fault, NoMemory}

-- the first of these
abbrev pub IsFirstOf : List FaultAt → FaultAt → Type 0
IsFirstOf fs f = (rest : List FaultAt) × (fs ≡ f ∷ rest)

abbrev pub ErrsWith : {A : Type 0} → Result A (List FaultAt) → FaultAt → Type 0
ErrsWith reading f = (rest : List FaultAt) × (reading ≡ Err (f ∷ rest))

abbrev pub JoinsTo : Reading → Result Value Refusal → Type 0
JoinsTo reading (Ok v) = reading ≡ Ok (val_of v)
JoinsTo reading (Err (a_fault f)) = ErrsWith reading (fault_at f)
JoinsTo reading (Err NoMemory) = Unit {0}

-- of a member: its value, nothing, or its first fault
abbrev pub MemberJoins : Result (Option Val) (List FaultAt) → Result (Option Value) Refusal → Type 0
MemberJoins reading (Ok v) = reading ≡ Ok (option_map val_of v)
MemberJoins reading (Err (a_fault f)) = ErrsWith reading (fault_at f)
MemberJoins reading (Err NoMemory) = Unit {0}
