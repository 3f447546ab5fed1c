-- What reading a leaf answers, by what the convention makes of it.
use Rattle.std.specs.Prelude.{◌≡◌, Result, Ok, Err}
use Rattle.sm_shapes.specs.Values.{Val}
use Rattle.sm_shapes.specs.ValueView.{val_of}
use Rattle.sm_shapes.specs.declared.values.Value.{Value}
use Rattle.sm_shapes.specs.declared.fault.FaultKind.{FaultKind}
use Rattle.sm_codec.specs.declared.leaves.LeafRefusal.{LeafRefusal}
use Rattle.sm_codec.specs.declared.leaves.LeafRefusal.TheVariants.{Fault, NoMemory}

abbrev pub ReadsLeaf : Result Val FaultKind → Result Value LeafRefusal → Type 0
ReadsLeaf found (Ok v) = found ≡ Ok (val_of v)
ReadsLeaf found (Err (Fault kind)) = found ≡ Err kind
ReadsLeaf found (Err NoMemory) = Unit {0}
