-- The words that programs print for the kinds of faults.
use Rattle.std.specs.Prelude.{ℕ, List, codes}
use Rattle.sm_shapes.specs.declared.fault.FaultKind.{FaultKind}
use Rattle.sm_shapes.specs.declared.fault.FaultKind.TheVariants.{WrongType, Null, Repeated, Missing, Width, Base64, Time, Length, Pattern}
use Rattle.sm_shapes.specs.declared.fault.FaultKind.TheVariants.{Enum, Range, Unique, UnionCount, NotCarried}

abbrev pub fault_word : FaultKind → List ℕ
fault_word WrongType = codes "Type"
fault_word Null = codes "Null"
fault_word Repeated = codes "Repeated"
fault_word Missing = codes "Missing"
fault_word Width = codes "Width"
fault_word Base64 = codes "Base64"
fault_word Time = codes "Time"
fault_word Length = codes "Length"
fault_word Pattern = codes "Pattern"
fault_word Enum = codes "Enum"
fault_word Range = codes "Range"
fault_word Unique = codes "Unique"
fault_word UnionCount = codes "UnionCount"
fault_word NotCarried = codes "NotCarried"
