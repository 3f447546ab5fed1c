-- Laws of faults: a call through which the count of faults stayed quiet didn't answer `Failed`.
use Rattle.std.specs.Prelude.{ℕ, Result, Vec, IsErr, IsErrOf}
use Rattle.std.specs.declared.alloc.Global.{Global}
use Rattle.sm_io.specs.Causes.{HasCause, Quiet}
use Rattle.sm_io.specs.declared.files.FileRefusal.{FileRefusal}
use Rattle.sm_io.specs.declared.files.FileRefusal.TheVariants as file_refusal
use Rattle.sm_io.specs.declared.reading.ReadRefusal.{ReadRefusal}
use Rattle.sm_io.specs.declared.reading.ReadRefusal.TheVariants as read_refusal
use Rattle.sm_io.specs.declared.sink.PutRefusal.{PutRefusal}
use Rattle.sm_io.specs.declared.sink.PutRefusal.TheVariants as put_refusal
use Rattle.sm_io.specs.declared.source.Failed.{Failed}

-- a fault that has its cause isn't answered where the count stayed quiet
abbrev pub HasNoFault : Type 0 → ℕ → ℕ → Type 0
HasNoFault IsFault before now = HasCause IsFault before now → Quiet before now → IsFault → ⊥

abbrev pub QuietTake : Type 0
QuietTake = (answer : Result ℕ Failed) (before now : ℕ) → HasNoFault (IsErr answer) before now

abbrev pub QuietPut : Type 0
QuietPut = (answer : Result (Unit {0}) PutRefusal) (before now : ℕ) → HasNoFault (IsErrOf answer put_refusal.Failed) before now

abbrev pub QuietRead : Type 0
QuietRead = (answer : Result (Vec ℕ Global) FileRefusal) (before now : ℕ) → HasNoFault (IsErrOf answer file_refusal.Failed) before now

abbrev pub QuietWrite : Type 0
QuietWrite = (answer : Result (Unit {0}) FileRefusal) (before now : ℕ) → HasNoFault (IsErrOf answer file_refusal.Failed) before now

abbrev pub QuietReadAll : Type 0
QuietReadAll = (answer : Result (Vec ℕ Global) ReadRefusal) (before now : ℕ) → HasNoFault (IsErrOf answer read_refusal.Failed) before now
