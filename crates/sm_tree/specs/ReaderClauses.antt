-- What readers that take pieces promise, whatever their format: of what their sink takes, and of a refusal that was given.
use Rattle.std.specs.Prelude.{ℕ, List, ◌++◌, Option, None, Some, Result, Ok, Err}
use Rattle.sm_tree.specs.Streams.{Takes, TakesSame}
use Rattle.sm_tree.specs.declared.refusal.SyntaxRefusal.{SyntaxRefusal}
use Rattle.sm_tree.specs.declared.refusal.SyntaxRefusal.TheVariants.{Bad, Ended, TooDeep, KeyKind, NoMemory}

-- the sink takes what it took, unless this says that memory ran out
abbrev pub TakesBeside : Takes → Takes → SyntaxRefusal → Type 0
TakesBeside T U (Bad at) = TakesSame T U
TakesBeside T U Ended = TakesSame T U
TakesBeside T U (TooDeep at) = TakesSame T U
TakesBeside T U (KeyKind at) = TakesSame T U
TakesBeside T U NoMemory = Unit {0}

abbrev pub TakesStill : {A : Type 0} → Takes → Takes → Result A SyntaxRefusal → Type 0
TakesStill T U (Ok x) = TakesSame T U
TakesStill T U (Err refusal) = TakesBeside T U refusal

-- by this relation a reader stands for some bytes; where those are refused at a place, it stands for them with any more behind them
abbrev pub StaysRefused : {R : Type 0} → (R → List ℕ → Type 0) → Option SyntaxRefusal → R → List ℕ → Type 0
StaysRefused Stands None r more = Unit {0}
StaysRefused Stands (Some NoMemory) r more = Unit {0}
StaysRefused Stands (Some Ended) r more = Unit {0}
StaysRefused Stands (Some (Bad at)) r more = (bytes : List ℕ) → Stands r bytes → Stands r (bytes ++ more)
StaysRefused Stands (Some (TooDeep at)) r more = (bytes : List ℕ) → Stands r bytes → Stands r (bytes ++ more)
StaysRefused Stands (Some (KeyKind at)) r more = (bytes : List ℕ) → Stands r bytes → Stands r (bytes ++ more)
