-- The place of a refusal, seen from the whole bytes of which some were read.
use Rattle.std.specs.Prelude.{ℕ, ◌+◌, ◌<◌}
use Rattle.sm_tree.specs.declared.refusal.SyntaxRefusal.{SyntaxRefusal}
use Rattle.sm_tree.specs.declared.refusal.SyntaxRefusal.TheVariants.{Bad, Ended, TooDeep, KeyKind, NoMemory}

-- the refusal, its place counted from so many bytes further on
abbrev pub moved_by : ℕ → SyntaxRefusal → SyntaxRefusal
moved_by n (Bad at) = Bad (n + at)
moved_by n Ended = Ended
moved_by n (TooDeep at) = TooDeep (n + at)
moved_by n (KeyKind at) = KeyKind (n + at)
moved_by n NoMemory = NoMemory

-- the place of a refusal is one of so many bytes
abbrev pub IsWithin : ℕ → SyntaxRefusal → Type 0
IsWithin n (Bad at) = at < n
IsWithin n Ended = Unit {0}
IsWithin n (TooDeep at) = at < n
IsWithin n (KeyKind at) = at < n
IsWithin n NoMemory = Unit {0}
