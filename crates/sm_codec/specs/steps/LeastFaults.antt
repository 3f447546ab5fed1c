-- Of the faults of a level a frame keeps the one that stands first in the order of the level's parts.
use Rattle.std.specs.Prelude.{Bool, cond, Option, Some, None}
use Rattle.sm_codec.specs.FaultLists.{FaultAt}

-- the new fault where none is kept, or the one that is kept gives way
abbrev pub least_of : (FaultAt → Bool) → FaultAt → Option FaultAt → Option FaultAt
least_of gives new None = Some new
least_of gives new (Some old) = cond (gives old) (Some new) (Some old)
