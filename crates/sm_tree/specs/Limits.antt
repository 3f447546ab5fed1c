-- The limits of trees, each a constant of the code.
use Rattle.std.specs.Prelude.{ℕ}
use Rattle.sm_tree.specs.declared.refusal.TheConstants.{MOST_LEVELS}
use Rattle.sm_tree.specs.declared.text.short.TheConstants.{SHORT_LEN}
use Rattle.sm_tree.specs.declared.build.TheConstants.{FIRST_ROOM}

-- the greatest number of levels that is read: 100
abbrev pub most_levels : ℕ
most_levels = MOST_LEVELS

-- the most bytes of a text that lies in its value: 16
abbrev pub short_len : ℕ
short_len = SHORT_LEN

-- the most entries or pairs that room is made for where the first comes: 4
abbrev pub first_room : ℕ
first_room = FIRST_ROOM
