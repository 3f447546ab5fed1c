-- Links whose bytes are given beforehand.
use Rattle.std.specs.Prelude.{ℕ, List}
use Rattle.std.specs.declared.alloc.Global.{Global}
use Rattle.std.specs.Prelude.{Vec}
use Rattle.sm_doors.specs.declared.doors.Phase.{Phase}
use Rattle.sm_doors.specs.declared.doors.Phase.TheVariants.{Lent, Open, Shut}

-- what the front of a link asks, and what its back answers
abbrev pub link_bytes : Vec ℕ Global × Vec ℕ Global → List ℕ × List ℕ
link_bytes link = (link.0.items, link.1.items)

-- how many links are out
abbrev pub out_of : Phase → ℕ
out_of Shut = 0
out_of Open = 0
out_of Lent = 1
