-- What the shared ids of a file stand for.
use Rattle.std.specs.Prelude.{ℕ, List, [], Option, Some, None}
use Rattle.std.specs.declared.rc.Rc.{Rc}
use Rattle.std.specs.declared.alloc.Global.{Global}

abbrev pub shared_ids : Option (Rc (List (List ℕ)) Global) → List (List ℕ)
shared_ids None = []
shared_ids (Some block) = block.value
