-- What a list that several rows share stands for.
use Rattle.std.specs.Prelude.{List, [], Option, Some, None}
use Rattle.std.specs.declared.rc.Rc.{Rc}
use Rattle.std.specs.declared.alloc.Global.{Global}

abbrev pub shared_list : {X : Type 0} → Option (Rc (List X) Global) → List X
shared_list None = []
shared_list (Some block) = block.value
