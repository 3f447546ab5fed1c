-- The statements of several files, as data.
use Rattle.std.specs.Prelude.{List, map}
use Rattle.std.specs.Global.{Vec}
use Rattle.sm_model.specs.Said.{Said}
use Rattle.sm_model.specs.SaidView.{statements_view}
use Rattle.sm_model.specs.declared.statement.Statement.{Statement}

abbrev pub files_view : List (Vec Statement) → List (List Said)
files_view files = map (λ file. statements_view file.items) files
