use Rattle.std.proofs.Common.{◌≡◌, ◌++◌, drop}
use Rattle.sm_bind.specs.BoundView.{bound_of}
use Rattle.sm_bind_read.specs.Parts.{prefixed_texts}
use Rattle.sm_bind_read.proofs.maps.lower_rows.Given as goal

abbrev pub invariant-loop-field : goal.invariant-loop-field
invariant-loop-field l =
    l.rows.items ++ prefixed_texts (bound_of l.place) l.prefix (drop l.field-index l.fields)
    ≡ prefixed_texts (bound_of l.place) l.prefix l.fields
