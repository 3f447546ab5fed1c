-- The id that a value of the code stands for.
use Rattle.std.specs.Option.{option_copied}
use Rattle.sm_ids.specs.declared.id.ShapeIdRef.{ShapeIdRef}
use Rattle.sm_ids.specs.IdText.{Id}

abbrev pub id_of : ShapeIdRef → Id
id_of id = record { namespace = id.namespace.now; name = id.name.now; member = option_copied id.member }
