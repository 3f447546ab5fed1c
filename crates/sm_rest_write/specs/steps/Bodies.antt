-- The bytes of a body, whoever has them.
use Rattle.std.specs.Prelude.{ℕ, List}
use Rattle.sm_rest_write.specs.declared.body.BodyBytes.{BodyBytes}
use Rattle.sm_rest_write.specs.declared.body.BodyBytes.TheVariants.{Lent, Made}

abbrev pub bytes_of : BodyBytes → List ℕ
bytes_of (Lent bytes) = bytes.now
bytes_of (Made bytes) = bytes.items
