-- What a Text of the code stands for: its bytes, wherever they are.
use Rattle.std.specs.Prelude.{ℕ, List, string_bytes}
use Rattle.sm_tree.specs.declared.text.TextForm.{TextForm}
use Rattle.sm_tree.specs.declared.text.TextForm.TheVariants.{Short, Long}

abbrev pub bytes_of : TextForm → List ℕ
bytes_of (Short text) = text
bytes_of (Long text) = string_bytes text
