-- Where the field `connection: close` is put among others.
use Rattle.std.specs.Prelude.{ℕ, suc, List, [], ◌∷◌, if◌then◌else◌}
use Rattle.sm_http.specs.declared.message.Field.{Field}
use Rattle.sm_http.specs.Connections.{is_length_field}

abbrev pub close_place : List Field → ℕ
close_place [] = 0
close_place (last ∷ []) = if is_length_field last then 0 else 1
close_place (f ∷ next ∷ fs) = suc (close_place (next ∷ fs))
