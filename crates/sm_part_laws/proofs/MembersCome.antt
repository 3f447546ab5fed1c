-- A member for which one thing stands that comes to a value has the value, whatever an absent one would have.
use Rattle.std.proofs.Common.{◌≡◌, ℕ, cond, List, [], ◌∷◌, ap, ◌∙◌}
use Rattle.std.specs.Prelude.{Ok, Some}
use Rattle.sm_shapes.specs.Places.{member_place}
use Rattle.sm_shapes.specs.Values.{Val}
use Rattle.sm_codec.specs.Readings.{Absence, Child, absent_reading, member_reading, present_reading}
use Rattle.sm_part_laws.specs.Coming.{ComeTo}

pub member_comes : (absent : Absence) (k : ℕ) (v : Val) (children : List Child) → ComeTo (member_place k) v children
    → member_reading absent k children ≡ Ok (Some v)
member_comes absent k v [] h = absurd h
member_comes absent k v (child ∷ []) h =
    ap (λ b. cond b (absent_reading (absent k)) (present_reading (child.reading (member_place k)))) h.0 ∙ ap present_reading h.1
member_comes absent k v (child ∷ more ∷ children) h = absurd h
