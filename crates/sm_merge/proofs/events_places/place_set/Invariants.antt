use Rattle.std.proofs.Common.{◌≡◌, ℕ, List, drop, bytes_eq}
use Rattle.std.specs.Prelude.{◌||◌}
use Rattle.std.specs.List.{list_any}
use Rattle.sm_merge.specs.steps.Known.{has_text}
use Rattle.sm_merge.proofs.events_places.place_set.Given as goal

abbrev pub invariant-loop-place : goal.invariant-loop-place
invariant-loop-place l = (id : List ℕ)
    → (has_text l.set id || list_any (λ place. bytes_eq place id) (drop l.place-index l.places))
    ≡ list_any (λ place. bytes_eq place id) l.places
