-- What comes to a place, and is a value of the place where it has no fault.
use Rattle.std.proofs.Common.{◌≡◌, ◌↔◌, List, [], ◌∷◌, refl, ap, subst}
use Rattle.std.specs.Prelude.{Result, Ok, Err}
use Rattle.sm_shapes.specs.Fitting.{Fits}
use Rattle.sm_shapes.specs.Places.{Place}
use Rattle.sm_shapes.specs.Values.{Val}
use Rattle.sm_shapes.specs.declared.fault.FaultKind.{FaultKind}
use Rattle.sm_codec.specs.Codec.{Codec, broken_at}
use Rattle.sm_codec.specs.FaultLists.{FaultAt, Reading, faults_in, here, settled}
use Rattle.sm_codec.specs.Readings.{leaf_reading}
use Rattle.sm_codec.proofs.NoFaults.{none_here}

-- what comes to a place is a value of the place, or a fault at least
abbrev pub ReadingFits : Codec → Place → Reading → Type 0
ReadingFits c p (Ok v) = Fits c.table c.test p v
ReadingFits c p (Err []) = ⊥
ReadingFits c p (Err (f ∷ fs)) = Unit {0}

pub settled_fits : (c : Codec) (p : Place) (fs : List FaultAt) (v : Val) → (fs ≡ [] → Fits c.table c.test p v)
    → ReadingFits c p (settled fs v)
settled_fits c p [] v h = h refl
settled_fits c p (f ∷ fs) v h = tt

pub leaf_fits : (c : Codec) (p : Place) (r : Result Val FaultKind)
    → ((v : Val) → r ≡ Ok v → broken_at c p v ≡ [] → Fits c.table c.test p v) → ReadingFits c p (leaf_reading c p r)
leaf_fits c p (Ok v) h = settled_fits c p (here (broken_at c p v)) v (λ e. h v refl (none_here (broken_at c p v) e))
leaf_fits c p (Err kind) h = tt

-- without a fault it is a value
pub clean_fits : (c : Codec) (p : Place) (r : Reading) → ReadingFits c p r → (faults_in r ≡ []) ↔ ((v : Val) × (r ≡ Ok v))
clean_fits c p (Ok v) h = (λ e. (v, refl), λ x. refl)
clean_fits c p (Err []) h = absurd h
clean_fits c p (Err (f ∷ fs)) h = (λ e. absurd cc, λ x. ap faults_in x.1)

pub value_fits : (c : Codec) (p : Place) (r : Reading) (v : Val) → ReadingFits c p r → r ≡ Ok v → Fits c.table c.test p v
value_fits c p r v h e = subst (ReadingFits c p) e h
