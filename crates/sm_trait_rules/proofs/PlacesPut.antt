-- What the two passes of Trait.Place put, one by the table of traits and one by the shapes of traits.
use Rattle.std.proofs.Common.{◌⊎◌, inl, inr, ℕ, List}
use Rattle.std.specs.Prelude.{◌↔◌}
use Rattle.sm_model.specs.Graphs.{GraphMaps}
use Rattle.sm_model.specs.declared.event.ModelEvent.{ModelEvent}
use Rattle.sm_rules.specs.Traits.{StandsElsewhere}
use Rattle.sm_rules.specs.RuleEvents.{IsEventOf, Puts}
use Rattle.sm_rules.specs.declared.rule.Rule.TheVariants.{TraitPlace}
use Rattle.sm_rules.specs.TraitShapes.{HasWrongPlace, IsNotPicked}
use Rattle.sm_passes.proofs.PartsPut.{puts_parts}

place_parts : (g : GraphMaps) (id trait : List ℕ) → (StandsElsewhere g id trait ⊎ IsNotPicked g id trait) ↔ HasWrongPlace g id trait
place_parts g id trait =
    (λ either. elim either [ inl row ↦ HasWrongPlace.by_row row | inr shape ↦ HasWrongPlace.by_shape shape ], parted)
  where
    parted : HasWrongPlace g id trait → StandsElsewhere g id trait ⊎ IsNotPicked g id trait
    parted (HasWrongPlace.by_row row) = inl row
    parted (HasWrongPlace.by_shape shape) = inr shape

pub places_put : (g : GraphMaps) (before mid now : List ModelEvent) → Puts (IsEventOf TraitPlace (StandsElsewhere g)) before mid
    → Puts (IsEventOf TraitPlace (IsNotPicked g)) mid now → Puts (IsEventOf TraitPlace (HasWrongPlace g)) before now
places_put g before mid now h k =
    puts_parts TraitPlace (StandsElsewhere g) (IsNotPicked g) (HasWrongPlace g) before mid now (place_parts g) h k
