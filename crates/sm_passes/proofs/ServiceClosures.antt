-- A walk over numbers from a service finds its closure.
use Rattle.std.proofs.Common.{◌≡◌, ◌<◌, inl, inr, ℕ, Bool, false, List, [], ◌∷◌, length, refl, sym, ◌∙◌, subst}
use Rattle.std.specs.Prelude.{◌↔◌}
use Rattle.std.specs.List.{Contains}
use Rattle.sm_model.specs.Graphs.{GraphMaps}
use Rattle.sm_model.specs.GraphView.{IsShapeNumber, maps_of}
use Rattle.sm_model.specs.Reaching.{AreLedTo, Finds, LeadsOn, id_of_number}
use Rattle.sm_model.specs.Relations.{IsNeighbor, Reaches, WalksBy}
use Rattle.sm_model.specs.declared.graph.Graph.{Graph}
use Rattle.sm_model.proofs.NumberedIds.{number_of, related_in}
use Rattle.sm_model.proofs.OneRising.{contains_either, contains_none}
use Rattle.sm_select.specs.Neighbors.{HasStep, StayBelow}
use Rattle.sm_select.specs.Ways.{AreSteps}
use Rattle.sm_passes.specs.Closures.{AreInside, AreInsideOf}

module _ (g : Graph) (rows : List (List ℕ)) (are : AreSteps g false rows) where
  abbrev m : GraphMaps
  m = maps_of g

  pub steps_below : StayBelow (length rows) rows
  steps_below a b h = subst (λ n. b < n) (sym are.whole) ((are.steps a b).0 h).1

  -- a step and no further one or more are a walk
  walk_led : (more : List ℕ) (s a b : ℕ) → HasStep rows s a → LeadsOn (HasStep rows) a more b
      → IsShapeNumber g b × Reaches m (id_of_number g s) (id_of_number g b)
  walk_led [] s a b step is = let h = (are.steps s b).0 (subst (HasStep rows s) is step) in (h.1, ([], h.2))
  walk_led (n ∷ more) s a b step h =
      let rest = walk_led more a n b h.0 h.1 in
      let first = (are.steps s a).0 step in
      (rest.0, (id_of_number g a ∷ rest.1.0, (first.2, rest.1.1)))

  led_walk : (between : List (List ℕ)) (s b : ℕ) → IsShapeNumber g s → IsShapeNumber g b
      → WalksBy m (id_of_number g s) between (id_of_number g b)
      → (a : ℕ) × HasStep rows s a × ((more : List ℕ) × LeadsOn (HasStep rows) a more b)
  led_walk [] s b from to h = (b, (are.steps s b).1 (from, to, h), ([], refl))
  led_walk (n ∷ between) s b from to h =
      let k = number_of g n (related_in h.0.0 m (id_of_number g s) n h.0.2).1 in
      let step : HasStep rows s k.0 = (are.steps s k.0).1 (from, k.1, subst (IsNeighbor m (id_of_number g s)) (sym k.2) h.0) in
      let rest = led_walk between k.0 b k.1 to (subst (λ i. WalksBy m i between (id_of_number g b)) (sym k.2) h.1) in
      (k.0, step, (rest.0 ∷ rest.2.0, (rest.1, rest.2.1)))

  walked : (s : ℕ) → IsShapeNumber g s → (found : List ℕ) (marks : List Bool) → ((a : ℕ) → Contains found a ↔ HasStep rows s a)
      → length marks ≡ length rows → AreLedTo (HasStep rows) found marks → AreInside g s marks
  walked s from found marks first whole led = record {
    whole = whole ∙ are.whole;
    marked = λ k. (
      λ h. let r = (led k).0 h in walk_led r.2.0 s r.0 k ((first r.0).0 r.1) r.2.1,
      λ h. let w = led_walk h.1.0 s k from h.0 h.1.1 in (led k).1 (w.0, (first w.0).1 w.1, w.2),
    );
  }

  -- the steps from the service first, where nothing is found yet
  pub walked_all : (s : ℕ) → IsShapeNumber g s → (none : List ℕ) → none ≡ [] → (before first marks : List Bool) (found : List ℕ)
      → Finds (HasStep rows s) before none first found → length marks ≡ length rows → AreLedTo (HasStep rows) found marks
      → AreInsideOf g (s ∷ []) marks
  walked_all s from none is before first marks found finds whole led = (
    whole ∙ are.whole,
    λ k there. elim (contains_either s k [] there) [
      | inl same ↦ subst (λ j. AreInside g j marks) same (walked s from found marks starts whole led)
      | inr other ↦ absurd (contains_none k other)
    ],
  )
    where
      starts : (a : ℕ) → Contains found a ↔ HasStep rows s a
      starts a = (
        λ h. elim ((finds.joins a).0 h) [
          | inl old ↦ absurd (contains_none a (subst (λ xs. Contains xs a) is old))
          | inr step ↦ step
        ],
        λ step. (finds.joins a).1 (inr step),
      )
