-- Images by the steps of a selector of the code, one step after the other, and by one selector after the other.
use Rattle.std.proofs.Common.{◌≡◌, ◌⊎◌, ℕ, ◌+◌, ◌-◌, ◌<◌, ◌≤◌, Bool, true, false, List, ◌∷◌, length, get_or, drop, map, sym, ap, ◌∙◌}
use Rattle.std.proofs.Common.{subst, arith}
use Rattle.std.specs.Prelude.{◌↔◌}
use Rattle.std.proofs.lemmas.List.{drop_all, drop_more}
use Rattle.sm_model.specs.GraphView.{entries_of, maps_of}
use Rattle.sm_model.specs.declared.graph.Graph.{Graph}
use Rattle.sm_model.specs.Reaching.{IsMarked}
use Rattle.sm_select.specs.Images.{AreImage, turned}
use Rattle.sm_select.specs.Picks.{Goes, PickedByOne, Picks}
use Rattle.sm_select.specs.Selectors.{Steps, Alternatives, alternatives_of, steps_of}
use Rattle.sm_select.specs.View.{selector_view, selector_views, step_view, step_views}
use Rattle.sm_select.specs.declared.selector.Selector.{Selector}
use Rattle.sm_select.specs.declared.selector.SelectorStep.{SelectorStep}
use Rattle.sm_select.specs.steps.Imaging.{IsInImage, LeadsOn}
use Rattle.sm_select.proofs.PickedImages.{any_ended, any_more, back_more, on_ended, on_more, same_on}

-- what stands at a place, and what behind it
pub rest_at : {X : Type 0} (xs : List X) (i : ℕ) (x : X) → i < length xs → x ≡ get_or xs i x → drop i xs ≡ x ∷ drop (i + 1) xs
rest_at xs i x lt is = drop_more xs i x lt ∙ ap (λ y. y ∷ drop (i + 1) xs) (sym is)

module _ (g : Graph) where
  pub on_step : (starts marks now : List Bool) (steps : List SelectorStep) (i : ℕ) (x : SelectorStep) (all : Steps) → i < length steps
      → x ≡ get_or steps i x → length marks ≡ length (entries_of g) → AreImage g marks (turned false (Goes (maps_of g) (step_view x))) now
      → LeadsOn g starts marks (steps_of (step_views (drop i steps))) all
      → LeadsOn g starts now (steps_of (step_views (drop (i + 1) steps))) all
  on_step starts marks now steps i x all lt is whole step so =
      on_more g starts marks now (step_view x) (steps_of (step_views (drop (i + 1) steps))) all whole step
      (subst (λ ss. LeadsOn g starts marks (steps_of (step_views ss)) all) (rest_at steps i x lt is) so)

  pub on_all : (starts marks : List Bool) (steps : List SelectorStep) (i : ℕ) (all : Steps) → length steps ≤ i
      → length marks ≡ length (entries_of g) → LeadsOn g starts marks (steps_of (step_views (drop i steps))) all
      → AreImage g starts (Picks (maps_of g) all) marks
  on_all starts marks steps i all end whole so =
      on_ended g starts marks all whole (subst (λ ss. LeadsOn g starts marks (steps_of (step_views ss)) all) (drop_all i steps end) so)

  pub back_none : (ends marks : List Bool) (steps : List SelectorStep) → length ends ≡ length (entries_of g) → marks ≡ ends
      → AreImage g ends (turned true (Picks (maps_of g) (steps_of (step_views (drop (length steps - 0) steps))))) marks
  back_none ends marks steps whole same =
      subst (AreImage g ends (turned true (Picks (maps_of g) (steps_of (step_views (drop (length steps - 0) steps)))))) (sym same)
      (subst (λ ss. AreImage g ends (turned true (Picks (maps_of g) (steps_of (step_views ss)))) ends)
      (sym (drop_all (length steps - 0) steps (omega arith))) (same_on g true ends whole))

  pub back_step : (ends marks now : List Bool) (steps : List SelectorStep) (done : ℕ) (x : SelectorStep) → done < length steps
      → x ≡ get_or steps (length steps - 1 - done) x → length ends ≡ length (entries_of g)
      → AreImage g ends (turned true (Picks (maps_of g) (steps_of (step_views (drop (length steps - done) steps))))) marks
      → AreImage g marks (turned true (Goes (maps_of g) (step_view x))) now
      → AreImage g ends (turned true (Picks (maps_of g) (steps_of (step_views (drop (length steps - (done + 1)) steps))))) now
  back_step ends marks now steps done x lt is whole so step =
      let i = length steps - 1 - done in
      let here : length steps - (done + 1) ≡ i = omega (arith, lt) in
      let next : i + 1 ≡ length steps - done = omega (arith, lt) in
      subst (λ k. AreImage g ends (turned true (Picks (maps_of g) (steps_of (step_views (drop k steps))))) now) (sym here)
      (subst (λ ss. AreImage g ends (turned true (Picks (maps_of g) (steps_of (step_views ss)))) now)
      (sym (rest_at steps i x (omega (arith, lt)) is))
      (back_more g ends marks now (step_view x) (steps_of (step_views (drop (i + 1) steps))) whole
      (subst (λ k. AreImage g ends (turned true (Picks (maps_of g) (steps_of (step_views (drop k steps))))) marks) (sym next) so) step))

  pub back_all : (ends marks : List Bool) (steps : List SelectorStep) (done : ℕ) → length steps ≤ done
      → AreImage g ends (turned true (Picks (maps_of g) (steps_of (step_views (drop (length steps - done) steps))))) marks
      → AreImage g ends (turned true (Picks (maps_of g) (steps_of (step_views steps)))) marks
  back_all ends marks steps done end so =
      let none : length steps - done ≡ 0 = omega (arith, end) in
      subst (λ k. AreImage g ends (turned true (Picks (maps_of g) (steps_of (step_views (drop k steps))))) marks) none so

  -- one selector after the other
  pub any_step : (turn : Bool) (starts marks more now : List Bool) (ss : List Selector) (i : ℕ) (x : Selector) (all : Alternatives)
      → i < length ss → x ≡ get_or ss i x
      → AreImage g starts (turned turn (Picks (maps_of g) (steps_of (selector_view x)))) more
      → ((k : ℕ) → IsMarked now k ↔ (IsMarked marks k ⊎ IsMarked more k))
      → ((k : ℕ) → (IsMarked marks k ⊎ IsInImage g starts (turned turn (PickedByOne (maps_of g)
      (alternatives_of (map steps_of (selector_views (drop i ss)))))) k) ↔ IsInImage g starts (turned turn (PickedByOne (maps_of g) all)) k)
      → (k : ℕ) → (IsMarked now k ⊎ IsInImage g starts (turned turn (PickedByOne (maps_of g)
      (alternatives_of (map steps_of (selector_views (drop (i + 1) ss)))))) k) ↔ IsInImage g starts (turned turn (PickedByOne
      (maps_of g) all)) k
  any_step turn starts marks more now ss i x all lt is are too so =
      any_more g turn starts marks more now (steps_of (selector_view x))
      (alternatives_of (map steps_of (selector_views (drop (i + 1) ss)))) all
      are too
      (subst (λ xs. (k : ℕ) → (IsMarked marks k ⊎ IsInImage g starts (turned turn (PickedByOne (maps_of g)
      (alternatives_of (map steps_of (selector_views xs))))) k) ↔ IsInImage g starts (turned turn (PickedByOne (maps_of g) all)) k)
      (rest_at ss i x lt is) so)

  pub any_all : (turn : Bool) (starts marks : List Bool) (ss : List Selector) (i : ℕ) (all : Alternatives) → length ss ≤ i
      → length marks ≡ length (entries_of g)
      → ((k : ℕ) → (IsMarked marks k ⊎ IsInImage g starts (turned turn (PickedByOne (maps_of g)
      (alternatives_of (map steps_of (selector_views (drop i ss)))))) k) ↔ IsInImage g starts (turned turn (PickedByOne (maps_of g) all)) k)
      → AreImage g starts (turned turn (PickedByOne (maps_of g) all)) marks
  any_all turn starts marks ss i all end whole so =
      any_ended g turn starts marks all whole
      (subst (λ xs. (k : ℕ) → (IsMarked marks k ⊎ IsInImage g starts (turned turn (PickedByOne (maps_of g)
      (alternatives_of (map steps_of (selector_views xs))))) k) ↔ IsInImage g starts (turned turn (PickedByOne (maps_of g) all)) k)
      (drop_all i ss end) so)
