-- Images by one step, form by form.
use Rattle.std.proofs.Common.{◌≡◌, ℕ, Bool, true, false, List, length, get_or, map, Option, Result, IfOk, sym, ap, ◌∙◌, subst}
use Rattle.std.specs.Prelude.{◌↔◌, not}
use Rattle.std.proofs.lemmas.Result.{IfOk-weaker}
use Rattle.sm_model.specs.GraphView.{entries_of, maps_of}
use Rattle.sm_model.specs.Relations.{IsNeighbor, Reaches}
use Rattle.sm_model.specs.declared.graph.Graph.{Graph}
use Rattle.sm_model.specs.declared.kind.Kind.{Kind}
use Rattle.sm_model.specs.declared.relation.Relation.{Relation}
use Rattle.sm_model.specs.Reaching.{AreMarks, IsMarked}
use Rattle.sm_select.specs.Images.{AreImage, turned}
use Rattle.sm_select.specs.Picks.{Compares, Goes, LeadsAlong, PickedByOne, Picks, folded}
use Rattle.sm_select.specs.Selectors.{Step, any_shape, of_kind, has, compares, forward, back, walk, along, picked_by, picks_none}
use Rattle.sm_select.specs.Selectors.{picks_some}
use Rattle.sm_select.specs.Selectors.{alternatives_of, steps_of}
use Rattle.sm_select.specs.View.{path_view, selector_view, selectors_view, step_view}
use Rattle.sm_select.specs.declared.selector.Compare.{Compare as Comparison}
use Rattle.sm_select.specs.declared.selector.Selector.{Selector}
use Rattle.sm_select.specs.declared.selector.SelectorPath.{SelectorPath}
use Rattle.sm_select.specs.declared.selector.Selectors.{Selectors}
use Rattle.sm_select.specs.declared.selector.SelectorStep.{SelectorStep}
use Rattle.sm_select.specs.declared.selector.SelectorStep.TheVariants.{Any, Named, Has, Compare, Forward, Back, Walk, Along, Is, Not, Test}
use Rattle.sm_select.specs.steps.Filtering.{AreKept, HasSomeValue, IsNamedAt}
use Rattle.sm_select.specs.steps.Imaging.{ArePicking}
use Rattle.sm_select.proofs.ImageNumbers.{kept_image, same_image}
use Rattle.sm_select.proofs.NineRelations.{other_image}
use Rattle.sm_select.proofs.PickedImages.{kept_none, kept_some}
use Rattle.sm_select.proofs.SelectorViews.{step_any, step_named, step_has, step_compare, step_forward, step_back, step_walk, step_along}
use Rattle.sm_select.proofs.SelectorViews.{step_is, step_not, step_test}

module _ {T E : Type 0} (items : T → List Bool) (g : Graph) (turn : Bool) (starts : List Bool)
    (long : length starts ≡ length (entries_of g)) where
  -- the result of a step is the image by a relation
  abbrev pub Comes : Result T E → (List ℕ → List ℕ → Type 0) → Type 0
  Comes r Leads = IfOk r (λ m. AreImage g starts (turned turn Leads) (items m))

  abbrev pub ComesKept : Result T E → (List ℕ → Type 0) → Type 0
  ComesKept r Holds = IfOk r (λ m. AreKept g starts Holds (items m))

  told : (v : SelectorStep) (s : Step) → step_view v ≡ s → (r : Result T E) → Comes r (Goes (maps_of g) s)
      → Comes r (Goes (maps_of g) (step_view v))
  told v s e r h = subst (λ t. Comes r (Goes (maps_of g) t)) (sym e) h

  kept_comes : (Leads : List ℕ → List ℕ → Type 0) (Holds : List ℕ → Type 0)
      → ((from to : List ℕ) → Leads from to ↔ ((to ≡ from) × Holds from)) → (r : Result T E) → ComesKept r Holds → Comes r Leads
  kept_comes Leads Holds stays r h =
      IfOk-weaker r (λ m. AreKept g starts Holds (items m)) (λ m. AreImage g starts (turned turn Leads) (items m))
      (λ m kept. kept_image g Leads Holds stays turn starts (items m) long kept) h

  pub comes_any : (v : SelectorStep) → v ≡ Any → (r : Result T E) → IfOk r (λ m. items m ≡ starts)
      → Comes r (Goes (maps_of g) (step_view v))
  comes_any v is r h =
      let Leads : List ℕ → List ℕ → Type 0 = λ from to. to ≡ from in
      let same : AreImage g starts (turned turn Leads) starts =
      same_image g Leads (λ id. Unit {0}) (λ from to. (λ e. (e, tt), λ e. e.0)) turn starts long (λ id. tt) in
      told v any_shape (ap step_view is ∙ step_any) r
      (IfOk-weaker r (λ m. items m ≡ starts) (λ m. AreImage g starts (turned turn Leads) (items m))
      (λ m e. subst (AreImage g starts (turned turn Leads)) (sym e) same) h)

  pub comes_named : (v : SelectorStep) (named : Option Kind) → v ≡ Named named → (r : Result T E)
      → ComesKept r (IsNamedAt named (maps_of g)) → Comes r (Goes (maps_of g) (step_view v))
  comes_named v named is r h =
      told v (of_kind named) (ap step_view is ∙ step_named named) r
      (kept_comes (Goes (maps_of g) (of_kind named)) (IsNamedAt named (maps_of g)) (λ from to. (λ e. e, λ e. e)) r h)

  pub comes_has : (v : SelectorStep) (path : SelectorPath) → v ≡ Has path → (r : Result T E)
      → ComesKept r (HasSomeValue (path_view path) (maps_of g)) → Comes r (Goes (maps_of g) (step_view v))
  comes_has v path is r h =
      told v (has (path_view path)) (ap step_view is ∙ step_has path) r
      (kept_comes (Goes (maps_of g) (has (path_view path))) (HasSomeValue (path_view path) (maps_of g)) (λ from to. (λ e. e, λ e. e)) r h)

  pub comes_compare : (v : SelectorStep) (c : Comparison) → v ≡ Compare c → (r : Result T E)
      → ComesKept r (λ id. Compares (maps_of g) id (path_view c.path) c.op c.fold (map (folded c.fold) c.values))
      → Comes r (Goes (maps_of g) (step_view v))
  comes_compare v c is r h =
      told v (compares (path_view c.path) c.op c.values c.fold) (ap step_view is ∙ step_compare c) r
      (kept_comes (Goes (maps_of g) (compares (path_view c.path) c.op c.values c.fold))
      (λ id. Compares (maps_of g) id (path_view c.path) c.op c.fold (map (folded c.fold) c.values))
      (λ from to. (λ e. e, λ e. e)) r h)

  pub comes_forward : (v : SelectorStep) → v ≡ Forward → (r : Result T E) → Comes r (IsNeighbor (maps_of g))
      → Comes r (Goes (maps_of g) (step_view v))
  comes_forward v is r h = told v forward (ap step_view is ∙ step_forward) r h

  pub comes_back : (v : SelectorStep) → v ≡ Back → (r : Result T E)
      → IfOk r (λ m. AreImage g starts (turned (not turn) (IsNeighbor (maps_of g))) (items m))
      → Comes r (Goes (maps_of g) (step_view v))
  comes_back v is r h =
      told v back (ap step_view is ∙ step_back) r
      (IfOk-weaker r (λ m. AreImage g starts (turned (not turn) (IsNeighbor (maps_of g))) (items m))
      (λ m. AreImage g starts (turned turn (λ from to. IsNeighbor (maps_of g) to from)) (items m))
      (λ m are. other_image g turn starts (items m) are) h)

  pub comes_walk : (v : SelectorStep) → v ≡ Walk → (r : Result T E) → Comes r (Reaches (maps_of g))
      → Comes r (Goes (maps_of g) (step_view v))
  comes_walk v is r h = told v walk (ap step_view is ∙ step_walk) r h

  pub comes_along : (v : SelectorStep) (names : List Relation) → v ≡ Along names → (r : Result T E)
      → Comes r (LeadsAlong (maps_of g) names) → Comes r (Goes (maps_of g) (step_view v))
  comes_along v names is r h = told v (along names) (ap step_view is ∙ step_along names) r h

  pub comes_is : (v : SelectorStep) (ss : Selectors) → v ≡ Is ss → (r : Result T E)
      → Comes r (PickedByOne (maps_of g) (alternatives_of (map steps_of (selectors_view ss)))) → Comes r (Goes (maps_of g) (step_view v))
  comes_is v ss is r h = told v (picked_by (alternatives_of (map steps_of (selectors_view ss)))) (ap step_view is ∙ step_is ss) r h

  pub comes_not : (v : SelectorStep) (s : Selector) → v ≡ Not s → (picking : List Bool)
      → ArePicking g (Picks (maps_of g) (steps_of (selector_view s))) picking → (r : Result T E)
      → IfOk r (λ m. AreMarks (length starts) (λ k. IsMarked starts k × (get_or picking k false ≡ false)) (items m))
      → Comes r (Goes (maps_of g) (step_view v))
  comes_not v s is picking are r h =
      let Leads : List ℕ → List ℕ → Type 0 = Picks (maps_of g) (steps_of (selector_view s)) in
      told v (picks_none (steps_of (selector_view s))) (ap step_view is ∙ step_not s) r
      (kept_comes (Goes (maps_of g) (picks_none (steps_of (selector_view s)))) (λ id. (other : List ℕ) → Leads id other → ⊥)
      (λ from to. (λ e. e, λ e. e)) r
      (IfOk-weaker r (λ m. AreMarks (length starts) (λ k. IsMarked starts k × (get_or picking k false ≡ false)) (items m))
      (λ m. AreKept g starts (λ id. (other : List ℕ) → Leads id other → ⊥) (items m))
      (λ m marks. kept_none g Leads starts picking (items m) long are marks) h))

  pub comes_test : (v : SelectorStep) (ss : Selectors) → v ≡ Test ss → (picking : List Bool)
      → ArePicking g (PickedByOne (maps_of g) (alternatives_of (map steps_of (selectors_view ss)))) picking → (r : Result T E)
      → IfOk r (λ m. AreMarks (length starts) (λ k. IsMarked starts k × (get_or picking k false ≡ true)) (items m))
      → Comes r (Goes (maps_of g) (step_view v))
  comes_test v ss is picking are r h =
      let Leads : List ℕ → List ℕ → Type 0 = PickedByOne (maps_of g) (alternatives_of (map steps_of (selectors_view ss))) in
      told v (picks_some (alternatives_of (map steps_of (selectors_view ss)))) (ap step_view is ∙ step_test ss) r
      (kept_comes (Goes (maps_of g) (picks_some (alternatives_of (map steps_of (selectors_view ss)))))
      (λ id. (other : List ℕ) × Leads id other) (λ from to. (λ e. e, λ e. e)) r
      (IfOk-weaker r (λ m. AreMarks (length starts) (λ k. IsMarked starts k × (get_or picking k false ≡ true)) (items m))
      (λ m. AreKept g starts (λ id. (other : List ℕ) × Leads id other) (items m))
      (λ m marks. kept_some g Leads starts picking (items m) long are marks) h))
