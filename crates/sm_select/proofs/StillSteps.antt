-- Steps that don't move: what they pick is where they started, so they keep places of some numbers, each by itself.
use Rattle.std.proofs.Common.{◌≡◌, ◌⊎◌, inl, inr, ℕ, ◌<◌, ◌≤◌, ◌+◌, zero, suc, Bool, true, false, List, [], ◌∷◌, length, get_or, drop, map}
use Rattle.std.proofs.Common.{Option, Result, IfOk, refl, sym, ap, ◌∙◌, subst, arith}
use Rattle.std.specs.Prelude.{◌↔◌, ◌&&◌, replicate}
use Rattle.std.specs.List.{Contains}
use Rattle.std.proofs.lemmas.List.{drop_all, get_or_default}
use Rattle.std.proofs.lemmas.Result.{IfOk-weaker}
use Rattle.sm_model.specs.Graphs.{GraphMaps}
use Rattle.sm_model.specs.GraphView.{IsShapeNumber, maps_of}
use Rattle.sm_model.specs.PreludeShapes.{is_prelude_id}
use Rattle.sm_model.specs.declared.graph.Graph.{Graph}
use Rattle.sm_model.specs.declared.kind.Kind.{Kind}
use Rattle.sm_model.specs.Reaching.{AreMarks, IsMarked, id_of_number}
use Rattle.sm_model.proofs.Searching.{and_left, and_right}
use Rattle.sm_model.proofs.Worklist.{apart, marked_within, none_marked}
use Rattle.sm_select.specs.Picks.{Compares, Goes, IsPicked, IsStart, PickedByOne, Picks, folded}
use Rattle.sm_select.specs.Selectors.{Step, any_shape, of_kind, has, compares, forward, back, walk, along, picked_by, picks_none}
use Rattle.sm_select.specs.Selectors.{picks_some, alternatives_of, steps_of}
use Rattle.sm_select.specs.Selectors.{Steps, no_steps, then, Alternatives, no_selectors, or_by}
use Rattle.sm_select.specs.View.{path_view, selector_view, selector_views, selectors_view, step_view, step_views}
use Rattle.sm_select.specs.declared.selector.Compare.{Compare as Comparison}
use Rattle.sm_select.specs.declared.selector.Selector.{Selector}
use Rattle.sm_select.specs.declared.selector.SelectorPath.{SelectorPath}
use Rattle.sm_select.specs.declared.selector.Selectors.{Selectors}
use Rattle.sm_select.specs.declared.selector.SelectorStep.{SelectorStep}
use Rattle.sm_select.specs.declared.selector.SelectorStep.TheVariants.{Any, Named, Has, Compare, Is, Not, Test}
use Rattle.sm_select.specs.steps.Filtering.{HasSomeValue, IsNamedAt}
use Rattle.sm_select.specs.steps.Staying.{AreKeptAmong, AreStill, all_stay, id_among, each_stays, stays}
use Rattle.sm_select.proofs.ImageNumbers.{in_graph}
use Rattle.sm_select.proofs.MarkedNumbers.{marks_same, unset}
use Rattle.sm_select.proofs.SelectorLists.{rest_at}
use Rattle.sm_select.proofs.SelectorViews.{step_any, step_named, step_has, step_compare, step_is, step_not, step_test}

mutual
  -- what a step, steps and one of some selectors pick is where they started
  pub step_still : (m : GraphMaps) (s : Step) (a b : List ℕ) → stays s ≡ true → Goes m s a b → b ≡ a
  step_still m any_shape a b h goes = goes
  step_still m (of_kind named) a b h goes = goes.0
  step_still m (has attribute) a b h goes = goes.0
  step_still m (compares attribute op values fold) a b h goes = goes.0
  step_still m forward a b h goes = absurd (apart h)
  step_still m back a b h goes = absurd (apart h)
  step_still m walk a b h goes = absurd (apart h)
  step_still m (along relations) a b h goes = absurd (apart h)
  step_still m (picked_by ss) a b h goes = one_still m ss a b h goes
  step_still m (picks_none steps) a b h goes = goes.0
  step_still m (picks_some ss) a b h goes = goes.0

  pub all_still : (m : GraphMaps) (ss : Steps) (a b : List ℕ) → all_stay ss ≡ true → Picks m ss a b → b ≡ a
  all_still m no_steps a b h picks = picks
  all_still m (then s ss) a b h picks =
      all_still m ss picks.0 b (and_right (stays s) (all_stay ss) h) picks.2
      ∙ step_still m s a picks.0 (and_left (stays s) (all_stay ss) h) picks.1

  pub one_still : (m : GraphMaps) (ss : Alternatives) (a b : List ℕ) → each_stays ss ≡ true → PickedByOne m ss a b → b ≡ a
  one_still m no_selectors a b h picked = absurd picked
  one_still m (or_by s ss) a b h (inl here) = all_still m s a b (and_left (all_stay s) (each_stays ss) h) here
  one_still m (or_by s ss) a b h (inr later) = one_still m ss a b (and_right (all_stay s) (each_stays ss) h) later

-- one step and then others
then_still : (m : GraphMaps) (s : Step) (ss : Steps) (id : List ℕ) → stays s ≡ true
    → Picks m (then s ss) id id ↔ (Goes m s id id × Picks m ss id id)
then_still m s ss id still = (
  λ h.
      let same = step_still m s id h.0 still h.1 in
      (subst (Goes m s id) same h.1, subst (λ x. Picks m ss x id) same h.2),
  λ h. (id, h.0, h.1),
)

-- so what is picked is each start that they pick from itself
pub picked_still : (m : GraphMaps) (steps : Steps) (id : List ℕ) → all_stay steps ≡ true
    → IsPicked m steps id ↔ (IsStart m id × Picks m steps id id)
picked_still m steps id still = (
  λ h.
      let same = sym (all_still m steps h.0 id still h.2) in
      (subst (IsStart m) same h.1, subst (λ x. Picks m steps x id) same h.2),
  λ h. (id, h.0, h.1),
)

-- each of some steps and selectors of the code
stays_within : (ss : List SelectorStep) (i : ℕ) (d : SelectorStep) → i < length ss → all_stay (steps_of (step_views ss)) ≡ true
    → stays (step_view (get_or ss i d)) ≡ true
stays_within [] i d lt h = absurd (omega (arith, lt))
stays_within (s ∷ ss) zero d lt h = and_left (stays (step_view s)) (all_stay (steps_of (step_views ss))) h
stays_within (s ∷ ss) (suc i) d lt h =
    stays_within ss i d (omega (arith, lt)) (and_right (stays (step_view s)) (all_stay (steps_of (step_views ss))) h)

pub stays_at : (ss : List SelectorStep) (i : ℕ) (x : SelectorStep) → i < length ss → x ≡ get_or ss i x
    → all_stay (steps_of (step_views ss)) ≡ true → stays (step_view x) ≡ true
stays_at ss i x lt is h = subst (λ y. stays (step_view y) ≡ true) (sym is) (stays_within ss i x lt h)

abbrev pub each_stays_in : List Selector → Bool
each_stays_in ss = each_stays (alternatives_of (map steps_of (selector_views ss)))

each_within : (ss : List Selector) (i : ℕ) (d : Selector) → i < length ss → each_stays_in ss ≡ true
    → all_stay (steps_of (selector_view (get_or ss i d))) ≡ true
each_within [] i d lt h = absurd (omega (arith, lt))
each_within (s ∷ ss) zero d lt h = and_left (all_stay (steps_of (selector_view s))) (each_stays_in ss) h
each_within (s ∷ ss) (suc i) d lt h =
    each_within ss i d (omega (arith, lt)) (and_right (all_stay (steps_of (selector_view s))) (each_stays_in ss) h)

pub each_at : (ss : List Selector) (i : ℕ) (x : Selector) → i < length ss → x ≡ get_or ss i x → each_stays_in ss ≡ true
    → all_stay (steps_of (selector_view x)) ≡ true
each_at ss i x lt is h = subst (λ y. all_stay (steps_of (selector_view y)) ≡ true) (sym is) (each_within ss i x lt h)

-- one after the other, as tests
pub all_next : (ss : List SelectorStep) (i : ℕ) (x : SelectorStep) → i < length ss → x ≡ get_or ss i x → stays (step_view x) ≡ true
    → all_stay (steps_of (step_views (drop i ss))) ≡ all_stay (steps_of (step_views ss))
    → all_stay (steps_of (step_views (drop (i + 1) ss))) ≡ all_stay (steps_of (step_views ss))
all_next ss i x lt is here so =
    ap (λ b. b && all_stay (steps_of (step_views (drop (i + 1) ss)))) (sym here)
    ∙ ap (λ xs. all_stay (steps_of (step_views xs))) (sym (rest_at ss i x lt is)) ∙ so

pub all_stopped : (ss : List SelectorStep) (i : ℕ) (x : SelectorStep) → i < length ss → x ≡ get_or ss i x → stays (step_view x) ≡ false
    → all_stay (steps_of (step_views (drop i ss))) ≡ all_stay (steps_of (step_views ss)) → false ≡ all_stay (steps_of (step_views ss))
all_stopped ss i x lt is moves so =
    ap (λ b. b && all_stay (steps_of (step_views (drop (i + 1) ss)))) (sym moves)
    ∙ ap (λ xs. all_stay (steps_of (step_views xs))) (sym (rest_at ss i x lt is)) ∙ so

pub all_ended : (ss : List SelectorStep) (i : ℕ) → length ss ≤ i
    → all_stay (steps_of (step_views (drop i ss))) ≡ all_stay (steps_of (step_views ss)) → true ≡ all_stay (steps_of (step_views ss))
all_ended ss i end so = ap (λ xs. all_stay (steps_of (step_views xs))) (sym (drop_all i ss end)) ∙ so

pub each_next : (ss : List Selector) (i : ℕ) (x : Selector) → i < length ss → x ≡ get_or ss i x
    → all_stay (steps_of (selector_view x)) ≡ true → each_stays_in (drop i ss) ≡ each_stays_in ss
    → each_stays_in (drop (i + 1) ss) ≡ each_stays_in ss
each_next ss i x lt is here so =
    ap (λ b. b && each_stays_in (drop (i + 1) ss)) (sym here) ∙ ap each_stays_in (sym (rest_at ss i x lt is)) ∙ so

pub each_stopped : (ss : List Selector) (i : ℕ) (x : Selector) → i < length ss → x ≡ get_or ss i x
    → all_stay (steps_of (selector_view x)) ≡ false → each_stays_in (drop i ss) ≡ each_stays_in ss → false ≡ each_stays_in ss
each_stopped ss i x lt is moves so =
    ap (λ b. b && each_stays_in (drop (i + 1) ss)) (sym moves) ∙ ap each_stays_in (sym (rest_at ss i x lt is)) ∙ so

pub each_ended : (ss : List Selector) (i : ℕ) → length ss ≤ i → each_stays_in (drop i ss) ≡ each_stays_in ss → true ≡ each_stays_in ss
each_ended ss i end so = ap each_stays_in (sym (drop_all i ss end)) ∙ so

module _ (g : Graph) (numbers : List ℕ) where
  -- in other words
  pub kept_as : (starts marks : List Bool) (P Q : List ℕ → Type 0) → ((id : List ℕ) → P id ↔ Q id) → AreKeptAmong g numbers starts P marks
      → AreKeptAmong g numbers starts Q marks
  kept_as starts marks P Q same are = record {
    whole = are.whole;
    marked = λ i. (
      λ h. let k = (are.marked i).0 h in (k.0, (k.1.0, (same (id_among g numbers i)).0 k.1.1)),
      λ h. (are.marked i).1 (h.0, (h.1.0, (same (id_among g numbers i)).1 h.1.1)),
    );
  }

  -- what holds of each is kept
  pub kept_all : (starts : List Bool) (P : List ℕ → Type 0) → length starts ≡ length numbers → ((id : List ℕ) → P id)
      → AreKeptAmong g numbers starts P starts
  kept_all starts P long all = record {
    whole = long;
    marked = λ i. (
      λ h. (subst (λ n. i < n) long (marked_within starts i h), (h, all (id_among g numbers i))),
      λ h. h.1.0,
    );
  }

  -- kept by one and then by another
  pub kept_then : (starts mid marks : List Bool) (P Q R : List ℕ → Type 0) → ((id : List ℕ) → R id ↔ (P id × Q id))
      → AreKeptAmong g numbers starts P mid → AreKeptAmong g numbers mid Q marks → AreKeptAmong g numbers starts R marks
  kept_then starts mid marks P Q R both first second = record {
    whole = second.whole;
    marked = λ i. (
      λ h.
          let s = (second.marked i).0 h in
          let f = (first.marked i).0 s.1.0 in
          (s.0, (f.1.0, (both (id_among g numbers i)).1 (f.1.1, s.1.1))),
      λ h.
          let r = (both (id_among g numbers i)).0 h.1.1 in
          (second.marked i).1 (h.0, ((first.marked i).1 (h.0, (h.1.0, r.0)), r.1)),
    );
  }

  -- steps one after the other: whatever the rest keeps of these marks is what all keep of the starts
  abbrev pub KeepsOn : List Bool → List Bool → Steps → Steps → Type 0
  KeepsOn starts marks rest all =
      (final : List Bool) → AreStill g numbers marks (Picks (maps_of g) rest) final
      → AreStill g numbers starts (Picks (maps_of g) all) final

  pub still_begun : (starts marks : List Bool) (all : Steps) → marks ≡ starts → KeepsOn starts marks all all
  still_begun starts marks all same final h =
      subst (λ xs. AreStill g numbers xs (Picks (maps_of g) all) final) same h

  pub still_next : (starts marks now : List Bool) (ss : List SelectorStep) (i : ℕ) (x : SelectorStep) (all : Steps) → i < length ss
      → x ≡ get_or ss i x → stays (step_view x) ≡ true → AreStill g numbers marks (Goes (maps_of g) (step_view x)) now
      → KeepsOn starts marks (steps_of (step_views (drop i ss))) all → KeepsOn starts now (steps_of (step_views (drop (i + 1) ss))) all
  still_next starts marks now ss i x all lt is still step so final last =
      let m = maps_of g in
      let s = step_view x in
      let rest = steps_of (step_views (drop (i + 1) ss)) in
      subst (λ xs. KeepsOn starts marks (steps_of (step_views xs)) all) (rest_at ss i x lt is) so final
      (kept_then marks now final (λ id. Goes m s id id) (λ id. Picks m rest id id) (λ id. Picks m (then s rest) id id)
      (λ id. then_still m s rest id still) step last)

  pub still_ended : (starts marks : List Bool) (ss : List SelectorStep) (i : ℕ) (all : Steps) → length ss ≤ i
      → length marks ≡ length numbers → KeepsOn starts marks (steps_of (step_views (drop i ss))) all
      → AreStill g numbers starts (Picks (maps_of g) all) marks
  still_ended starts marks ss i all end long so =
      subst (λ xs. KeepsOn starts marks (steps_of (step_views xs)) all) (drop_all i ss end) so marks
      (kept_all marks (λ id. Picks (maps_of g) no_steps id id) long (λ id. refl))

  -- one selector after the other
  abbrev pub IsKeptByOne : List Bool → Alternatives → ℕ → Type 0
  IsKeptByOne starts ss i =
      (i < length numbers) × (IsMarked starts i × PickedByOne (maps_of g) ss (id_among g numbers i) (id_among g numbers i))

  abbrev pub KeepsByOne : List Bool → List Bool → List Selector → List Selector → Type 0
  KeepsByOne starts marks rest all =
      (i : ℕ) → (IsMarked marks i ⊎ IsKeptByOne starts (alternatives_of (map steps_of (selector_views rest))) i)
      ↔ IsKeptByOne starts (alternatives_of (map steps_of (selector_views all))) i

  pub one_begun : (starts marks : List Bool) (n : ℕ) (ss : List Selector) → marks ≡ replicate n false → KeepsByOne starts marks ss ss
  one_begun starts marks n ss none i = (
    λ h. elim h [ inl was ↦ absurd (none_marked n i (subst (λ xs. IsMarked xs i) none was)) | inr kept ↦ kept ],
    λ h. inr h,
  )

  by_one : (starts marks more now : List Bool) (s : Steps) (rest all : Alternatives) → AreStill g numbers starts (Picks (maps_of g) s) more
      → ((i : ℕ) → IsMarked now i ↔ (IsMarked marks i ⊎ IsMarked more i))
      → ((i : ℕ) → (IsMarked marks i ⊎ IsKeptByOne starts (or_by s rest) i) ↔ IsKeptByOne starts all i)
      → (i : ℕ) → (IsMarked now i ⊎ IsKeptByOne starts rest i) ↔ IsKeptByOne starts all i
  by_one starts marks more now s rest all are too so i = (
    λ h. (so i).0 (elim h [
      | inl is ↦ elim ((too i).0 is) [
        | inl old ↦ inl old
        | inr new ↦ let k = (are.marked i).0 new in inr (k.0, (k.1.0, inl k.1.1))
      ]
      | inr kept ↦ inr (kept.0, (kept.1.0, inr kept.1.1))
    ]),
    λ h. elim ((so i).1 h) [
      | inl old ↦ inl ((too i).1 (inl old))
      | inr kept ↦ elim kept.1.1 [
        | inl here ↦ inl ((too i).1 (inr ((are.marked i).1 (kept.0, (kept.1.0, here)))))
        | inr later ↦ inr (kept.0, (kept.1.0, later))
      ]
    ],
  )

  pub one_more : (starts marks more now : List Bool) (ss all : List Selector) (i : ℕ) (x : Selector) → i < length ss → x ≡ get_or ss i x
      → AreStill g numbers starts (Picks (maps_of g) (steps_of (selector_view x))) more
      → ((k : ℕ) → IsMarked now k ↔ (IsMarked marks k ⊎ IsMarked more k))
      → KeepsByOne starts marks (drop i ss) all → KeepsByOne starts now (drop (i + 1) ss) all
  one_more starts marks more now ss all i x lt is are too so =
      by_one starts marks more now (steps_of (selector_view x)) (alternatives_of (map steps_of (selector_views (drop (i + 1) ss))))
      (alternatives_of (map steps_of (selector_views all))) are too
      (subst (λ xs. KeepsByOne starts marks xs all) (rest_at ss i x lt is) so)

  pub one_all : (starts marks : List Bool) (ss all : List Selector) (i : ℕ) → length ss ≤ i → length marks ≡ length numbers
      → KeepsByOne starts marks (drop i ss) all
      → AreStill g numbers starts (PickedByOne (maps_of g) (alternatives_of (map steps_of (selector_views all)))) marks
  one_all starts marks ss all i end long so = record {
    whole = long;
    marked = λ k.
        let at = subst (λ xs. KeepsByOne starts marks xs all) (drop_all i ss end) so k in (
          λ h. at.0 (inl h),
          λ h. elim (at.1 h) [ inl is ↦ is | inr none ↦ absurd none.1.1 ],
        );
  }

  -- step by step, form by form
  module _ {T E : Type 0} (items : T → List Bool) (starts : List Bool) (long : length starts ≡ length numbers) where
    abbrev pub Stays : Result T E → (List ℕ → List ℕ → Type 0) → Type 0
    Stays r Leads = IfOk r (λ m. AreStill g numbers starts Leads (items m))

    abbrev pub StaysWhere : Result T E → (List ℕ → Type 0) → Type 0
    StaysWhere r Holds = IfOk r (λ m. AreKeptAmong g numbers starts Holds (items m))

    as_view : (v : SelectorStep) (s : Step) → step_view v ≡ s → (r : Result T E) → Stays r (Goes (maps_of g) s)
        → Stays r (Goes (maps_of g) (step_view v))
    as_view v s is r h = subst (λ t. Stays r (Goes (maps_of g) t)) (sym is) h

    stays_where : (Leads : List ℕ → List ℕ → Type 0) (Holds : List ℕ → Type 0) → ((id : List ℕ) → Holds id ↔ Leads id id)
        → (r : Result T E) → StaysWhere r Holds → Stays r Leads
    stays_where Leads Holds same r h =
        IfOk-weaker r (λ m. AreKeptAmong g numbers starts Holds (items m)) (λ m. AreStill g numbers starts Leads (items m))
        (λ m kept. kept_as starts (items m) Holds (λ id. Leads id id) same kept) h

    pub still_any : (v : SelectorStep) → v ≡ Any → (r : Result T E) → IfOk r (λ m. items m ≡ starts)
        → Stays r (Goes (maps_of g) (step_view v))
    still_any v is r h =
        as_view v any_shape (ap step_view is ∙ step_any) r
        (IfOk-weaker r (λ m. items m ≡ starts) (λ m. AreStill g numbers starts (Goes (maps_of g) any_shape) (items m))
        (λ m same. subst (AreStill g numbers starts (Goes (maps_of g) any_shape)) (sym same)
        (kept_all starts (λ id. id ≡ id) long (λ id. refl))) h)

    pub still_named : (v : SelectorStep) (named : Option Kind) → v ≡ Named named → (r : Result T E)
        → StaysWhere r (IsNamedAt named (maps_of g)) → Stays r (Goes (maps_of g) (step_view v))
    still_named v named is r h =
        as_view v (of_kind named) (ap step_view is ∙ step_named named) r
        (stays_where (Goes (maps_of g) (of_kind named)) (IsNamedAt named (maps_of g)) (λ id. (λ e. (refl, e), λ e. e.1)) r h)

    pub still_has : (v : SelectorStep) (path : SelectorPath) → v ≡ Has path → (r : Result T E)
        → StaysWhere r (HasSomeValue (path_view path) (maps_of g)) → Stays r (Goes (maps_of g) (step_view v))
    still_has v path is r h =
        as_view v (has (path_view path)) (ap step_view is ∙ step_has path) r
        (stays_where (Goes (maps_of g) (has (path_view path))) (HasSomeValue (path_view path) (maps_of g))
        (λ id. (λ e. (refl, e), λ e. e.1)) r h)

    pub still_compare : (v : SelectorStep) (c : Comparison) → v ≡ Compare c → (r : Result T E)
        → StaysWhere r (λ id. Compares (maps_of g) id (path_view c.path) c.op c.fold (map (folded c.fold) c.values))
        → Stays r (Goes (maps_of g) (step_view v))
    still_compare v c is r h =
        as_view v (compares (path_view c.path) c.op c.values c.fold) (ap step_view is ∙ step_compare c) r
        (stays_where (Goes (maps_of g) (compares (path_view c.path) c.op c.values c.fold))
        (λ id. Compares (maps_of g) id (path_view c.path) c.op c.fold (map (folded c.fold) c.values))
        (λ id. (λ e. (refl, e), λ e. e.1)) r h)

    pub still_is : (v : SelectorStep) (ss : Selectors) → v ≡ Is ss → (r : Result T E)
        → Stays r (PickedByOne (maps_of g) (alternatives_of (map steps_of (selectors_view ss)))) → Stays r (Goes (maps_of g) (step_view v))
    still_is v ss is r h = as_view v (picked_by (alternatives_of (map steps_of (selectors_view ss)))) (ap step_view is ∙ step_is ss) r h

    pub still_not : (v : SelectorStep) (s : Selector) → v ≡ Not s → all_stay (steps_of (selector_view s)) ≡ true → (some : List Bool)
        → AreStill g numbers starts (Picks (maps_of g) (steps_of (selector_view s))) some → (r : Result T E)
        → IfOk r (λ m. AreMarks (length starts) (λ k. IsMarked starts k × (get_or some k false ≡ false)) (items m))
        → Stays r (Goes (maps_of g) (step_view v))
    still_not v s is still some are r h =
        let steps = steps_of (selector_view s) in
        as_view v (picks_none steps) (ap step_view is ∙ step_not s) r
        (IfOk-weaker r (λ m. AreMarks (length starts) (λ k. IsMarked starts k × (get_or some k false ≡ false)) (items m))
        (λ m. AreStill g numbers starts (Goes (maps_of g) (picks_none steps)) (items m))
        (λ m marks. none_kept steps still (items m) are marks) h)
      where
        none_kept : (steps : Steps) → all_stay steps ≡ true → (marks : List Bool)
            → AreStill g numbers starts (Picks (maps_of g) steps) some
            → AreMarks (length starts) (λ k. IsMarked starts k × (get_or some k false ≡ false)) marks
            → AreStill g numbers starts (Goes (maps_of g) (picks_none steps)) marks
        none_kept steps still marks some_are are = record {
          whole = are.whole ∙ long;
          marked = λ i.
              let id = id_among g numbers i in (
                λ h.
                    let k = (are.marked i).0 h in
                    let small = subst (λ n. i < n) long k.0 in (
                      small,
                      (
                        k.1.0,
                        (
                          refl,
                          λ other picks. apart (sym k.1.1 ∙ (some_are.marked i).1 (
                            small,
                            (k.1.0, subst (Picks (maps_of g) steps id) (all_still (maps_of g) steps id other still picks) picks),
                          )),
                        ),
                      ),
                    ),
                λ h. (are.marked i).1 (
                  subst (λ n. i < n) (sym long) h.0,
                  (h.1.0, unset (get_or some i false) (λ set. h.1.1.1 id ((some_are.marked i).0 set).1.1)),
                ),
              );
        }

    pub still_test : (v : SelectorStep) (ss : Selectors) → v ≡ Test ss
        → each_stays (alternatives_of (map steps_of (selectors_view ss))) ≡ true → (r : Result T E)
        → Stays r (PickedByOne (maps_of g) (alternatives_of (map steps_of (selectors_view ss)))) → Stays r (Goes (maps_of g) (step_view v))
    still_test v ss is still r h =
        let one = alternatives_of (map steps_of (selectors_view ss)) in
        as_view v (picks_some one) (ap step_view is ∙ step_test ss) r
        (stays_where (Goes (maps_of g) (picks_some one)) (λ id. PickedByOne (maps_of g) one id id)
        (λ id. (
          λ e. (refl, (id, e)),
          λ e. subst (PickedByOne (maps_of g) one id) (one_still (maps_of g) one id e.1.0 still e.1.1) e.1.1,
        )) r h)

  -- starts among the numbers, and what is picked from some start
  module _ (there : (k : ℕ) → Contains numbers k → IsShapeNumber g k) (steps : Steps) where
    number_at : (i : ℕ) → i < length numbers → IsShapeNumber g (get_or numbers i 0)
    number_at i lt = there (get_or numbers i 0) (i, lt, get_or_default numbers i (get_or numbers i 0) 0 lt)

    pub still_picked : all_stay steps ≡ true → (starts marks : List Bool)
        → AreMarks (length numbers) (λ i. is_prelude_id (id_among g numbers i) ≡ false) starts
        → AreStill g numbers starts (Picks (maps_of g) steps) marks
        → AreMarks (length numbers) (λ i. IsPicked (maps_of g) steps (id_among g numbers i)) marks
    still_picked still starts marks begun are = record {
      whole = are.whole;
      marked = λ i. (
        λ h.
            let k = (are.marked i).0 h in
            let s = (begun.marked i).0 k.1.0 in
            let start : IsStart (maps_of g) (id_among g numbers i) = (in_graph g (get_or numbers i 0) (number_at i k.0), s.1) in
            (k.0, (picked_still (maps_of g) steps (id_among g numbers i) still).1 (start, k.1.1)),
        λ h.
            let p = (picked_still (maps_of g) steps (id_among g numbers i) still).0 h.1 in
            (are.marked i).1 (h.0, ((begun.marked i).1 (h.0, p.0.1), p.1)),
      );
    }

    -- and by the marks of all that is picked
    pub picked_at : (n : ℕ) (marks at : List Bool) → AreMarks n (λ k. IsPicked (maps_of g) steps (id_of_number g k)) marks
        → ((k : ℕ) → IsShapeNumber g k → k < n) → AreMarks (length numbers) (λ i. IsMarked marks (get_or numbers i 0)) at
        → AreMarks (length numbers) (λ i. IsPicked (maps_of g) steps (id_among g numbers i)) at
    picked_at n marks at are small h =
        marks_same (λ i. IsMarked marks (get_or numbers i 0)) (λ i. IsPicked (maps_of g) steps (id_among g numbers i)) (length numbers) at
        (λ i lt. (
          λ m. ((are.marked (get_or numbers i 0)).0 m).1,
          λ p. (are.marked (get_or numbers i 0)).1 (small (get_or numbers i 0) (number_at i lt), p),
        )) h
