-- Images by selectors: step by step, on and back, and by any of some selectors.
use Rattle.std.proofs.Common.{◌≡◌, ◌⊎◌, inl, inr, ℕ, ◌<◌, Bool, true, false, List, length, get_or, sym, ◌∙◌, subst}
use Rattle.std.specs.Prelude.{◌↔◌, replicate}
use Rattle.sm_model.specs.GraphView.{entries_of, maps_of}
use Rattle.sm_model.specs.Relations.{IsInGraph}
use Rattle.sm_model.specs.declared.graph.Graph.{Graph}
use Rattle.sm_model.specs.Reaching.{AreMarks, id_of_number, IsMarked}
use Rattle.sm_model.proofs.NumberedIds.{number_of}
use Rattle.sm_model.proofs.Worklist.{apart, none_marked}
use Rattle.sm_select.specs.Images.{AreImage, turned}
use Rattle.sm_select.specs.Picks.{Goes, PickedByOne, Picks}
use Rattle.sm_select.specs.Selectors.{Step, Steps, no_steps, then, Alternatives, no_selectors, or_by}
use Rattle.sm_select.specs.steps.Filtering.{AreKept}
use Rattle.sm_select.specs.steps.Imaging.{ArePicking, IsInImage, LeadsOn}
use Rattle.sm_select.proofs.ImageNumbers.{composed, image_as, in_graph, same_image}
use Rattle.sm_select.proofs.MarkedNumbers.{marks_same, unset}
use Rattle.sm_select.proofs.LedInGraph.{goes_in}

module _ (g : Graph) where
  -- steps one after the other: whatever the rest leads to is what all lead to
  pub on_more : (starts marks now : List Bool) (s : Step) (rest all : Steps) → length marks ≡ length (entries_of g)
      → AreImage g marks (Goes (maps_of g) s) now → LeadsOn g starts marks (then s rest) all → LeadsOn g starts now rest all
  on_more starts marks now s rest all whole step so final last =
      so final (composed g marks now final (Goes (maps_of g) s) (Picks (maps_of g) rest) whole step last
      (λ a n b a_in b_in goes picks. goes_in (maps_of g) s a n a_in goes))

  -- no steps, on and back
  pub same_on : (back : Bool) (starts : List Bool) → length starts ≡ length (entries_of g)
      → AreImage g starts (turned back (Picks (maps_of g) no_steps)) starts
  same_on back starts whole =
      same_image g (Picks (maps_of g) no_steps) (λ id. Unit {0}) (λ from to. (λ h. (h, tt), λ h. h.0)) back starts whole (λ id. tt)

  pub on_ended : (starts marks : List Bool) (all : Steps) → length marks ≡ length (entries_of g) → LeadsOn g starts marks no_steps all
      → AreImage g starts (Picks (maps_of g) all) marks
  on_ended starts marks all whole so = so marks (same_on false marks whole)

  -- steps back, the last one first
  pub back_more : (ends marks now : List Bool) (s : Step) (rest : Steps) → length ends ≡ length (entries_of g)
      → AreImage g ends (turned true (Picks (maps_of g) rest)) marks → AreImage g marks (turned true (Goes (maps_of g) s)) now
      → AreImage g ends (turned true (Picks (maps_of g) (then s rest))) now
  back_more ends marks now s rest whole so step =
      image_as g ends now (λ b a. (n : List ℕ) × Picks (maps_of g) rest n b × Goes (maps_of g) s a n)
      (turned true (Picks (maps_of g) (then s rest)))
      (λ b a. (λ h. (h.0, h.2, h.1), λ h. (h.0, h.2, h.1)))
      (composed g ends marks now (turned true (Picks (maps_of g) rest)) (turned true (Goes (maps_of g) s)) whole so step
      (λ b n a b_in a_in picks goes. goes_in (maps_of g) s a n a_in goes))

  -- one of some selectors: what has come, and what the rest leads to, is what all lead to
  turned_or : (back : Bool) (s : Steps) (ss : Alternatives) (a b : List ℕ)
      → turned back (PickedByOne (maps_of g) (or_by s ss)) a b
      ↔ (turned back (Picks (maps_of g) s) a b ⊎ turned back (PickedByOne (maps_of g) ss) a b)
  turned_or false s ss a b = (λ h. h, λ h. h)
  turned_or true s ss a b = (λ h. h, λ h. h)

  turned_none : (back : Bool) (a b : List ℕ) → turned back (PickedByOne (maps_of g) no_selectors) a b → ⊥
  turned_none false a b h = h
  turned_none true a b h = h

  pub any_begun : (back : Bool) (starts marks : List Bool) (n : ℕ) (all : Alternatives) → marks ≡ replicate n false
      → (k : ℕ) → (IsMarked marks k ⊎ IsInImage g starts (turned back (PickedByOne (maps_of g) all)) k)
      ↔ IsInImage g starts (turned back (PickedByOne (maps_of g) all)) k
  any_begun back starts marks n all none k = (
    λ h. elim h [ inl m ↦ absurd (none_marked n k (subst (λ xs. IsMarked xs k) none m)) | inr i ↦ i ],
    λ h. inr h,
  )

  pub any_more : (back : Bool) (starts marks more now : List Bool) (s : Steps) (rest all : Alternatives)
      → AreImage g starts (turned back (Picks (maps_of g) s)) more
      → ((k : ℕ) → IsMarked now k ↔ (IsMarked marks k ⊎ IsMarked more k))
      → ((k : ℕ) → (IsMarked marks k ⊎ IsInImage g starts (turned back (PickedByOne (maps_of g) (or_by s rest))) k)
      ↔ IsInImage g starts (turned back (PickedByOne (maps_of g) all)) k)
      → (k : ℕ) → (IsMarked now k ⊎ IsInImage g starts (turned back (PickedByOne (maps_of g) rest)) k)
      ↔ IsInImage g starts (turned back (PickedByOne (maps_of g) all)) k
  any_more back starts marks more now s rest all are too so k = (
    λ h. (so k).0 (elim h [
      | inl m ↦ elim ((too k).0 m) [
        | inl old ↦ inl old
        | inr new ↦
            let i = (are.marked k).0 new in
            inr (i.0, (i.1.0, i.1.1, (turned_or back s rest (id_of_number g i.1.0) (id_of_number g k)).1 (inl i.1.2)))
      ]
      | inr i ↦ inr (i.0, (i.1.0, i.1.1, (turned_or back s rest (id_of_number g i.1.0) (id_of_number g k)).1 (inr i.1.2)))
    ]),
    λ h. elim ((so k).1 h) [
      | inl old ↦ inl ((too k).1 (inl old))
      | inr i ↦ elim ((turned_or back s rest (id_of_number g i.1.0) (id_of_number g k)).0 i.1.2) [
        | inl here ↦ inl ((too k).1 (inr ((are.marked k).1 (i.0, (i.1.0, i.1.1, here)))))
        | inr later ↦ inr (i.0, (i.1.0, i.1.1, later))
      ]
    ],
  )

  pub any_ended : (back : Bool) (starts marks : List Bool) (all : Alternatives) → length marks ≡ length (entries_of g)
      → ((k : ℕ) → (IsMarked marks k ⊎ IsInImage g starts (turned back (PickedByOne (maps_of g) no_selectors)) k)
      ↔ IsInImage g starts (turned back (PickedByOne (maps_of g) all)) k)
      → AreImage g starts (turned back (PickedByOne (maps_of g) all)) marks
  any_ended back starts marks all whole so = record {
    whole = whole;
    marked = λ k. (
      λ h. (so k).0 (inl h),
      λ h. elim ((so k).1 h) [
        | inl m ↦ m
        | inr i ↦ absurd (turned_none back (id_of_number g i.1.0) (id_of_number g k) i.1.2)
      ],
    );
  }

  -- the numbers from which something is picked are those from which all numbers are led to
  module _ (Leads : List ℕ → List ℕ → Type 0)
      (leads_in : (a b : List ℕ) → IsInGraph (maps_of g) a → Leads a b → IsInGraph (maps_of g) b) where
    pub are_picking : (all marks : List Bool) → AreMarks (length (entries_of g)) (λ k. Unit {0}) all
        → AreImage g all (turned true Leads) marks
        → ArePicking g Leads marks
    are_picking all marks every are = record {
      whole = are.whole;
      marked = λ k. (
        λ h. let i = (are.marked k).0 h in (i.0, (id_of_number g i.1.0, i.1.2)),
        λ h.
            let n = number_of g h.1.0 (leads_in (id_of_number g k) h.1.0 (in_graph g k h.0) h.1.1) in
            (are.marked k).1 (h.0, (n.0, (every.marked n.0).1 (n.1, tt), subst (Leads (id_of_number g k)) (sym n.2) h.1.1)),
      );
    }

  -- kept where something is picked, and where nothing is
  module _ (Leads : List ℕ → List ℕ → Type 0) (starts picking kept : List Bool) (whole : length starts ≡ length (entries_of g))
      (are : ArePicking g Leads picking) where
    pub kept_some : AreMarks (length starts) (λ k. IsMarked starts k × (get_or picking k false ≡ true)) kept
        → AreKept g starts (λ id. (other : List ℕ) × Leads id other) kept
    kept_some marks =
        subst (λ n. AreMarks n (λ k. IsMarked starts k × ((other : List ℕ) × Leads (id_of_number g k) other)) kept) whole
        (marks_same (λ k. IsMarked starts k × (get_or picking k false ≡ true))
        (λ k. IsMarked starts k × ((other : List ℕ) × Leads (id_of_number g k) other)) (length starts) kept
        (λ k lt. (
          λ h. (h.0, ((are.marked k).0 h.1).1),
          λ h. (h.0, (are.marked k).1 (subst (λ n. k < n) whole lt, h.1)),
        )) marks)

    pub kept_none : AreMarks (length starts) (λ k. IsMarked starts k × (get_or picking k false ≡ false)) kept
        → AreKept g starts (λ id. (other : List ℕ) → Leads id other → ⊥) kept
    kept_none marks =
        subst (λ n. AreMarks n (λ k. IsMarked starts k × ((other : List ℕ) → Leads (id_of_number g k) other → ⊥)) kept) whole
        (marks_same (λ k. IsMarked starts k × (get_or picking k false ≡ false))
        (λ k. IsMarked starts k × ((other : List ℕ) → Leads (id_of_number g k) other → ⊥)) (length starts) kept
        (λ k lt. (
          λ h. (h.0, λ other l. apart (sym h.1 ∙ (are.marked k).1 (subst (λ n. k < n) whole lt, (other, l)))),
          λ h. (h.0, unset (get_or picking k false) (λ m. let p = (are.marked k).0 m in h.1 p.1.0 p.1.1)),
        )) marks)
