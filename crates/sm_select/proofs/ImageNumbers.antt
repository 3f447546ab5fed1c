-- Images by the numbers of a graph: what stands still, and one image after another.
use Rattle.std.proofs.Common.{◌≡◌, ℕ, ◌<◌, ◌^◌, Bool, true, false, List, length, refl, sym, ◌∙◌, subst, arith, Some}
use Rattle.std.specs.Prelude.{◌↔◌, slice_get}
use Rattle.std.proofs.lemmas.List.{length-map}
use Rattle.sm_model.specs.GraphRows.{row_entry}
use Rattle.sm_model.specs.GraphView.{IsShapeNumber, entries_of, ids, maps_of}
use Rattle.sm_model.specs.Relations.{HasEntry, IsInGraph}
use Rattle.sm_model.specs.declared.graph.Graph.{Graph}
use Rattle.sm_model.proofs.GraphFacts.{entry_under, id_at}
use Rattle.sm_model.proofs.LinkNumbers.{one_number, stands_at}
use Rattle.sm_model.specs.Reaching.{id_of_number, IsMarked}
use Rattle.sm_model.proofs.NumberedIds.{number_of}
use Rattle.sm_model.proofs.Worklist.{marked_within}
use Rattle.sm_select.specs.Images.{AreImage, turned}
use Rattle.sm_select.specs.steps.Filtering.{AreKept}

pub in_graph : (g : Graph) (k : ℕ) → IsShapeNumber g k → IsInGraph (maps_of g) (id_of_number g k)
in_graph g k lt =
    let at = stands_at g k lt in
    (at.1, subst (λ i. HasEntry (maps_of g) i at.1) (sym (id_at g k at.0 at.1 at.2)) (entry_under g k at.0 at.1 at.2))

pub few_numbers : (g : Graph) → length (entries_of g) < 2 ^ 32
few_numbers g = let long = length-map g.rows.items (row_entry (ids g)) in omega (arith, long, g.few)

-- an id has one number
pub same_number : (g : Graph) (a b : ℕ) → IsShapeNumber g a → IsShapeNumber g b → id_of_number g a ≡ id_of_number g b → a ≡ b
same_number g a b lt gt same =
    let x = stands_at g a lt in
    let y = stands_at g b gt in
    one_number g a b x.0 x.1 y.1 x.2
    (subst (λ i. slice_get (entries_of g) b ≡ Some (i, y.1))
    (sym (id_at g b y.0 y.1 y.2) ∙ sym same ∙ id_at g a x.0 x.1 x.2) y.2)

module _ (g : Graph) where
  -- a marked number is one of the graph
  pub marked_number : (marks : List Bool) (k : ℕ) → length marks ≡ length (entries_of g) → IsMarked marks k → IsShapeNumber g k
  marked_number marks k whole h = subst (λ n. k < n) whole (marked_within marks k h)

  -- a relation that leads from a shape to itself alone, where something holds of it
  module _ (Leads : List ℕ → List ℕ → Type 0) (Holds : List ℕ → Type 0)
      (stays : (from to : List ℕ) → Leads from to ↔ ((to ≡ from) × Holds from)) where
    here_turned : (back : Bool) (id : List ℕ) → Holds id → turned back Leads id id
    here_turned false id h = (stays id id).1 (refl, h)
    here_turned true id h = (stays id id).1 (refl, h)

    turned_here : (back : Bool) (from to : List ℕ) → turned back Leads from to → (from ≡ to) × Holds to
    turned_here false from to h = let k = (stays from to).0 h in (sym k.0, subst Holds (sym k.0) k.1)
    turned_here true from to h = (stays to from).0 h

    pub kept_image : (back : Bool) (starts marks : List Bool) → length starts ≡ length (entries_of g) → AreKept g starts Holds marks
        → AreImage g starts (turned back Leads) marks
    kept_image back starts marks whole kept = record {
      whole = kept.whole;
      marked = λ b. (
        λ h. let k = (kept.marked b).0 h in (k.0, (b, k.1.0, here_turned back (id_of_number g b) k.1.1)),
        λ h.
            let there = turned_here back (id_of_number g h.1.0) (id_of_number g b) h.1.2 in
            let a_in = marked_number starts h.1.0 whole h.1.1 in
            (kept.marked b).1 (h.0, (subst (IsMarked starts) (same_number g h.1.0 b a_in h.0 there.0) h.1.1, there.1)),
      );
    }

    -- where it holds of each, the marks stay
    pub same_image : (back : Bool) (starts : List Bool) → length starts ≡ length (entries_of g) → ((id : List ℕ) → Holds id)
        → AreImage g starts (turned back Leads) starts
    same_image back starts whole all = kept_image back starts starts whole (record {
      whole = whole;
      marked = λ k. (λ h. (marked_number starts k whole h, (h, all (id_of_number g k))), λ h. h.1.0);
    })

  -- relations that lead to the same have the same image
  pub image_as : (starts marks : List Bool) (R Q : List ℕ → List ℕ → Type 0) → ((a b : List ℕ) → R a b ↔ Q a b)
      → AreImage g starts R marks → AreImage g starts Q marks
  image_as starts marks R Q same are = record {
    whole = are.whole;
    marked = λ b. (
      λ h.
          let k = (are.marked b).0 h in
          (k.0, (k.1.0, k.1.1, (same (id_of_number g k.1.0) (id_of_number g b)).0 k.1.2)),
      λ h. (are.marked b).1 (h.0, (h.1.0, h.1.1, (same (id_of_number g h.1.0) (id_of_number g b)).1 h.1.2)),
    );
  }

  -- the image of an image, where what is passed through is in the graph
  pub composed : (starts mid marks : List Bool) (R Q : List ℕ → List ℕ → Type 0) → length starts ≡ length (entries_of g)
      → AreImage g starts R mid → AreImage g mid Q marks
      → ((a n b : List ℕ) → IsInGraph (maps_of g) a → IsInGraph (maps_of g) b → R a n → Q n b → IsInGraph (maps_of g) n)
      → AreImage g starts (λ a b. (n : List ℕ) × R a n × Q n b) marks
  composed starts mid marks R Q whole first second passes = record {
    whole = second.whole;
    marked = λ b. (
      λ h.
          let s = (second.marked b).0 h in
          let f = (first.marked s.1.0).0 s.1.1 in
          (s.0, (f.1.0, f.1.1, (id_of_number g s.1.0, f.1.2, s.1.2))),
      λ h.
          let a = h.1.0 in
          let r = h.1.2 in
          let k = number_of g r.0
          (passes (id_of_number g a) r.0 (id_of_number g b) (in_graph g a (marked_number starts a whole h.1.1))
          (in_graph g b h.0) r.1 r.2) in
          (second.marked b).1 (
            h.0,
            (
              k.0,
              (first.marked k.0).1 (k.1, (a, h.1.1, subst (R (id_of_number g a)) (sym k.2) r.1)),
              subst (λ n. Q n (id_of_number g b)) (sym k.2) r.2,
            ),
          ),
    );
  }
