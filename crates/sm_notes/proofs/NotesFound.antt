-- The shapes that the table of a shape has, by their numbers in the graph; and what is said of them and of their members, one by one.
use Rattle.std.proofs.Common.{◌≡◌, inl, inr, ℕ, Bool, List, [], ◌∷◌, ◌++◌, map, length, sym, ap, subst, ◌∙◌, arith}
use Rattle.std.proofs.Common.{append_assoc}
use Rattle.std.specs.Prelude.{◌↔◌}
use Rattle.std.specs.List.{Contains}
use Rattle.std.proofs.lemmas.List.{map-append}
use Rattle.sm_model.specs.GraphView.{entries_of, maps_of}
use Rattle.sm_model.specs.Reaching.{AreMarks, id_of_number}
use Rattle.sm_model.specs.declared.graph.Graph.{Graph}
use Rattle.sm_model.proofs.OneRising.{contains_either, contains_head, contains_none}
use Rattle.sm_compile.specs.Reached.{IsReached}
use Rattle.sm_compile.specs.Tabling.{tabled_below}
use Rattle.sm_compile.specs.steps.Looked.{IsReachedFrom}
use Rattle.sm_compile.proofs.TabledShapes.{tabled_rise, tabled_told}
use Rattle.sm_notes.specs.TableShapes.{AreTableShapes}

module _ (g : Graph) (root : ℕ) where
  abbrev reached_at : ℕ → Type 0
  reached_at k = IsReached (maps_of g) (id_of_number g root) (id_of_number g k)

  only_root : (r : ℕ) → Contains (root ∷ []) r → r ≡ root
  only_root r h = elim (contains_either root r [] h) [ inl is ↦ sym is | inr none ↦ absurd (contains_none r none) ]

  from_root : (k : ℕ) → IsReachedFrom g (root ∷ []) (id_of_number g k) ↔ reached_at k
  from_root k = (
    λ h. subst (λ r. IsReached (maps_of g) (id_of_number g r) (id_of_number g k)) (only_root h.0 h.1) h.2,
    λ h. (root, contains_head root [], h),
  )

  pub marks_from_root : (marks : List Bool) → AreMarks (length (entries_of g)) (λ k. IsReachedFrom g (root ∷ []) (id_of_number g k)) marks
      → AreMarks (length (entries_of g)) reached_at marks
  marks_from_root marks are = record {
    whole = are.whole;
    marked = λ k. (
      λ h. let x = (are.marked k).0 h in (x.0, (from_root k).0 x.1),
      λ h. (are.marked k).1 (h.0, (from_root k).1 h.1),
    );
  }

  pub shapes_told : (marks : List Bool) (shapes : List ℕ) → AreMarks (length (entries_of g)) reached_at marks
      → shapes ≡ tabled_below g marks (length marks)
      → AreTableShapes (maps_of g) (id_of_number g root) (map (id_of_number g) shapes)
  shapes_told marks shapes are is =
      let now : tabled_below g marks (length (entries_of g)) ≡ shapes = sym (is ∙ ap (tabled_below g marks) are.whole) in
      subst (λ ks. AreTableShapes (maps_of g) (id_of_number g root) (map (id_of_number g) ks)) now (record {
        are = tabled_told g marks (IsReached (maps_of g) (id_of_number g root)) are;
        rise = tabled_rise g marks (length (entries_of g)) (omega arith);
      })

-- one more behind those that were said
pub one_more : {X Y : Type 0} (f : X → Y) (items after : List X) (x : X) (y : Y) (rest all : List Y) → after ≡ items ++ x ∷ [] → f x ≡ y
    → map f items ++ y ∷ rest ≡ all → map f after ++ rest ≡ all
one_more f items after x y rest all put is said =
    ap (λ xs. map f xs ++ rest) put ∙ ap (λ ys. ys ++ rest) (map-append f items (x ∷ []) ∙ ap (λ z. map f items ++ z ∷ []) is)
    ∙ append_assoc (map f items) (y ∷ []) rest ∙ said

-- those of a shape behind those that were said
pub all_said : {Y : Type 0} (items after here rest all : List Y) → after ≡ items ++ here → items ++ (here ++ rest) ≡ all
    → after ++ rest ≡ all
all_said items after here rest all put said = ap (λ ys. ys ++ rest) put ∙ append_assoc items here rest ∙ said
