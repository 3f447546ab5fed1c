-- The patterns of marked numbers, one number after the other.
use Rattle.std.proofs.Common.{◌≡◌, inl, inr, ℕ, ◌+◌, Bool, List, [], ◌∷◌, ◌++◌, map, sym, ap, ◌∙◌, subst, arith}
use Rattle.std.specs.List.{Contains}
use Rattle.std.specs.List.Sorted.{IsStrictlySortedBy}
use Rattle.std.specs.declared.cmp.Ordering.TheVariants.{Less}
use Rattle.std.proofs.lemmas.Bool.{cases_lt}
use Rattle.std.proofs.lemmas.List.{map-append}
use Rattle.std.proofs.lemmas.List.Elements.{Contains-append_left, Contains-push, Contains-push_cases}
use Rattle.std.proofs.lemmas.Option.{same_Some}
use Rattle.sm_model.specs.Graphs.{text_cmp}
use Rattle.sm_model.specs.GraphView.{AreShapeNumbers, IsShapeNumber, maps_of}
use Rattle.sm_model.specs.Reaching.{id_of_number}
use Rattle.sm_model.specs.declared.graph.Graph.{Graph}
use Rattle.sm_model.proofs.OneRising.{contains_none}
use Rattle.sm_compile.specs.Compiled.{PatternRows, texts_of}
use Rattle.sm_compile.specs.steps.Carrying.{AreCarriedBelow, AreFirstAt, IsCarriedAt, IsFirstAt, carried, carriers_of}
use Rattle.sm_compile.proofs.TabledShapes.{ids_rise, mapped_from, nothing_rises, rise_more}

module _ (g : Graph) (marks : List Bool) where
  -- nothing stands below zero
  pub none_carried : AreCarriedBelow g marks 0 []
  none_carried = record {
    first = tt;
    below = λ k h. absurd (contains_none k h);
    rise = nothing_rises;
    all = λ k u lt is. absurd (omega (arith, lt));
  }

  -- a number carries one
  pub one_carried : (n : ℕ) (u v : List ℕ) → IsCarriedAt g marks u n → IsCarriedAt g marks v n → u ≡ v
  one_carried n u v h k = same_Some u v (sym h.1 ∙ k.1)

  -- one number more, of which all that it carries is there
  pub none_more : (n : ℕ) (rs : PatternRows) → AreCarriedBelow g marks n rs
      → ((u : List ℕ) → IsCarriedAt g marks u n → Contains (texts_of rs) u) → AreCarriedBelow g marks (n + 1) rs
  none_more n rs h there = record {
    first = h.first;
    below = λ k among. let lt = h.below k among in omega (arith, lt);
    rise = h.rise;
    all = λ k u lt is. elim (cases_lt k n) [
      | inl less ↦ h.all k u less is
      | inr ge ↦ let same : k ≡ n = omega (arith, lt, ge) in there u (subst (IsCarriedAt g marks u) same is)
    ];
  }

  first_more : (rs : PatternRows) (r : ℕ × List ℕ) → AreFirstAt g marks rs → IsFirstAt g marks r.1 r.0 → AreFirstAt g marks (rs ++ r ∷ [])
  first_more [] r h is = (is, tt)
  first_more (x ∷ rs) r h is = (h.0, first_more rs r h.1 is)

  -- one that carries a new text
  pub one_more : (n : ℕ) (u : List ℕ) (rs : PatternRows) → AreCarriedBelow g marks n rs → IsShapeNumber g n → IsCarriedAt g marks u n
      → (Contains (texts_of rs) u → ⊥) → AreCarriedBelow g marks (n + 1) (rs ++ (n, u) ∷ [])
  one_more n u rs h lt is fresh =
      let row : ℕ × List ℕ = (n, u) in
      let numbers : carriers_of (rs ++ row ∷ []) ≡ carriers_of rs ++ n ∷ [] = map-append (λ (r : ℕ × List ℕ). r.0) rs (row ∷ []) in
      let texts : texts_of (rs ++ row ∷ []) ≡ texts_of rs ++ u ∷ [] = map-append (λ (r : ℕ × List ℕ). r.1) rs (row ∷ []) in
      record {
        first = first_more rs row h.first (record {
          within = lt;
          carries = is;
          least = λ j less has. fresh (h.all j u less has);
        });
        below = λ k among. elim (Contains-push_cases (carriers_of rs) n k (subst (λ ks. Contains ks k) numbers among)) [
          | inl old ↦ let less = h.below k old in omega (arith, less)
          | inr here ↦ omega (arith, here)
        ];
        rise = subst (λ ks. IsStrictlySortedBy text_cmp (map (id_of_number g) ks)) (sym numbers)
            (subst (IsStrictlySortedBy text_cmp) (sym (map-append (id_of_number g) (carriers_of rs) (n ∷ [])))
            (rise_more (map (id_of_number g) (carriers_of rs)) (id_of_number g n) h.rise (before rs h)));
        all = λ k v less has. subst (λ ts. Contains ts v) (sym texts) (elim (cases_lt k n) [
          | inl below ↦ Contains-append_left (texts_of rs) (u ∷ []) v (h.all k v below has)
          | inr ge ↦
              let same : k ≡ n = omega (arith, less, ge) in
              let text : u ≡ v = same_Some u v (sym is.1 ∙ ap (λ i. carried (maps_of g) (id_of_number g i)) (sym same) ∙ has.1) in
              subst (Contains (texts_of rs ++ u ∷ [])) text (Contains-push (texts_of rs) u)
        ]);
      }
    where
      before : (rs : PatternRows) → AreCarriedBelow g marks n rs → (id : List ℕ) → Contains (map (id_of_number g) (carriers_of rs)) id
          → text_cmp id (id_of_number g n) ≡ Less
      before rs h id among =
          let r = mapped_from (id_of_number g) (carriers_of rs) id among in
          subst (λ q. text_cmp q (id_of_number g n) ≡ Less) r.2 (ids_rise g r.0 n (h.below r.0 r.1) lt)

  -- the numbers are the graph's
  pub carriers_numbered : (rs : PatternRows) → AreFirstAt g marks rs → AreShapeNumbers g (carriers_of rs)
  carriers_numbered [] h = tt
  carriers_numbered (r ∷ rs) h = (h.0.within, carriers_numbered rs h.1)
