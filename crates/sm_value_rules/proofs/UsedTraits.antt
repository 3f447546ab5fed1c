-- Marks of what stands as a trait at some shape or member.
use Rattle.std.proofs.Common.{◌≡◌, ◌⊎◌, ◌<◌, ◌≤◌, ◌+◌, inl, inr, ℕ, Bool, false, List, [], get_or, length, take, Some, None, sym, ap, ◌∙◌}
use Rattle.std.proofs.Common.{subst, arith}
use Rattle.std.specs.Prelude.{◌↔◌, replicate}
use Rattle.std.specs.FinMap as fin
use Rattle.std.specs.List.{Contains}
use Rattle.std.proofs.lemmas.Bool.{cases_lt}
use Rattle.std.proofs.lemmas.Option.{none-some}
use Rattle.sm_tree.specs.Node.{Node}
use Rattle.sm_tree.specs.View.{members_view, node_of}
use Rattle.sm_tree.specs.declared.tree.Tree.{Tree}
use Rattle.sm_model.specs.Graphs.{traits_in}
use Rattle.sm_model.specs.GraphView.{At, IsShapeNumber, Stands, entries_of, maps_of}
use Rattle.sm_model.specs.Reaching.{IsMarked, id_of_number}
use Rattle.sm_model.specs.declared.graph.Graph.{Graph}
use Rattle.sm_model.specs.Joins.{Joins}
use Rattle.sm_model.proofs.GraphFacts.{entry_under, id_at}
use Rattle.sm_model.proofs.LinkNumbers.{stands_at}
use Rattle.sm_model.proofs.Linking.{joins_none, joins_same}
use Rattle.sm_model.proofs.NumberedIds.{entry_here}
use Rattle.sm_model.proofs.Worklist.{none_marked}
use Rattle.sm_compile.specs.Sound.{trait_in}
use Rattle.sm_compile.proofs.LookedUp.{stands_is}
use Rattle.sm_compile.proofs.ReachedNumbers.{same_number}
use Rattle.sm_compile.proofs.TabledShapes.{mapped_from}
use Rattle.sm_trait_rules.proofs.JudgedTraits.{pair_seen}
use Rattle.sm_passes.proofs.TraitEntries.{found_entry}
use Rattle.sm_trait_rules.specs.steps.Placing.{IsNamed, IsNamedOf}
use Rattle.sm_value_rules.specs.Used.{AreUsed, IsUsedBy}
use Rattle.sm_trait_rules.proofs.SomeJoined.{none_of_some, some_next}
use Rattle.sm_trait_rules.proofs.TraitsThere.{traits_there}

module _ (g : Graph) where
  -- the number of an id; an id that the graph hasn't has none
  pub one_named : (old now : List Bool) (id : List ℕ) (s : ℕ) → Stands g s id → Joins (IsMarked old) (λ k. s ≡ k) (IsMarked now)
      → Joins (IsMarked old) (IsNamed g id) (IsMarked now)
  one_named old now id s at h =
      let t = stands_is g 0 s id at in
      joins_same (IsMarked old) (λ k. s ≡ k) (IsNamed g id) (IsMarked now)
      (λ k. (
        λ is. (subst (IsShapeNumber g) is t.0, ap (id_of_number g) (sym is) ∙ t.1),
        λ named. same_number g s k t.0 named.0 (t.1 ∙ sym named.1),
      )) h

  pub none_named : (marks : List Bool) (id : List ℕ) → fin.get (maps_of g).shapes id ≡ None
      → Joins (IsMarked marks) (IsNamed g id) (IsMarked marks)
  none_named marks id none =
      joins_none (IsMarked marks) (IsNamed g id)
      (λ k named.
      let x = stands_at g k named.0 in
      let same : id ≡ x.0 = sym named.1 ∙ id_at g k x.0 x.1 x.2 in
      none-some x.1 (sym none ∙ ap (fin.get (maps_of g).shapes) same ∙ entry_under g k x.0 x.1 x.2))

  -- of traits, one after the other
  pub named_none : (marks : List Bool) → Joins (IsMarked marks) (IsNamedOf g []) (IsMarked marks)
  named_none marks = none_of_some {X = List ℕ × Tree} (λ t. IsNamed g t.0) (IsMarked marks)

  pub named_more : (old mid now : List Bool) (ts : List (List ℕ × Tree)) (i : ℕ) (t : List ℕ × Tree) (name : List ℕ) → i < length ts
      → t ≡ get_or ts i t → name ≡ t.0 → Joins (IsMarked old) (IsNamedOf g (take i ts)) (IsMarked mid)
      → Joins (IsMarked mid) (IsNamed g name) (IsMarked now) → Joins (IsMarked old) (IsNamedOf g (take (i + 1) ts)) (IsMarked now)
  named_more old mid now ts i t name within is same before here =
      some_next (λ t. IsNamed g t.0) ts i t within is (IsMarked old) (IsMarked mid) (IsMarked now) before
      (subst (λ n. Joins (IsMarked mid) (IsNamed g n) (IsMarked now)) same here)

  -- of what stands at a number
  abbrev pub IsUsedAt : ℕ → ℕ → Type 0
  IsUsedAt j k = IsShapeNumber g k × IsUsedBy g (id_of_number g j) k

  pub used_here : (j : ℕ) (ts : List (List ℕ × Tree)) → At g j (λ id e. fin.entries (traits_in e) ≡ members_view ts) → (k : ℕ)
      → IsNamedOf g ts k ↔ IsUsedAt j k
  used_here j ts at k =
      let x = entry_here g j (λ id e. fin.entries (traits_in e) ≡ members_view ts) at in
      let trait = id_of_number g k in (
        λ named.
            let t = named.0 in (
              named.2.0,
              (
                node_of t.1,
                ap (λ (id : List ℕ). trait_in id (fin.get (maps_of g).shapes (id_of_number g j))) named.2.1
                    ∙ traits_there (maps_of g) (id_of_number g j) x.0 x.1 ts x.2 t named.1,
              ),
            ),
        λ used.
            let n = used.1.0 in
            let found : fin.get (traits_in x.0) trait ≡ Some n = sym (ap (trait_in trait) x.1) ∙ used.1.1 in
            let stands = subst (λ es. Contains {X = List ℕ × Node} es (trait, n)) x.2 (found_entry (traits_in x.0) trait n found) in
            let t = mapped_from pair_seen ts (trait, n) stands in
            (t.0, t.1, (used.0, sym (ap (λ (y : List ℕ × Node). y.0) t.2))),
      )

  -- of the numbers below one
  abbrev pub IsUsedBelow : ℕ → ℕ → Type 0
  IsUsedBelow n k = (j : ℕ) × (j < n) × IsUsedAt j k

  pub used_begun : (n : ℕ) (marks : List Bool) → marks ≡ replicate n false → (k : ℕ) → IsMarked marks k ↔ IsUsedBelow 0 k
  used_begun n marks none k = (
    λ h. absurd (none_marked n k (subst (λ ms. IsMarked ms k) none h)),
    λ h. let small = h.1 in absurd (omega (arith, small)),
  )

  pub used_next : (n : ℕ) (old now : List Bool) (ts : List (List ℕ × Tree))
      → At g n (λ id e. fin.entries (traits_in e) ≡ members_view ts) → Joins (IsMarked old) (IsNamedOf g ts) (IsMarked now)
      → ((k : ℕ) → IsMarked old k ↔ IsUsedBelow n k) → (k : ℕ) → IsMarked now k ↔ IsUsedBelow (n + 1) k
  used_next n old now ts at here before k = (
    λ h. elim ((here k).0 h) [
      | inl was ↦ let b = (before k).0 was in let small = b.1 in (b.0, omega (arith, small), b.2)
      | inr named ↦ (n, omega arith, (used_here n ts at k).0 named)
    ],
    λ h. (here k).1 (by_order h (cases_lt h.0 n)),
  )
    where
      by_order : (h : IsUsedBelow (n + 1) k) → (h.0 < n) ⊎ (n ≤ h.0) → IsMarked old k ⊎ IsNamedOf g ts k
      by_order h (inl less) = inl ((before k).1 (h.0, less, h.2))
      by_order h (inr more) =
          let small = h.1 in
          let same : h.0 ≡ n = omega (arith, small, more) in
          inr ((used_here n ts at k).1 (subst (λ j. IsUsedAt j k) same h.2))

  pub used_all : (n : ℕ) (marks : List Bool) → n ≡ length (entries_of g) → length marks ≡ length (entries_of g)
      → ((k : ℕ) → IsMarked marks k ↔ IsUsedBelow n k) → AreUsed g marks
  used_all n marks all whole so = record {
    whole = whole;
    marked = λ k. (
      λ h. let b = (so k).0 h in (b.2.0, (b.0, subst (λ m. b.0 < m) all b.1, b.2.1)),
      λ h. let u = h.1 in (so k).1 (u.0, subst (λ m. u.0 < m) (sym all) u.1, (h.0, u.2)),
    );
  }
