-- Uses of traits that are put into lists, one after the other.
use Rattle.std.proofs.Common.{◌≡◌, ◌⊎◌, ◌<◌, ◌≤◌, ◌+◌, inl, inr, ℕ, zero, suc, List, [], ◌∷◌, ◌++◌, Option, Some, None, get_or, length}
use Rattle.std.proofs.Common.{take, true, false, sym, ap, ◌∙◌, subst, arith}
use Rattle.std.specs.Prelude.{◌↔◌, replicate, set}
use Rattle.std.specs.FinMap as fin
use Rattle.std.specs.List.{Contains}
use Rattle.std.proofs.lemmas.Bool.{cases_eq, cases_lt}
use Rattle.std.proofs.lemmas.List.{get_or-set_other, get_or-set_same}
use Rattle.std.proofs.lemmas.List.Elements.{Contains-append_left, Contains-push, Contains-push_cases}
use Rattle.std.proofs.lemmas.Option.{none-some}
use Rattle.sm_tree.specs.Node.{Node}
use Rattle.sm_tree.specs.View.{members_view, node_of}
use Rattle.sm_tree.specs.declared.tree.Tree.{Tree}
use Rattle.sm_model.specs.Graphs.{traits_in}
use Rattle.sm_model.specs.GraphView.{At, IsShapeNumber, Stands, entries_of, maps_of}
use Rattle.sm_model.specs.PreludeShapes.{is_prelude_id}
use Rattle.sm_model.specs.Reaching.{id_of_number}
use Rattle.sm_model.specs.declared.graph.Graph.{Graph}
use Rattle.sm_model.specs.Joins.{Joins}
use Rattle.sm_model.proofs.Linking.{joins_none, joins_same}
use Rattle.sm_model.proofs.GraphFacts.{entry_under, id_at}
use Rattle.sm_model.proofs.LinkNumbers.{stands_at}
use Rattle.sm_model.proofs.NumberedIds.{entry_here}
use Rattle.sm_model.proofs.OneRising.{contains_none}
use Rattle.sm_model.proofs.Worklist.{apart}
use Rattle.sm_compile.specs.Sound.{trait_in, trait_of}
use Rattle.sm_compile.proofs.LookedUp.{stands_is}
use Rattle.sm_compile.proofs.ReachedNumbers.{same_number}
use Rattle.sm_compile.proofs.TabledShapes.{mapped_from}
use Rattle.sm_trait_rules.proofs.JudgedTraits.{pair_seen}
use Rattle.sm_passes.proofs.TraitEntries.{found_entry}
use Rattle.sm_trait_rules.specs.steps.Placing.{AreFirsts, AreUses, HasUse, IsUseAt, IsUseBelow, IsUseOfName, SharesText}
use Rattle.sm_trait_rules.proofs.SomeJoined.{none_of_some, some_next}
use Rattle.sm_trait_rules.proofs.TraitsThere.{traits_there}

-- of so many lists without uses none has one
none_in : (n k : ℕ) (u : ℕ × ℕ) → Contains (get_or (replicate n []) k []) u → ⊥
none_in zero k u h = contains_none u h
none_in (suc n) zero u h = contains_none u h
none_in (suc n) (suc k) u h = none_in n k u h

-- one use is put behind a list
pub use_put : (rows : List (List (ℕ × ℕ))) (first : ℕ) (u : ℕ × ℕ) → first < length rows
    → Joins (HasUse rows) (λ p. p ≡ (first, u)) (HasUse (set rows first (get_or rows first [] ++ u ∷ [])))
use_put rows first u lt p = elim (cases_eq p.0 first) [
  | inl here ↦
      let row = get_or rows first [] in
      let now : get_or (set rows first (row ++ u ∷ [])) p.0 [] ≡ row ++ u ∷ [] =
      ap (λ k. get_or (set rows first (row ++ u ∷ [])) k []) here ∙ get_or-set_same rows first (row ++ u ∷ []) [] lt in
      let old : get_or rows p.0 [] ≡ row = ap (λ k. get_or rows k []) here in (
        λ h. elim (Contains-push_cases row u p.1 (subst (λ (us : List (ℕ × ℕ)). Contains us p.1) now h)) [
          | inl before ↦ inl (subst (λ (us : List (ℕ × ℕ)). Contains us p.1) (sym old) before)
          | inr is ↦ inr (λ i. (here i, sym is i))
        ],
        λ h. subst (λ (us : List (ℕ × ℕ)). Contains us p.1) (sym now) (elim h [
          | inl before ↦ Contains-append_left row (u ∷ []) p.1 (subst (λ (us : List (ℕ × ℕ)). Contains us p.1) old before)
          | inr new ↦ subst (Contains (row ++ u ∷ [])) (sym (ap (λ (q : ℕ × (ℕ × ℕ)). q.1) new)) (Contains-push row u)
        ]),
      )
  | inr other ↦
      let same : get_or (set rows first (get_or rows first [] ++ u ∷ [])) p.0 [] ≡ get_or rows p.0 [] =
      get_or-set_other rows first p.0 (get_or rows first [] ++ u ∷ []) [] other in (
        λ h. inl (subst (λ (us : List (ℕ × ℕ)). Contains us p.1) same h),
        λ h. elim h [
          | inl old ↦ subst (λ (us : List (ℕ × ℕ)). Contains us p.1) (sym same) old
          | inr new ↦ absurd (other (ap (λ (q : ℕ × (ℕ × ℕ)). q.0) new))
        ],
      )
]

-- under the number that is given, or nowhere
pub put_given : (old now : List (List (ℕ × ℕ))) (k : ℕ) (u : ℕ × ℕ) (o : Option ℕ) → o ≡ Some k
    → Joins (HasUse old) (λ p. p ≡ (k, u)) (HasUse now) → Joins (HasUse old) (λ p. (o ≡ Some p.0) × (p.1 ≡ u)) (HasUse now)
put_given old now k u o is h =
    joins_same (HasUse old) (λ p. p ≡ (k, u)) (λ p. (o ≡ Some p.0) × (p.1 ≡ u)) (HasUse now)
    (λ p. (
      λ e. (is ∙ ap (λ (q : ℕ × (ℕ × ℕ)). Some q.0) (sym e), ap (λ (q : ℕ × (ℕ × ℕ)). q.1) e),
      λ e. let same = same_place k p.0 (sym is ∙ e.0) in λ i. (sym same i, e.1 i),
    )) h
  where
    same_place : (a b : ℕ) → Some a ≡ Some b → a ≡ b
    same_place a b e = ap (λ (x : Option ℕ). place x) e
      where
        place : Option ℕ → ℕ
        place None = 0
        place (Some n) = n

pub put_nowhere : (rows : List (List (ℕ × ℕ))) (u : ℕ × ℕ) (o : Option ℕ) → o ≡ None
    → Joins (HasUse rows) (λ p. (o ≡ Some p.0) × (p.1 ≡ u)) (HasUse rows)
put_nowhere rows u o none =
    joins_none (HasUse rows) (λ p. (o ≡ Some p.0) × (p.1 ≡ u)) (λ p h. none-some p.0 (sym none ∙ h.0))

module _ (g : Graph) (firsts : List (Option ℕ)) where
  -- of the trait of a name
  pub put_name : (old now : List (List (ℕ × ℕ))) (j of : ℕ) (name : List ℕ) → Stands g of name
      → Joins (HasUse old) (λ p. (get_or firsts of None ≡ Some p.0) × (p.1 ≡ (j, of))) (HasUse now)
      → Joins (HasUse old) (IsUseOfName g firsts j name) (HasUse now)
  put_name old now j of name stands h =
      let t = stands_is g 0 of name stands in
      joins_same (HasUse old) (λ p. (get_or firsts of None ≡ Some p.0) × (p.1 ≡ (j, of))) (IsUseOfName g firsts j name) (HasUse now)
      (λ p. (
        λ e.
            let at : p.1.1 ≡ of = ap (λ (u : ℕ × ℕ). u.1) e.1 in (
              ap (λ (u : ℕ × ℕ). u.0) e.1,
              subst (IsShapeNumber g) (sym at) t.0,
              ap (id_of_number g) at ∙ t.1,
              ap (λ k. get_or firsts k None) at ∙ e.0,
            ),
        λ e.
            let at : p.1.1 ≡ of = same_number g p.1.1 of e.1 t.0 (e.2 ∙ sym t.1) in
            (ap (λ k. get_or firsts k None) (sym at) ∙ e.3, λ i. (e.0 i, at i)),
      )) h

  -- a name that the graph hasn't is that of none
  pub no_name : (rows : List (List (ℕ × ℕ))) (j : ℕ) (name : List ℕ) → fin.get (maps_of g).shapes name ≡ None
      → Joins (HasUse rows) (IsUseOfName g firsts j name) (HasUse rows)
  no_name rows j name none =
      joins_none (HasUse rows) (IsUseOfName g firsts j name)
      (λ p e.
      let x = stands_at g p.1.1 e.1 in
      let same : name ≡ x.0 = sym e.2 ∙ id_at g p.1.1 x.0 x.1 x.2 in
      none-some x.1 (sym none ∙ ap (fin.get (maps_of g).shapes) same ∙ entry_under g p.1.1 x.0 x.1 x.2))

  -- of these traits, one after the other
  abbrev pub IsUseOfOne : ℕ → List (List ℕ × Tree) → ℕ × (ℕ × ℕ) → Type 0
  IsUseOfOne j ts p = (t : List ℕ × Tree) × Contains ts t × IsUseOfName g firsts j t.0 p

  pub no_traits : (rows : List (List (ℕ × ℕ))) (j : ℕ) → Joins (HasUse rows) (IsUseOfOne j []) (HasUse rows)
  no_traits rows j = none_of_some (λ t. IsUseOfName g firsts j t.0) (HasUse rows)

  pub next_trait : (old mid now : List (List (ℕ × ℕ))) (j : ℕ) (ts : List (List ℕ × Tree)) (i : ℕ) (t : List ℕ × Tree) (name : List ℕ)
      → i < length ts → t ≡ get_or ts i t → name ≡ t.0 → Joins (HasUse old) (IsUseOfOne j (take i ts)) (HasUse mid)
      → Joins (HasUse mid) (IsUseOfName g firsts j name) (HasUse now)
      → Joins (HasUse old) (IsUseOfOne j (take (i + 1) ts)) (HasUse now)
  next_trait old mid now j ts i t name within is same before here =
      some_next (λ t. IsUseOfName g firsts j t.0) ts i t within is (HasUse old) (HasUse mid) (HasUse now) before
      (subst (λ n. Joins (HasUse mid) (IsUseOfName g firsts j n) (HasUse now)) same here)

  -- of what stands at a number outside of the prelude, and of what stands in it
  module _ (j : ℕ) (small : IsShapeNumber g j) where
    pub uses_here : (ts : List (List ℕ × Tree)) → At g j (λ id e. fin.entries (traits_in e) ≡ members_view ts)
        → is_prelude_id (id_of_number g j) ≡ false → (old now : List (List (ℕ × ℕ)))
        → Joins (HasUse old) (IsUseOfOne j ts) (HasUse now) → Joins (HasUse old) (IsUseAt g firsts j) (HasUse now)
    uses_here ts at own old now h =
        joins_same (HasUse old) (IsUseOfOne j ts) (IsUseAt g firsts j) (HasUse now) (λ p. (forth p, back p)) h
      where
        forth : (p : ℕ × (ℕ × ℕ)) → IsUseOfOne j ts p → IsUseAt g firsts j p
        forth p h =
            let x = entry_here g j (λ id e. fin.entries (traits_in e) ≡ members_view ts) at in
            let t = h.0 in
            let e = h.2 in
            let stands : trait_of (maps_of g) (id_of_number g p.1.0) (id_of_number g p.1.1) ≡ Some (node_of t.1) =
            (λ i. trait_of (maps_of g) (id_of_number g (e.0 i)) (e.2 i))
            ∙ traits_there (maps_of g) (id_of_number g j) x.0 x.1 ts x.2 t h.1 in (
              e.0,
              (
                subst (IsShapeNumber g) (sym e.0) small,
                e.1,
                (node_of t.1, (ap (λ k. is_prelude_id (id_of_number g k)) e.0 ∙ own, stands)),
              ),
              e.3,
            )

        back : (p : ℕ × (ℕ × ℕ)) → IsUseAt g firsts j p → IsUseOfOne j ts p
        back p h =
            let x = entry_here g j (λ id e. fin.entries (traits_in e) ≡ members_view ts) at in
            let u = h.1 in
            let trait = id_of_number g p.1.1 in
            let found : trait_of (maps_of g) (id_of_number g j) trait ≡ Some u.2.0 =
            ap (λ k. trait_of (maps_of g) (id_of_number g k) trait) (sym h.0) ∙ u.2.1.1 in
            let there = found_entry (traits_in x.0) trait u.2.0 (sym (ap (trait_in trait) x.1) ∙ found) in
            let of = mapped_from pair_seen ts (trait, u.2.0)
            (subst (λ ps. Contains {X = List ℕ × Node} ps (trait, u.2.0)) x.2 there) in
            (of.0, of.1, (h.0, u.1, sym (ap (λ (y : List ℕ × Node). y.0) of.2), h.2))

    pub prelude_uses : is_prelude_id (id_of_number g j) ≡ true → (rows : List (List (ℕ × ℕ)))
        → Joins (HasUse rows) (IsUseAt g firsts j) (HasUse rows)
    prelude_uses of rows =
        joins_none (HasUse rows) (IsUseAt g firsts j)
        (λ p h. apart (sym h.1.2.1.0 ∙ ap (λ k. is_prelude_id (id_of_number g k)) h.0 ∙ of))

  -- number by number
  pub uses_begun : (n : ℕ) (rows : List (List (ℕ × ℕ))) → rows ≡ replicate n [] → (p : ℕ × (ℕ × ℕ))
      → HasUse rows p ↔ IsUseBelow g firsts 0 p
  uses_begun n rows none p = (
    λ h. absurd (none_in n p.0 p.1 (subst (λ rs. HasUse rs p) none h)),
    λ h. let small = h.0 in absurd (omega (arith, small)),
  )

  pub uses_next : (n : ℕ) (old now : List (List (ℕ × ℕ))) → ((p : ℕ × (ℕ × ℕ)) → HasUse old p ↔ IsUseBelow g firsts n p)
      → Joins (HasUse old) (IsUseAt g firsts n) (HasUse now) → (p : ℕ × (ℕ × ℕ)) → HasUse now p ↔ IsUseBelow g firsts (n + 1) p
  uses_next n old now before here p = (
    λ h. elim ((here p).0 h) [
      | inl was ↦ let b = (before p).0 was in let small = b.0 in (omega (arith, small), b.1, b.2)
      | inr new ↦ let at = new.0 in (omega (arith, at), new.1, new.2)
    ],
    λ h. (here p).1 (by_order h (cases_lt p.1.0 n)),
  )
    where
      by_order : IsUseBelow g firsts (n + 1) p → (p.1.0 < n) ⊎ (n ≤ p.1.0) → HasUse old p ⊎ IsUseAt g firsts n p
      by_order h (inl less) = inl ((before p).1 (less, h.1, h.2))
      by_order h (inr more) = let small = h.0 in let at : p.1.0 ≡ n = omega (arith, small, more) in inr (at, h.1, h.2)

  pub uses_all : (n : ℕ) (rows : List (List (ℕ × ℕ))) → n ≡ length (entries_of g) → length rows ≡ length (entries_of g)
      → ((p : ℕ × (ℕ × ℕ)) → HasUse rows p ↔ IsUseBelow g firsts n p) → AreUses g firsts rows
  uses_all n rows all whole so = record {
    whole = whole;
    uses = λ p. (
      λ h. let b = (so p).0 h in (b.1, b.2),
      λ h. (so p).1 (subst (λ m. p.1.0 < m) (sym all) h.0.0, h.0, h.1),
    );
  }

  -- a number that is given is one of the graph
  pub given_small : AreFirsts g firsts → (of k : ℕ) → IsShapeNumber g of → get_or firsts of None ≡ Some k → IsShapeNumber g k
  given_small are of k small is = let s = subst (SharesText g of) is (are.each of small) in s.2.0
