-- Numbers whose names differ have an order by their names.
use Rattle.std.proofs.Common.{◌≡◌, ◌⊎◌, inl, inr, ℕ, List, [], ◌∷◌, map, refl, sym, ap, ◌∙◌, subst}
use Rattle.std.specs.Cmp.Lexicographic.{nat_list_cmp_total}
use Rattle.std.specs.FinMap.{nat_cmp-IsAntisymmetric, slice_cmp-IsAntisymmetric}
use Rattle.std.specs.List.{Contains}
use Rattle.std.specs.List.Sorted.{IsPermutation}
use Rattle.std.specs.Ordering.{ordering_reverse}
use Rattle.std.specs.declared.cmp.Ordering.{Ordering}
use Rattle.std.specs.declared.cmp.Ordering.TheVariants.{Less, Equal, Greater}
use Rattle.std.proofs.lemmas.List.Sorted.{IsPermutation-cons, IsPermutation-middle, IsPermutation-refl, IsPermutation-trans}
use Rattle.sm_model.specs.Graphs.{text_cmp}
use Rattle.sm_model.specs.steps.Rising.{IsBelow, Rise}
use Rattle.sm_model.proofs.OneRising.{contains_behind, contains_either, contains_head}
use Rattle.sm_shapes.specs.InOrder.{AreByName}
use Rattle.sm_shapes.specs.Names.{AllDiffer}
use Rattle.sm_compile.proofs.OrderedMembers.{strictly}
use Rattle.sm_compile.proofs.RowsAlike.{none_among}
use Rattle.sm_compile.proofs.TabledShapes.{mapped_to}

-- a number in its place among those in order
module _ (name : ℕ → List ℕ) where
  abbrev put_by : Ordering → ℕ → ℕ → List ℕ → List ℕ → List ℕ
  put_by Less k o os placed = k ∷ o ∷ os
  put_by Equal k o os placed = o ∷ placed
  put_by Greater k o os placed = o ∷ placed

  abbrev placed : ℕ → List ℕ → List ℕ
  placed k [] = k ∷ []
  placed k (o ∷ os) = put_by (text_cmp (name k) (name o)) k o os (placed k os)

  moved_by : (r : Ordering) (k o : ℕ) (os ps : List ℕ) → IsPermutation ps (k ∷ os) → IsPermutation (put_by r k o os ps) (k ∷ o ∷ os)
  moved_by Less k o os ps h = IsPermutation-refl (k ∷ o ∷ os)
  moved_by Equal k o os ps h =
      IsPermutation-trans (o ∷ ps) (o ∷ k ∷ os) (k ∷ o ∷ os) (IsPermutation-cons o ps (k ∷ os) h) (IsPermutation-middle (o ∷ []) k os)
  moved_by Greater k o os ps h =
      IsPermutation-trans (o ∷ ps) (o ∷ k ∷ os) (k ∷ o ∷ os) (IsPermutation-cons o ps (k ∷ os) h) (IsPermutation-middle (o ∷ []) k os)

  moved : (k : ℕ) (os : List ℕ) → IsPermutation (placed k os) (k ∷ os)
  moved k [] = IsPermutation-refl (k ∷ [])
  moved k (o ∷ os) = moved_by (text_cmp (name k) (name o)) k o os (placed k os) (moved k os)

  from_by : (r : Ordering) (k o : ℕ) (os ps : List ℕ) (x : ℕ) → ((y : ℕ) → Contains ps y → (y ≡ k) ⊎ Contains os y)
      → Contains (put_by r k o os ps) x → (x ≡ k) ⊎ Contains (o ∷ os) x
  from_by Less k o os ps x rest h = elim (contains_either k x (o ∷ os) h) [ inl same ↦ inl (sym same) | inr later ↦ inr later ]
  from_by Equal k o os ps x rest h = elim (contains_either o x ps h) [
    | inl same ↦ inr (subst (Contains (o ∷ os)) same (contains_head o os))
    | inr later ↦ elim (rest x later) [ inl is ↦ inl is | inr there ↦ inr (contains_behind o x os there) ]
  ]
  from_by Greater k o os ps x rest h = elim (contains_either o x ps h) [
    | inl same ↦ inr (subst (Contains (o ∷ os)) same (contains_head o os))
    | inr later ↦ elim (rest x later) [ inl is ↦ inl is | inr there ↦ inr (contains_behind o x os there) ]
  ]

  from_placed : (k : ℕ) (os : List ℕ) (x : ℕ) → Contains (placed k os) x → (x ≡ k) ⊎ Contains os x
  from_placed k [] x h = elim (contains_either k x [] h) [ inl same ↦ inl (sym same) | inr none ↦ inr none ]
  from_placed k (o ∷ os) x h = from_by (text_cmp (name k) (name o)) k o os (placed k os) x (λ y. from_placed k os y) h

  below_by : (x : List ℕ) (r : Ordering) (k o : ℕ) (os ps : List ℕ) → text_cmp x (name k) ≡ Less → IsBelow x (map name (o ∷ os))
      → IsBelow x (map name ps) → IsBelow x (map name (put_by r k o os ps))
  below_by x Less k o os ps less h rest = (less, h)
  below_by x Equal k o os ps less h rest = (h.0, rest)
  below_by x Greater k o os ps less h rest = (h.0, rest)

  below_placed : (x : List ℕ) (k : ℕ) (os : List ℕ) → text_cmp x (name k) ≡ Less → IsBelow x (map name os) → IsBelow x
      (map name (placed k os))
  below_placed x k [] less h = (less, tt)
  below_placed x k (o ∷ os) less h =
      below_by x (text_cmp (name k) (name o)) k o os (placed k os) less h (below_placed x k os less h.1)

  below_later : (x : List ℕ) (o : List ℕ) (js : List (List ℕ)) → text_cmp x o ≡ Less → IsBelow o js → IsBelow x js
  below_later x o [] less h = tt
  below_later x o (j ∷ js) less h = (nat_list_cmp_total.trans x o j less h.0, below_later x o js less h.1)

  rise_by : (r : Ordering) (k o : ℕ) (os : List ℕ) → text_cmp (name k) (name o) ≡ r → (name k ≡ name o → ⊥) → Rise (map name (o ∷ os))
      → Rise (map name (placed k os)) → Rise (map name (put_by r k o os (placed k os)))
  rise_by Less k o os is apart h rest = ((is, below_later (name k) (name o) (map name os) is h.0), h)
  rise_by Equal k o os is apart h rest = absurd (apart (slice_cmp-IsAntisymmetric nat_cmp-IsAntisymmetric (name k) (name o) is))
  rise_by Greater k o os is apart h rest =
      (below_placed (name o) k os (nat_list_cmp_total.antisymm (name o) (name k) ∙ ap ordering_reverse is) h.0, rest)

  rise_placed : (k : ℕ) (os : List ℕ) → ((o : ℕ) → Contains os o → name k ≡ name o → ⊥) → Rise (map name os) → Rise (map name (placed k os))
  rise_placed k [] apart h = (tt, tt)
  rise_placed k (o ∷ os) apart h =
      rise_by (text_cmp (name k) (name o)) k o os refl (apart o (contains_head o os)) h
      (rise_placed k os (λ x there. apart x (contains_behind o x os there)) h.1)

  -- all of them in order
  record AreOrdered (ks os : List ℕ) : Type 0 where
    pub moves : IsPermutation os ks
    pub among : (o : ℕ) → Contains os o → Contains ks o
    pub rise : Rise (map name os)

  all_ordered : (ks : List ℕ) → AllDiffer (map name ks) → (os : List ℕ) × AreOrdered ks os
  all_ordered [] differ = ([], record { moves = IsPermutation-refl []; among = λ o there. there; rise = tt })
  all_ordered (k ∷ ks) differ =
      let rest = all_ordered ks differ.1 in
      let os = rest.0 in (
        placed k os,
        record {
          moves = IsPermutation-trans (placed k os) (k ∷ os) (k ∷ ks) (moved k os) (IsPermutation-cons k os ks rest.1.moves);
          among = λ o there. elim (from_placed k os o there) [
            | inl same ↦ subst (Contains (k ∷ ks)) (sym same) (contains_head k ks)
            | inr later ↦ contains_behind k o ks (rest.1.among o later)
          ];
          rise = rise_placed k os
              (λ o there same. none_among (name k) (map name ks) differ.0
              (subst (Contains (map name ks)) (sym same) (mapped_to name ks o (rest.1.among o there)))) rest.1.rise;
        },
      )

  pub some_order : (ks : List ℕ) → AllDiffer (map name ks) → (os : List ℕ) × AreByName name ks os
  some_order ks differ = let all = all_ordered ks differ in (all.0, (all.1.moves, strictly (map name all.0) all.1.rise))
