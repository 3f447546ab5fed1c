-- Where a binary search among keys that rise comes to, as a number of keys that are others.
use Rattle.std.proofs.Common.{◌≡◌, inl, inr, ℕ, ◌<◌, ◌+◌, true, false, List, [], ◌∷◌, map, length, get_or, refl, sym, ap, ◌∙◌, subst}
use Rattle.std.proofs.Common.{arith}
use Rattle.std.specs.Prelude.{not}
use Rattle.std.specs.Str.{bytes_eq}
use Rattle.std.specs.List.{HoldsAt, prefix_len}
use Rattle.std.specs.List.Sorted.{IsNonDecreasingBy, IsPartitionPoint, IsSortedBy, IsStrictlySortedBy}
use Rattle.std.specs.Ordering.{nat_cmp, ordering_index, ordering_reverse, is_eq, is_lt}
use Rattle.std.specs.declared.cmp.Ordering.{Ordering}
use Rattle.std.specs.declared.cmp.Ordering.TheVariants.{Less, Equal, Greater}
use Rattle.std.specs.Cmp.Lexicographic.{slice_cmp}
use Rattle.std.proofs.lemmas.Bool.{cases_lt}
use Rattle.std.proofs.lemmas.Cmp.{nat_list_cmp_total}
use Rattle.std.proofs.lemmas.List.{get_or-map, length-map}
use Rattle.std.proofs.lemmas.List.Sorted.{searchable_from_sorted}
use Rattle.std.proofs.lemmas.List.Sums.{prefix_len_is}
use Rattle.std.proofs.lemmas.Map.Keys.{Less-from_sorted}
use Rattle.std.proofs.lemmas.Map.Text.{is_eq-slice_cmp}
use Rattle.std.proofs.lemmas.Slice.Eq.{bytes_eq-Decides}

-- the order of texts
abbrev order : List ℕ → List ℕ → Ordering
order x y = slice_cmp nat_cmp x y

unlike_by : (x y : List ℕ) (o : Ordering) → order x y ≡ o → is_eq o ≡ false → bytes_eq x y ≡ false
unlike_by x y o e apart = sym (is_eq-slice_cmp x y) ∙ ap is_eq e ∙ apart

like_by : (x y : List ℕ) → order x y ≡ Equal → bytes_eq x y ≡ true
like_by x y e = sym (is_eq-slice_cmp x y) ∙ ap is_eq e

-- the keys before one that is equal to q are others
before_equal : (x y q : List ℕ) → order x y ≡ Less → order y q ≡ Equal → bytes_eq x q ≡ false
before_equal x y q less tied =
    let same : y ≡ q = (bytes_eq-Decides y q).0 (like_by y q tied) in
    unlike_by x q Less (subst (λ z. order x z ≡ Less) same less) refl

module _ {R : Type 0} (f : R → List ℕ) where
  at_map : (rows : List R) (i : ℕ) (d : R) → i < length rows → get_or (map f rows) i (f d) ≡ f (get_or rows i d)
  at_map rows i d lt = get_or-map f rows i d (f d) lt

  next_less : (rows : List R) → IsStrictlySortedBy (slice_cmp nat_cmp) (map f rows) → (i j : ℕ) (d : R) → i < j → j < length rows
      → order (f (get_or rows i d)) (f (get_or rows j d)) ≡ Less
  next_less rows rises i j d less lt =
      ap (λ x. order x (f (get_or rows j d))) (sym (at_map rows i d (omega (arith, less, lt))))
      ∙ ap (λ y. order (get_or (map f rows) i (f d)) y) (sym (at_map rows j d lt))
      ∙ Less-from_sorted (slice_cmp nat_cmp) (map f rows) i j (f d) rises less (subst (λ n. j < n) (sym (length-map rows f)) lt)

  in_order : (rows : List R) → IsStrictlySortedBy (slice_cmp nat_cmp) (map f rows)
      → IsSortedBy (λ a b. is_lt (slice_cmp nat_cmp (f a) (f b))) rows
  in_order rows rises i d low lt =
      ap is_lt (nat_list_cmp_total.antisymm (f (get_or rows (i + 1) d)) (f (get_or rows i d))
      ∙ ap ordering_reverse (next_less rows rises i (i + 1) d (omega arith) lt))

  -- so a binary search may be asked
  pub searchable : (rows : List R) → IsStrictlySortedBy (slice_cmp nat_cmp) (map f rows) → (q : List ℕ)
      → IsNonDecreasingBy (λ r. ordering_index (slice_cmp nat_cmp (f r) q)) rows
  searchable rows rises q = searchable_from_sorted nat_list_cmp_total f rows q (in_order rows rises)

  -- where it finds q, so many keys are others
  pub key_found : (rows : List R) → IsStrictlySortedBy (slice_cmp nat_cmp) (map f rows) → (q : List ℕ) (i : ℕ) → i < length rows
      → HoldsAt (λ r. slice_cmp nat_cmp (f r) q ≡ Equal) rows i → prefix_len (λ k. not (bytes_eq k q)) (map f rows) ≡ i
  key_found [] rises q i lt tied = absurd (omega (arith, lt))
  key_found (r ∷ rs) rises q i lt tied =
      let rows = r ∷ rs in
      let long = length-map rows f in
      prefix_len_is (λ k. not (bytes_eq k q)) (map f rows) i (f r) (omega (arith, lt, long))
      (λ j less. ap (λ k. not (bytes_eq k q)) (at_map rows j r (omega (arith, less, lt)))
      ∙ ap not (before_equal (f (get_or rows j r)) (f (get_or rows i r)) q (next_less rows rises j i r less lt) (tied r)))
      (λ within. ap (λ k. not (bytes_eq k q)) (at_map rows i r lt) ∙ ap not (like_by (f (get_or rows i r)) q (tied r)))

  -- and where it doesn't, all are
  pub key_missing : (rows : List R) (q : List ℕ) (i : ℕ)
      → IsPartitionPoint (λ r. slice_cmp nat_cmp (f r) q ≡ Less) (λ r. slice_cmp nat_cmp (f r) q ≡ Greater) rows i
      → prefix_len (λ k. not (bytes_eq k q)) (map f rows) ≡ length rows
  key_missing [] q i parted = refl
  key_missing (r ∷ rs) q i parted =
      let rows = r ∷ rs in
      let long = length-map rows f in
      prefix_len_is (λ k. not (bytes_eq k q)) (map f rows) (length rows) (f r) (omega (arith, long))
      (λ j less. ap (λ k. not (bytes_eq k q)) (at_map rows j r less)
      ∙ ap not (elim (cases_lt j i) [
        | inl low ↦ unlike_by (f (get_or rows j r)) q Less (parted.0 j r (omega arith) low) refl
        | inr high ↦ unlike_by (f (get_or rows j r)) q Greater (parted.1 j r high less) refl
      ]))
      (λ within. absurd (omega (arith, within, long)))
