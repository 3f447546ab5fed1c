-- Sums over lists: of two joined, of some of a list's elements; and a sum over names of what stands under each, which is no more than the
-- sum over all pairs where the names differ.
use Rattle.std.proofs.Common.{◌≡◌, inl, inr, ℕ, ◌+◌, ◌≤◌, Bool, true, false, cond, List, [], ◌∷◌, ◌++◌, refl, sym, ap, subst, arith}
use Rattle.std.specs.Str.{bytes_eq}
use Rattle.std.proofs.lemmas.Slice.Eq.{bytes_eq-Decides}
use Rattle.std.specs.Prelude.{reverse}
use Rattle.std.proofs.lemmas.List.{reverse-append}
use Rattle.sm_shapes.specs.Names.{NoneIs, AllDiffer}
use Rattle.sm_codec.specs.Bound.{total}
use Rattle.sm_codec.specs.Kept.{AreOf}
use Rattle.sm_codec.specs.Named.{named}

module _ {A : Type 0} (count : A → ℕ) where
  pub total_joined : (xs ys : List A) → total count (xs ++ ys) ≡ total count xs + total count ys
  total_joined [] ys = omega arith
  total_joined (x ∷ xs) ys = omega (arith, total_joined xs ys)

  pub total_of : (xs ys : List A) → AreOf xs ys → total count xs ≤ total count ys
  total_of [] ys h = omega arith
  total_of (x ∷ xs) [] h = absurd h
  total_of (x ∷ xs) (y ∷ ys) (inl h) = let same : count x ≡ count y = ap count h.0 in omega (arith, same, total_of xs ys h.1)
  total_of (x ∷ xs) (y ∷ ys) (inr h) = omega (arith, total_of (x ∷ xs) ys h)

  pub total_reversed : (xs : List A) → total count (reverse xs) ≡ total count xs
  total_reversed [] = refl
  total_reversed (x ∷ xs) =
      omega (arith, ap (total count) (reverse-append (x ∷ []) xs), total_joined (reverse xs) (x ∷ []), total_reversed xs)

module _ {A : Type 0} (cost : List ℕ → A → ℕ) where
  -- what stands under each of these names
  abbrev pub under_cost : List (List ℕ) → List (List ℕ × A) → ℕ
  under_cost ws ps = total (λ w. total (cost w) (named w ps)) ws

  -- and the pairs
  abbrev pub pairs_cost : List (List ℕ × A) → ℕ
  pairs_cost ps = total (λ p. cost p.0 p.1) ps

  -- what a pair of this name is under each of them
  abbrev own_cost : List ℕ → A → List (List ℕ) → ℕ
  own_cost name a ws = total (λ w. cond (bytes_eq name w) (cost w a) 0) ws

  unlike : (name w : List ℕ) (a : A) (b : Bool) → bytes_eq name w ≡ b → (w ≡ name → ⊥) → cond b (cost w a) 0 ≡ 0
  unlike name w a true e h = absurd (h (sym ((bytes_eq-Decides name w).0 e)))
  unlike name w a false e h = refl

  own_none : (name : List ℕ) (a : A) (ws : List (List ℕ)) → NoneIs name ws → own_cost name a ws ≡ 0
  own_none name a [] h = refl
  own_none name a (w ∷ ws) h = omega (arith, unlike name w a (bytes_eq name w) refl h.0, own_none name a ws h.1)

  own_if : (name w : List ℕ) (a : A) (ws : List (List ℕ)) (b : Bool) → bytes_eq name w ≡ b → NoneIs w ws → own_cost name a ws ≤ cost name a
      → cond b (cost w a) 0 + own_cost name a ws ≤ cost name a
  own_if name w a ws true e none rest =
      let same : w ≡ name = sym ((bytes_eq-Decides name w).0 e) in
      let equal : cost w a ≡ cost name a = ap (λ n. cost n a) same in
      let nothing : own_cost name a ws ≡ 0 = own_none name a ws (subst (λ n. NoneIs n ws) same none) in
      omega (arith, equal, nothing)
  own_if name w a ws false e none rest = omega (arith, rest)

  own_at_most : (name : List ℕ) (a : A) (ws : List (List ℕ)) → AllDiffer ws → own_cost name a ws ≤ cost name a
  own_at_most name a [] h = omega arith
  own_at_most name a (w ∷ ws) h = own_if name w a ws (bytes_eq name w) refl h.0 (own_at_most name a ws h.1)

  one_if : (w : List ℕ) (a : A) (more : List A) (b : Bool)
      → total (cost w) (cond b (a ∷ more) more) ≡ cond b (cost w a) 0 + total (cost w) more
  one_if w a more true = refl
  one_if w a more false = omega arith

  one_more : (ws : List (List ℕ)) (p : List ℕ × A) (ps : List (List ℕ × A))
      → under_cost ws (p ∷ ps) ≡ own_cost p.0 p.1 ws + under_cost ws ps
  one_more [] p ps = omega arith
  one_more (w ∷ ws) p ps = omega (arith, one_if w p.1 (named w ps) (bytes_eq p.0 w), one_more ws p ps)

  no_pairs : (ws : List (List ℕ)) → under_cost ws [] ≡ 0
  no_pairs [] = refl
  no_pairs (w ∷ ws) = omega (arith, no_pairs ws)

  pub under_at_most : (ws : List (List ℕ)) (ps : List (List ℕ × A)) → AllDiffer ws → under_cost ws ps ≤ pairs_cost ps
  under_at_most ws [] h = omega (arith, no_pairs ws)
  under_at_most ws (p ∷ ps) h = omega (arith, one_more ws p ps, own_at_most p.0 p.1 ws h, under_at_most ws ps h)
