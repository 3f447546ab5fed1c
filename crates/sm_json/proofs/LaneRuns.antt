-- A run of bytes that pass a test, a vector at a time, from the mask of those that fail it.
use Rattle.std.proofs.Common.{◌≡◌, ℕ, ◌+◌, ◌*◌, ◌<◌, ◌≤◌, eqb, Bool, true, false, not, cond, List, [], ◌∷◌, length, drop, map, refl, sym}
use Rattle.std.proofs.Common.{ap, ap₂, ◌∙◌, arith}
use Rattle.std.proofs.lemmas.Bool.{eq-eqb, ne_eqb}
use Rattle.std.proofs.lemmas.List.{length-drop}
use Rattle.std.proofs.lemmas.List.Folds.{prefix_len-append}
use Rattle.std.proofs.lemmas.List.Sums.{prefix_len-le-length}
use Rattle.std.proofs.lemmas.Simd.{chunk-drop, length-chunk, leading_from_mask_l, trailing_mask_l}
use Rattle.std.specs.List.{prefix_len}
use lib.Count.{count_trailing_zeros}
use lib.Lanes.{chunk, mask_l}

pub run_within : (q : ℕ → Bool) (bs : List ℕ) (i : ℕ) → i ≤ length bs → i + prefix_len q (drop i bs) ≤ length bs
run_within q bs i h = omega (arith, prefix_len-le-length q (drop i bs), length-drop i bs)

not-not : (b : Bool) → b ≡ not (not b)
not-not true = refl
not-not false = refl

none_fails : (b : Bool) (n l m : ℕ) → n ≤ l → cond b (1 + n) 0 ≡ 1 + l → (n ≡ l → m ≡ 0) → cond (not b) 1 0 + 2 * m ≡ 0
none_fails false n l m le e ih = let no : ⊥ = omega arith in absurd no
none_fails true n l m le e ih = let z = ih (omega arith) in omega arith

module _ (q : ℕ → Bool) where
  abbrev fails : ℕ → Bool
  fails x = not (q x)

  same_run : (xs : List ℕ) → prefix_len q xs ≡ prefix_len (λ x. not (fails x)) xs
  same_run [] = refl
  same_run (x ∷ xs) = ap₂ (λ b n. cond b (1 + n) 0) (not-not (q x)) (same_run xs)

  all_pass : (xs : List ℕ) → prefix_len q xs ≡ length xs → mask_l (map fails xs) ≡ 0
  all_pass [] e = refl
  all_pass (x ∷ xs) e = none_fails (q x) _ (length xs) _ (prefix_len-le-length q xs) (omega arith) (all_pass xs)

  split : (bs : List ℕ) (i n : ℕ) → prefix_len q (drop i bs)
      ≡ cond (eqb (prefix_len q (chunk i n bs)) (length (chunk i n bs))) (length (chunk i n bs) + prefix_len q (drop (i + n) bs))
      (prefix_len q (chunk i n bs))
  split bs i n = ap (prefix_len q) (chunk-drop i n bs) ∙ prefix_len-append q (chunk i n bs) (drop (i + n) bs)

  -- no byte of the vector fails: the run goes on behind it
  pub run_through : (bs : List ℕ) (i n : ℕ) → i + n ≤ length bs → mask_l (map fails (chunk i n bs)) ≡ 0
      → prefix_len q (drop i bs) ≡ n + prefix_len q (drop (i + n) bs)
  run_through bs i n room none =
      let c = chunk i n bs in
      split bs i n
      ∙ ap (λ b. cond b (length c + prefix_len q (drop (i + n) bs)) (prefix_len q c))
      (eq-eqb _ _ (same_run c ∙ leading_from_mask_l fails c none))
      ∙ ap (λ k. k + prefix_len q (drop (i + n) bs)) (length-chunk i n bs room)

  -- some byte fails: the run ends at the first
  pub run_stops : (bs : List ℕ) (i n : ℕ) → i + n ≤ length bs → n ≤ 64 → 0 < mask_l (map fails (chunk i n bs))
      → prefix_len q (drop i bs) ≡ count_trailing_zeros 64 (mask_l (map fails (chunk i n bs)))
  run_stops bs i n room short some =
      let c = chunk i n bs in
      split bs i n
      ∙ ap (λ b. cond b (length c + prefix_len q (drop (i + n) bs)) (prefix_len q c))
      (ne_eqb _ _ (λ (e : prefix_len q c ≡ length c). omega (arith, all_pass c e)))
      ∙ same_run c ∙ sym (trailing_mask_l fails 64 c (omega (arith, length-chunk i n bs room)) some)
