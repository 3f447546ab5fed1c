-- Words behind model files have one reading.
use Rattle.std.proofs.Common.{◌≡◌, ℕ, List, [], ◌∷◌, ◌++◌, length, sym, ap, ◌∙◌, refl, arith}
use Rattle.std.proofs.Common.{length-append}
use Rattle.sm_asked_service.specs.ServiceWords.{AreBehindModels}

-- lists of one length at the end of one list
split_same : (xs ys b d : List (List ℕ)) → length b ≡ length d → xs ++ b ≡ ys ++ d → (xs ≡ ys) × (b ≡ d)
split_same [] [] b d len e = (refl, e)
split_same [] (y ∷ ys) b d len e = absurd (omega (arith, len, ap length e, length-append ys d))
split_same (x ∷ xs) [] b d len e = absurd (omega (arith, len, ap length e, length-append xs b))
split_same (x ∷ xs) (y ∷ ys) b d len e =
    let rest : xs ++ b ≡ ys ++ d = cc in
    let first : x ≡ y = cc in
    let later = split_same xs ys b d len rest in (ap (λ k. k ∷ xs) first ∙ ap (λ ks. y ∷ ks) later.0, later.1)

module _ (words : List (List ℕ)) (name : List ℕ) (models behind : List (List ℕ)) (h : AreBehindModels words name models behind) where
  pub behind_same : (models1 behind1 : List (List ℕ)) → AreBehindModels words name models1 behind1 → length behind ≡ length behind1
      → (models ≡ models1) × (behind ≡ behind1)
  behind_same models1 behind1 i len =
      let e = sym h.are ∙ i.are in
      let rest : models ++ behind ≡ models1 ++ behind1 = cc in split_same models models1 behind behind1 len rest
