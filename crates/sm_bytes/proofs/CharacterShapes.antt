-- The four shapes that the encoding of a character can have, and what they say of its first bytes.
use Rattle.std.proofs.Common.{◌≡◌, ℕ, true, ◌+◌, ◌/◌, ◌<◌, ◌≤◌, ◌⊎◌, ◌==◌, [], ◌∷◌, inl, inr, arith}
use Rattle.std.proofs.lemmas.Bool.{cases_lt, cond_both, eqb-true}
use Rattle.sm_bytes.specs.Utf8.{IsTail, IsSecond}
use Rattle.sm_bytes.proofs.CharacterBytes.{one_byte, two_bytes, three_bytes, four_bytes}
use lib.Utf8.{scalar, encode, scalar_cases, next}

abbrev pub IsOne : ℕ → Type 0
IsOne c = (c < 128) × (encode c ≡ c ∷ [])

abbrev pub IsTwo : ℕ → Type 0
IsTwo c = (x y : ℕ) × (194 ≤ x) × (x < 224) × IsTail y × (encode c ≡ x ∷ y ∷ [])

abbrev pub IsThree : ℕ → Type 0
IsThree c = (x y z : ℕ) × (224 ≤ x) × (x < 240) × IsSecond x y × IsTail z × (encode c ≡ x ∷ y ∷ z ∷ [])

abbrev pub IsFour : ℕ → Type 0
IsFour c = (x y z w : ℕ) × (240 ≤ x) × (x < 245) × IsSecond x y × IsTail z × IsTail w × (encode c ≡ x ∷ y ∷ z ∷ w ∷ [])

second : (x y : ℕ) → 128 ≤ y → y < 192 → (x ≡ 224 → 160 ≤ y) → (x ≡ 240 → 144 ≤ y) → (x ≡ 237 → y < 160) → (x ≡ 244 → y < 144)
    → IsSecond x y
second x y low high a b c d = (
  cond_both (x == 224) _ _ (λ n. n ≤ y) (λ e. a (eqb-true _ _ e))
      (λ _. cond_both (x == 240) _ _ (λ n. n ≤ y) (λ e. b (eqb-true _ _ e)) (λ _. low)),
  cond_both (x == 237) _ _ (λ n. y ≤ n) (λ e. let p = c (eqb-true _ _ e) in omega arith)
      (λ _. cond_both (x == 244) _ _ (λ n. y ≤ n) (λ e. let p = d (eqb-true _ _ e) in omega arith) (λ _. omega arith)),
)

is_two : (c : ℕ) → 128 ≤ c → c < 2048 → IsTwo c
is_two c low high = (192 + c / 64, next c, omega arith, omega arith, (omega arith, omega arith), two_bytes c low high)

is_three : (c : ℕ) → 2048 ≤ c → c < 65536 → (c < 55296) ⊎ (57344 ≤ c) → IsThree c
is_three c low high no_surrogate = (
  224 + c / 4096,
  next (c / 64),
  next c,
  omega arith,
  omega arith,
  second (224 + c / 4096) (next (c / 64)) (omega arith) (omega arith) (λ e. omega arith) (λ e. omega arith)
      (λ e. elim no_surrogate [ inl below ↦ omega arith | inr above ↦ omega arith ]) (λ e. omega arith),
  (omega arith, omega arith),
  three_bytes c low high,
)

is_four : (c : ℕ) → 65536 ≤ c → c < 1114112 → IsFour c
is_four c low high = (
  240 + c / 262144,
  next (c / 4096),
  next (c / 64),
  next c,
  omega arith,
  omega arith,
  second (240 + c / 262144) (next (c / 4096)) (omega arith) (omega arith) (λ e. omega arith) (λ e. omega arith) (λ e. omega arith)
      (λ e. omega arith),
  (omega arith, omega arith),
  (omega arith, omega arith),
  four_bytes c low,
)

scalar_below : (c : ℕ) → scalar c ≡ true → c < 1114112
scalar_below c e = elim (scalar_cases c e) [ inl p ↦ omega arith | inr p ↦ omega arith ]

no_surrogate : (c : ℕ) → scalar c ≡ true → (c < 55296) ⊎ (57344 ≤ c)
no_surrogate c e = elim (scalar_cases c e) [ inl p ↦ inl p | inr p ↦ inr p.0 ]

pub shape : (c : ℕ) → scalar c ≡ true → IsOne c ⊎ (IsTwo c ⊎ (IsThree c ⊎ IsFour c))
shape c e = elim (cases_lt c 128) [
  | inl a ↦ inl (a, one_byte c a)
  | inr a ↦ elim (cases_lt c 2048) [
    | inl b ↦ inr (inl (is_two c a b))
    | inr b ↦ elim (cases_lt c 65536) [
      | inl d ↦ inr (inr (inl (is_three c b d (no_surrogate c e))))
      | inr d ↦ inr (inr (inr (is_four c d (scalar_below c e))))
    ]
  ]
]
