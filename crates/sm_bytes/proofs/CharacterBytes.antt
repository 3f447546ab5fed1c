-- Which bytes begin a character in UTF-8, and which character a whole sequence is (RFC 3629, section 4).
use Rattle.std.proofs.Common.{◌≡◌, ℕ, ◌+◌, ◌-◌, ◌*◌, ◌/◌, ◌<◌, ◌≤◌, [], ◌∷◌, ◌∙◌, arith}
use Rattle.std.proofs.lemmas.Bool.{cond-true, cond-false, lt-ltb, le-ltb}
use Rattle.std.proofs.lemmas.Bool.Decides.{nat_tests}
use Rattle.sm_bytes.specs.Utf8.{IsTail, IsSecond}
use lib.Utf8.{encode, next}

-- the encodings of one, two, three and four bytes
pub one_byte : (c : ℕ) → c < 128 → encode c ≡ c ∷ []
unfolding encode
one_byte c small = cond-true _ _ _ (lt-ltb c 128 small)

pub two_bytes : (c : ℕ) → 128 ≤ c → c < 2048 → encode c ≡ (192 + c / 64) ∷ next c ∷ []
unfolding encode
two_bytes c low high = cond-false _ _ _ (le-ltb c 128 low) ∙ cond-true _ _ _ (lt-ltb c 2048 high)

pub three_bytes : (c : ℕ) → 2048 ≤ c → c < 65536 → encode c ≡ (224 + c / 4096) ∷ next (c / 64) ∷ next c ∷ []
unfolding encode
three_bytes c low high = cond-false _ _ _ (le-ltb c 128 (omega arith))
    ∙ (cond-false _ _ _ (le-ltb c 2048 low) ∙ cond-true _ _ _ (lt-ltb c 65536 high))

pub four_bytes : (c : ℕ) → 65536 ≤ c → encode c ≡ (240 + c / 262144) ∷ next (c / 4096) ∷ next (c / 64) ∷ next c ∷ []
unfolding encode
four_bytes c low = cond-false _ _ _ (le-ltb c 128 (omega arith))
    ∙ (cond-false _ _ _ (le-ltb c 2048 (omega arith)) ∙ cond-false _ _ _ (le-ltb c 65536 low))

-- a whole sequence is the encoding of the number that its bits make
pub two_encode : (x y : ℕ) → 194 ≤ x → x < 224 → 128 ≤ y → y < 192 → encode ((x - 192) * 64 + (y - 128)) ≡ x ∷ y ∷ []
two_encode x y a b c d = two_bytes _ (omega arith) (omega arith) ∙ cc2 x y _ _ (omega arith) (omega arith)
  where
    cc2 : (x y u v : ℕ) → u ≡ x → v ≡ y → u ∷ v ∷ [] ≡ x ∷ y ∷ []
    cc2 x y u v p q = cc

same_three : (x y z u v w : ℕ) → u ≡ x → v ≡ y → w ≡ z → u ∷ v ∷ w ∷ [] ≡ x ∷ y ∷ z ∷ []
same_three x y z u v w p q t = cc

same_four : (x y z w u v a b : ℕ) → u ≡ x → v ≡ y → a ≡ z → b ≡ w → u ∷ v ∷ a ∷ b ∷ [] ≡ x ∷ y ∷ z ∷ w ∷ []
same_four x y z w u v a b p q s t = cc

-- what the range of a second byte says of the number that is begun
pub low_three : (x y : ℕ) → 224 ≤ x → IsSecond x y → (128 ≤ y) × (y < 192) × (32 ≤ (x - 224) * 64 + (y - 128))
low_three x y a p = grind (arith, nat_tests)

pub low_four : (x y : ℕ) → 240 ≤ x → IsSecond x y → (128 ≤ y) × (y < 192) × (16 ≤ (x - 240) * 64 + (y - 128))
low_four x y a p = grind (arith, nat_tests)

pub three_encode : (x y z : ℕ) → 224 ≤ x → x < 240 → IsSecond x y → IsTail z
    → encode (((x - 224) * 64 + (y - 128)) * 64 + (z - 128)) ≡ x ∷ y ∷ z ∷ []
three_encode x y z a b p q =
    let low = low_three x y a p in
    three_bytes _ (omega arith) (omega arith) ∙ same_three x y z _ _ _ (omega arith) (omega arith) (omega arith)

pub four_encode : (x y z w : ℕ) → 240 ≤ x → x < 245 → IsSecond x y → IsTail z → IsTail w
    → encode ((((x - 240) * 64 + (y - 128)) * 64 + (z - 128)) * 64 + (w - 128)) ≡ x ∷ y ∷ z ∷ w ∷ []
four_encode x y z w a b p q t =
    let low = low_four x y a p in
    four_bytes _ (omega arith) ∙ same_four x y z w _ _ _ _ (omega arith) (omega arith) (omega arith) (omega arith)
