-- What a byte makes of a place between two characters, or within a character in UTF-8.
use Rattle.std.proofs.Common.{◌≡◌, ◌↔◌, ◌⊎◌, ◌≢◌, ◌≤◌, ◌<◌, ◌+◌, ◌-◌, ◌*◌, ℕ, List, [], ◌∷◌, ◌++◌, inl, inr, refl, sym, ap, ◌∙◌, subst}
use Rattle.std.proofs.Common.{arith, append-nil, encode_utf8_all}
use Rattle.std.specs.Char.{IsScalar}
use Rattle.std.proofs.lemmas.Bool.Decides.{nat_tests}
use Rattle.std.proofs.lemmas.Str.{encode_same}
use Rattle.sm_json.specs.declared.spot.CharacterPart.TheVariants.{Escape as BehindBackslash, One, Two, Three}
use Rattle.sm_json.specs.declared.spot.Spot.TheVariants.{Plain}
use Rattle.sm_json.specs.declared.spot.SpotStep.{SpotStep}
use Rattle.sm_json.specs.declared.spot.SpotStep.TheVariants.{Within, Whole, Closed, Refused}
use Rattle.sm_json.specs.Strings.{IsUnescaped, Escape, Character, Characters}
use Rattle.sm_bytes.specs.Utf8.{IsTail, IsSecond}
use Rattle.sm_json.specs.steps.TextRest.{PartRest}
use Rattle.sm_json.specs.steps.TextSteps.{CodeEnd, StepsTo, PartSteps, StringSteps}
use Rattle.sm_json.proofs.Starts.{heads}
use Rattle.sm_json.proofs.Steps.{steps_along, BegunRest, begun}
use Rattle.sm_bytes.proofs.CharacterBytes.{low_three, low_four, two_encode, three_encode, four_encode}
use Rattle.sm_bytes.proofs.CharacterShapes.{IsOne, IsTwo, IsThree, IsFour, shape}
use lib.Utf8.{encode, low_scalar}

-- the first byte of a character
lead_of : (c x : ℕ) (s r : List ℕ) → IsOne c ⊎ (IsTwo c ⊎ (IsThree c ⊎ IsFour c)) → x ∷ s ≡ encode c ++ r
    → ((x < 128) × (c ≡ x)) ⊎ ((194 ≤ x) × (x < 245))
lead_of c x s r (inl h) e = let f : x ∷ s ≡ c ∷ r = e ∙ ap (λ l. l ++ r) h.1 in let g : x ≡ c = cc in inl (omega arith, sym g)
lead_of c x s r (inr (inl h)) e = let f : x ∷ s ≡ h.0 ∷ (h.1 ∷ r) = e
    ∙ ap (λ l. l ++ r) h.5 in let g : x ≡ h.0 = cc in inr (omega arith, omega arith)
lead_of c x s r (inr (inr (inl h))) e = let f : x ∷ s ≡ h.0 ∷ (h.1 ∷ (h.2 ∷ r)) = e
    ∙ ap (λ l. l ++ r) h.7 in let g : x ≡ h.0 = cc in inr (omega arith, omega arith)
lead_of c x s r (inr (inr (inr h))) e = let f : x ∷ s ≡ h.0 ∷ (h.1 ∷ (h.2 ∷ (h.3 ∷ r))) = e
    ∙ ap (λ l. l ++ r) h.9 in let g : x ≡ h.0 = cc in inr (omega arith, omega arith)

pub lead : (c x : ℕ) (s r : List ℕ) → IsScalar c → x ∷ s ≡ encode c ++ r → ((x < 128) × (c ≡ x)) ⊎ ((194 ≤ x) × (x < 245))
lead c x s r k e = lead_of c x s r (shape c k) e

-- the second byte
tail_second : (x y : ℕ) → 194 ≤ x → x < 224 → IsTail y → IsSecond x y
tail_second x y a b h = grind (arith, nat_tests)

second_along : (x y u v : ℕ) → x ≡ u → y ≡ v → IsSecond u v → IsSecond x y
second_along x y u v e f h = subst (λ n. IsSecond n y) (sym e) (subst (λ n. IsSecond u n) (sym f) h)

second_of : (c x y : ℕ) (s r : List ℕ) → IsOne c ⊎ (IsTwo c ⊎ (IsThree c ⊎ IsFour c)) → 128 ≤ x → x ∷ (y ∷ s) ≡ encode c ++ r → IsSecond x y
second_of c x y s r (inl h) a e = let f : x ∷ (y ∷ s) ≡ c ∷ r = e ∙ ap (λ l. l ++ r) h.1 in let g : x ≡ c = cc in absurd (omega arith)
second_of c x y s r (inr (inl h)) a e = let f : x ∷ (y ∷ s) ≡ h.0 ∷ (h.1 ∷ r) = e
    ∙ ap (λ l. l ++ r) h.5 in second_along x y h.0 h.1 (cc) (cc) (tail_second h.0 h.1 h.2 h.3 h.4)
second_of c x y s r (inr (inr (inl h))) a e = let f : x ∷ (y ∷ s) ≡ h.0 ∷ (h.1 ∷ (h.2 ∷ r)) = e
    ∙ ap (λ l. l ++ r) h.7 in second_along x y h.0 h.1 (cc) (cc) h.5
second_of c x y s r (inr (inr (inr h))) a e = let f : x ∷ (y ∷ s) ≡ h.0 ∷ (h.1 ∷ (h.2 ∷ (h.3 ∷ r))) = e
    ∙ ap (λ l. l ++ r) h.9 in second_along x y h.0 h.1 (cc) (cc) h.6

-- the third
third_of : (c x y z : ℕ) (s r : List ℕ) → IsOne c ⊎ (IsTwo c ⊎ (IsThree c ⊎ IsFour c)) → 224 ≤ x → x ∷ (y ∷ (z ∷ s)) ≡ encode c ++ r
    → IsTail z
third_of c x y z s r (inl h) a e = let f : x ∷ (y ∷ (z ∷ s)) ≡ c ∷ r = e
    ∙ ap (λ l. l ++ r) h.1 in let g : x ≡ c = cc in absurd (omega arith)
third_of c x y z s r (inr (inl h)) a e = let f : x ∷ (y ∷ (z ∷ s)) ≡ h.0 ∷ (h.1 ∷ r) = e
    ∙ ap (λ l. l ++ r) h.5 in let g : x ≡ h.0 = cc in absurd (omega arith)
third_of c x y z s r (inr (inr (inl h))) a e = let f : x ∷ (y ∷ (z ∷ s)) ≡ h.0 ∷ (h.1 ∷ (h.2 ∷ r)) = e
    ∙ ap (λ l. l ++ r) h.7 in let g : z ≡ h.2 = cc in subst IsTail (sym g) h.6
third_of c x y z s r (inr (inr (inr h))) a e = let f : x ∷ (y ∷ (z ∷ s)) ≡ h.0 ∷ (h.1 ∷ (h.2 ∷ (h.3 ∷ r))) = e
    ∙ ap (λ l. l ++ r) h.9 in let g : z ≡ h.2 = cc in subst IsTail (sym g) h.7

-- the fourth
fourth_of : (c x y z w : ℕ) (s r : List ℕ) → IsOne c ⊎ (IsTwo c ⊎ (IsThree c ⊎ IsFour c)) → 240 ≤ x
    → x ∷ (y ∷ (z ∷ (w ∷ s))) ≡ encode c ++ r → IsTail w
fourth_of c x y z w s r (inl h) a e = let f : x ∷ (y ∷ (z ∷ (w ∷ s))) ≡ c ∷ r = e
    ∙ ap (λ l. l ++ r) h.1 in let g : x ≡ c = cc in absurd (omega arith)
fourth_of c x y z w s r (inr (inl h)) a e = let f : x ∷ (y ∷ (z ∷ (w ∷ s))) ≡ h.0 ∷ (h.1 ∷ r) = e
    ∙ ap (λ l. l ++ r) h.5 in let g : x ≡ h.0 = cc in absurd (omega arith)
fourth_of c x y z w s r (inr (inr (inl h))) a e = let f : x ∷ (y ∷ (z ∷ (w ∷ s))) ≡ h.0 ∷ (h.1 ∷ (h.2 ∷ r)) = e
    ∙ ap (λ l. l ++ r) h.7 in let g : x ≡ h.0 = cc in absurd (omega arith)
fourth_of c x y z w s r (inr (inr (inr h))) a e = let f : x ∷ (y ∷ (z ∷ (w ∷ s))) ≡ h.0 ∷ (h.1 ∷ (h.2 ∷ (h.3 ∷ r))) = e
    ∙ ap (λ l. l ++ r) h.9 in let g : w ≡ h.3 = cc in subst IsTail (sym g) h.8

-- a whole sequence is one character
same_there : (c d : ℕ) (p s r : List ℕ) → encode d ≡ p → p ++ s ≡ encode c ++ r → (c ≡ d) × (s ≡ r)
same_there c d p s r e h = let same = encode_same d c s r (ap (λ l. l ++ s) e ∙ h) in (sym same.0, same.1)

same_back : (c d : ℕ) (p s r : List ℕ) → encode d ≡ p → c ≡ d → s ≡ r → p ++ s ≡ encode c ++ r
same_back c d p s r e f g = ap (λ l. l ++ s) (sym e ∙ ap encode (sym f)) ∙ ap (λ l. encode c ++ l) g

pub unescaped_high : (c : ℕ) → 128 ≤ c → IsUnescaped c
unescaped_high c h = (omega arith, λ e. omega arith, λ e. omega arith)

pub sequence_ends : (d : ℕ) (p : List ℕ) → encode d ≡ p → 128 ≤ d → (c : ℕ) (s r : List ℕ) → IsScalar c
    → (IsUnescaped c × (p ++ s ≡ encode c ++ r)) ↔ CodeEnd d c s r
sequence_ends d p e high c s r k = (
  λ h. same_there c d p s r e h.1,
  λ h. (subst IsUnescaped (sym h.0) (unescaped_high d high), same_back c d p s r e h.0 h.1),
)

-- behind the first byte
pub one_goes : (x y : ℕ) → 224 ≤ x → x < 245 → IsSecond x y → PartSteps (One x) y (Within (Two x y))
one_goes x y a b h = ((a, b, h), λ c s r k. (λ p. p, λ p. p))

pub one_refused : (x y : ℕ) → 128 ≤ x → (IsSecond x y → ⊥) → PartSteps (One x) y Refused
one_refused x y a none c s r k h = none (second_of c x y s r (shape c k) a h.1)

pub second_tail : (x y : ℕ) → IsSecond x y → IsTail y
second_tail x y h = grind (arith, nat_tests)

pub one_whole : (x y : ℕ) (step : SpotStep) → 194 ≤ x → x < 224 → IsSecond x y → StepsTo (CodeEnd ((x - 192) * 64 + (y - 128))) step
    → PartSteps (One x) y step
one_whole x y step a b h to =
    let tail = second_tail x y h in
    steps_along (λ c s r. PartRest (One x) c (y ∷ s) r) (CodeEnd ((x - 192) * 64 + (y - 128))) step
    (λ c s r k. sequence_ends ((x - 192) * 64 + (y - 128)) (x ∷ y ∷ []) (two_encode x y a b tail.0 tail.1) (omega arith) c s r k) to

pub two_refused : (x y z : ℕ) → 224 ≤ x → (IsTail z → ⊥) → PartSteps (Two x y) z Refused
two_refused x y z a none c s r k h = none (third_of c x y z s r (shape c k) a h.1)

pub two_whole : (x y z : ℕ) (step : SpotStep) → 224 ≤ x → x < 240 → IsSecond x y → IsTail z
    → StepsTo (CodeEnd (((x - 224) * 64 + (y - 128)) * 64 + (z - 128))) step → PartSteps (Two x y) z step
two_whole x y z step a b h t to =
    let low = low_three x y a h in
    steps_along (λ c s r. PartRest (Two x y) c (z ∷ s) r) (CodeEnd (((x - 224) * 64 + (y - 128)) * 64 + (z - 128))) step
    (λ c s r k. sequence_ends (((x - 224) * 64 + (y - 128)) * 64 + (z - 128)) (x ∷ y ∷ z ∷ []) (three_encode x y z a b h t) (omega arith) c
    s r k) to

-- behind three bytes
pub three_refused : (x y z w : ℕ) → 240 ≤ x → (IsTail w → ⊥) → PartSteps (Three x y z) w Refused
three_refused x y z w a none c s r k h = none (fourth_of c x y z w s r (shape c k) a h.1)

pub three_whole : (x y z w : ℕ) (step : SpotStep) → 240 ≤ x → x < 245 → IsSecond x y → IsTail z → IsTail w
    → StepsTo (CodeEnd ((((x - 240) * 64 + (y - 128)) * 64 + (z - 128)) * 64 + (w - 128))) step → PartSteps (Three x y z) w step
three_whole x y z w step a b h t u to =
    let low = low_four x y a h in
    steps_along (λ c s r. PartRest (Three x y z) c (w ∷ s) r) (CodeEnd ((((x - 240) * 64 + (y - 128)) * 64 + (z - 128)) * 64 + (w - 128)))
    step
    (λ c s r k. sequence_ends ((((x - 240) * 64 + (y - 128)) * 64 + (z - 128)) * 64 + (w - 128)) (x ∷ y ∷ z ∷ w ∷ [])
    (four_encode x y z w a b h t u) (omega arith) c s r k) to

one_encode : (x : ℕ) → x < 128 → encode x ≡ x ∷ []
unfolding encode
one_encode x h = grind (arith, nat_tests)

pub ascii_whole : (x : ℕ) → 32 ≤ x → x < 128 → x ≢ 34 → x ≢ 92 → StringSteps Plain x (Whole x)
ascii_whole x a b q w = begun x (Whole x) q (
  low_scalar x (omega arith),
  λ c s r k. (
    λ h. elim h [ inl y ↦ same_there c x (x ∷ []) s r (one_encode x b) y.1 | inr y ↦ absurd (w (let e = y.1 in cc)) ],
    λ h. inl (subst IsUnescaped (sym h.0) (a, q, w), same_back c x (x ∷ []) s r (one_encode x b) h.0 h.1),
  ),
)

-- a backslash
backslash_there : (c : ℕ) (s r : List ℕ) → IsScalar c → BegunRest 92 c s r → Escape c s r
backslash_there c s r k (inl h) = elim (lead c 92 s r k h.1) [ inl y ↦ absurd (h.0.2 y.1) | inr y ↦ absurd (omega arith) ]
backslash_there c s r k (inr h) = subst (λ l. Escape c l r) (let g : h.0 ≡ s = (let e = h.1 in cc) in g) h.2

pub backslash_taken : StringSteps Plain 92 (Within BehindBackslash)
backslash_taken = begun 92 (Within BehindBackslash) (λ e. omega arith) (tt, λ c s r k. (backslash_there c s r k, λ h. inr (s, refl, h)))

-- the first byte of a longer one
pub lead_taken : (x : ℕ) → 194 ≤ x → x < 245 → StringSteps Plain x (Within (One x))
lead_taken x a b = begun x (Within (One x)) (λ e. omega arith) (
  (a, b),
  λ c s r k. (
    λ h. elim h [ inl y ↦ y | inr y ↦ absurd (let g : x ≡ 92 = (let e = y.1 in cc) in omega arith) ],
    λ h. inl h,
  ),
)

-- no character begins so
pub plain_refused : (x : ℕ) → x ≢ 34 → x ≢ 92 → (32 ≤ x → x < 128 → ⊥) → (194 ≤ x → x < 245 → ⊥) → StringSteps Plain x Refused
plain_refused x q w no_ascii no_lead = begun x Refused q (λ c s r k h. elim h [
  | inl y ↦ elim (lead c x s r k y.1) [ inl z ↦ no_ascii (let a = y.0.0 in let b = z.1 in omega arith) z.0 | inr z ↦ no_lead z.0 z.1 ]
  | inr y ↦ w (let e = y.1 in cc)
])

-- the closing quotation mark
no_quote : (c : ℕ) (s r : List ℕ) → Character c (34 ∷ s) r → ⊥
no_quote c s r (k, inl y) = elim (lead c 34 s r k y.1) [ inl z ↦ y.0.1 z.1 | inr z ↦ omega arith ]
no_quote c s r (k, inr y) = let same = heads 34 92 s y.0 y.1 in omega arith

quote_there : (b s t r cs : List ℕ) → t ≡ b ++ encode_utf8_all cs → Characters cs (34 ∷ s) r → (t ≡ b) × (s ≡ r)
quote_there b s t r [] e h = (e ∙ append-nil b, cc)
quote_there b s t r (c ∷ cs) e h = absurd (no_quote c s h.0 h.1)

pub quote_closes : StringSteps Plain 34 Closed
quote_closes = λ b s t r. (λ h. quote_there b s t r h.0 h.1 h.2, λ h. ([], h.0 ∙ sym (append-nil b), ap (λ l. 34 ∷ l) h.1))
