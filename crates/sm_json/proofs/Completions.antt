-- From each live place within a string some string goes on.
use Rattle.std.proofs.Common.{◌≤◌, ◌<◌, ◌+◌, ◌-◌, ◌*◌, ℕ, List, [], ◌∷◌, ◌++◌, append-nil, inl, inr, refl, sym, ap, arith}
use Rattle.std.specs.Char.{IsScalar, encode_utf8}
use Rattle.std.proofs.lemmas.Bool.{cases_lt}
use Rattle.std.proofs.lemmas.Bool.Decides.{nat_tests}
use Rattle.sm_json.specs.declared.spot.UnitDigits.{UnitDigits}
use Rattle.sm_json.specs.declared.spot.UnitDigits.TheVariants.{First, Second, Third, Fourth}
use Rattle.sm_json.specs.declared.spot.CharacterPart.{CharacterPart}
use Rattle.sm_json.specs.declared.spot.CharacterPart.TheVariants.{Escape as BehindBackslash, Unit as InUnit, LowBackslash, LowLetter}
use Rattle.sm_json.specs.declared.spot.CharacterPart.TheVariants.{LowUnit, One}
use Rattle.sm_json.specs.declared.spot.CharacterPart.TheVariants.{Two, Three}
use Rattle.sm_json.specs.declared.spot.Spot.{Spot}
use Rattle.sm_json.specs.declared.spot.Spot.TheVariants.{Plain, Inside}
use Rattle.sm_bytes.specs.Escapes.{IsHigh, IsLow, joined}
use Rattle.sm_json.specs.Strings.{LowHalf}
use Rattle.sm_bytes.specs.Utf8.{IsTail, IsSecond, least_second}
use Rattle.sm_json.specs.steps.TextRest.{DigitsRest, PartRest, TextRest}
use Rattle.sm_json.specs.steps.TextSteps.{IsUnitBegun, IsLowBegun, IsPartLive, IsLive}
use Rattle.sm_bytes.proofs.CharacterBytes.{low_three, low_four, two_encode, three_encode, four_encode}
use Rattle.sm_json.proofs.Utf8Parts.{unescaped_high}
use Rattle.sm_bytes.proofs.Characters.{high_scalar, three_scalar, four_scalar}
use lib.Utf8.{low_scalar}

-- some character, and bytes that spell the rest of it before r
abbrev CanEnd : CharacterPart → List ℕ → Type 0
CanEnd p r = (c : ℕ) × (s : List ℕ) × IsScalar c × PartRest p c s r

pair_scalar : (high low : ℕ) → IsHigh high → IsLow low → IsScalar (joined high low)
pair_scalar high low h l = high_scalar (joined high low) (omega arith) (omega arith)

least_low : IsLow 0xDC00
least_low = (omega arith, omega arith)

low_half : (high : ℕ) (r : List ℕ) → LowHalf high (joined high 0xDC00) (92 ∷ 117 ∷ 68 ∷ 67 ∷ 48 ∷ 48 ∷ r) r
low_half high r = (
  0xDC00,
  117 ∷ 68 ∷ 67 ∷ 48 ∷ 48 ∷ r,
  refl,
  (68 ∷ 67 ∷ 48 ∷ 48 ∷ r, refl, (13, refl, (12, refl, (0, refl, (0, refl, (refl, refl)))))),
  least_low,
  refl,
)

-- the digits go on as zeros to a character, or to a high surrogate and a low one behind it
unit_end : (d : UnitDigits) (v : ℕ) (zeros r : List ℕ) → ((r2 : List ℕ) → DigitsRest d v (zeros ++ r2) r2) → v < 0x10000
    → (0xDC00 ≤ v → 0xE000 ≤ v) → CanEnd (InUnit d) r
unit_end d v zeros r digits small no_low = elim (cases_lt v 0xD800) [
  | inl low ↦ (v, zeros ++ r, low_scalar v (omega arith), inl (digits r))
  | inr above ↦ elim (cases_lt v 0xDC00) [
    | inl high ↦ (
      joined v 0xDC00,
      zeros ++ (92 ∷ 117 ∷ 68 ∷ 67 ∷ 48 ∷ 48 ∷ r),
      pair_scalar v 0xDC00 (above, high) least_low,
      inr (v, 92 ∷ 117 ∷ 68 ∷ 67 ∷ 48 ∷ 48 ∷ r, digits _, (above, high), low_half v r),
    )
    | inr past ↦ (v, zeros ++ r, high_scalar v (no_low past) (omega arith), inl (digits r))
  ]
]

unit_can_end : (d : UnitDigits) (r : List ℕ) → IsUnitBegun d → CanEnd (InUnit d) r
unit_can_end First r h = unit_end First 0 (48 ∷ 48 ∷ 48 ∷ 48 ∷ []) r (λ q. (0, refl, (0, refl, (0, refl, (0, refl, (refl, refl))))))
    (omega arith) (λ e. omega arith)
unit_can_end (Second n) r h = unit_end (Second n) (((n * 16 + 0) * 16 + 0) * 16 + 0) (48 ∷ 48 ∷ 48 ∷ []) r
    (λ q. (0, refl, (0, refl, (0, refl, (refl, refl))))) (omega arith) (λ e. omega arith)
unit_can_end (Third n) r h = unit_end (Third n) ((n * 16 + 0) * 16 + 0) (48 ∷ 48 ∷ []) r (λ q. (0, refl, (0, refl, (refl, refl))))
    (omega arith) (λ e. let above = h.1 (omega arith) in omega arith)
unit_can_end (Fourth n) r h = unit_end (Fourth n) (n * 16 + 0) (48 ∷ []) r (λ q. (0, refl, (refl, refl))) (omega arith)
    (λ e. let above = h.1 (omega arith) in omega arith)

low_end : (high v : ℕ) (d : UnitDigits) (s r : List ℕ) → IsHigh high → DigitsRest d v s r → IsLow v → CanEnd (LowUnit high d) r
low_end high v d s r h digits low = (joined high v, s, pair_scalar high v h low, (v, digits, low, refl))

low_can_end : (high : ℕ) (d : UnitDigits) (r : List ℕ) → IsHigh high → IsLowBegun d → CanEnd (LowUnit high d) r
low_can_end high First r h b =
    low_end high 0xDC00 First (68 ∷ 67 ∷ 48 ∷ 48 ∷ r) r h (13, refl, (12, refl, (0, refl, (0, refl, (refl, refl))))) least_low
low_can_end high (Second n) r h b = low_end high (((n * 16 + 12) * 16 + 0) * 16 + 0) (Second n) (67 ∷ 48 ∷ 48 ∷ r) r h
    (12, refl, (0, refl, (0, refl, (refl, refl)))) (omega arith, omega arith)
low_can_end high (Third n) r h b =
    low_end high ((n * 16 + 0) * 16 + 0) (Third n) (48 ∷ 48 ∷ r) r h (0, refl, (0, refl, (refl, refl))) (omega arith, omega arith)
low_can_end high (Fourth n) r h b = low_end high (n * 16 + 0) (Fourth n) (48 ∷ r) r h (0, refl, (refl, refl)) (omega arith, omega arith)

-- tails complete a character in UTF-8
zero_tail : IsTail 128
zero_tail = (omega arith, omega arith)

three_can_end : (x y z : ℕ) (r : List ℕ) → 240 ≤ x → x < 245 → IsSecond x y → IsTail z → CanEnd (Three x y z) r
three_can_end x y z r a b h t =
    let low = low_four x y a h in
    let c = (((x - 240) * 64 + (y - 128)) * 64 + (z - 128)) * 64 + (128 - 128) in (
      c,
      128 ∷ r,
      four_scalar x y z 128 a b h t zero_tail c refl,
      (unescaped_high c (omega arith), ap (λ l. l ++ r) (sym (four_encode x y z 128 a b h t zero_tail))),
    )

two_can_end : (x y : ℕ) (r : List ℕ) → 224 ≤ x → x < 245 → IsSecond x y → CanEnd (Two x y) r
two_can_end x y r a b h = elim (cases_lt x 240) [
  | inl short ↦
      let low = low_three x y a h in
      let c = ((x - 224) * 64 + (y - 128)) * 64 + (128 - 128) in (
        c,
        128 ∷ r,
        three_scalar x y 128 a short h zero_tail c refl,
        (unescaped_high c (omega arith), ap (λ l. l ++ r) (sym (three_encode x y 128 a short h zero_tail))),
      )
  | inr long ↦ let more = three_can_end x y 128 r long b h zero_tail in (more.0, 128 ∷ more.1, more.2, more.3)
]

some_second : (x : ℕ) → IsSecond x (least_second x)
some_second x = (omega arith, grind (arith, nat_tests))

one_can_end : (x : ℕ) (r : List ℕ) → 194 ≤ x → x < 245 → CanEnd (One x) r
one_can_end x r a b = elim (cases_lt x 224) [
  | inl short ↦
      let c = (x - 192) * 64 + (128 - 128) in (
        c,
        128 ∷ r,
        low_scalar c (omega arith),
        (unescaped_high c (omega arith), ap (λ l. l ++ r) (sym (two_encode x 128 a short (omega arith) (omega arith)))),
      )
  | inr long ↦ let more = two_can_end x (least_second x) r long b (some_second x) in (more.0, least_second x ∷ more.1, more.2, more.3)
]

part_can_end : (p : CharacterPart) (r : List ℕ) → IsPartLive p → CanEnd p r
part_can_end BehindBackslash r h = (10, 110 ∷ r, low_scalar 10 (omega arith), inl (110, refl, refl))
part_can_end (InUnit d) r h = unit_can_end d r h
part_can_end (LowBackslash high) r h =
    (joined high 0xDC00, 92 ∷ 117 ∷ 68 ∷ 67 ∷ 48 ∷ 48 ∷ r, pair_scalar high 0xDC00 h least_low, low_half high r)
part_can_end (LowLetter high) r h = let more = low_can_end high First r h tt in
    (more.0, 117 ∷ more.1, more.2, (more.3.0, (more.1, refl, more.3.1), more.3.2, more.3.3))
part_can_end (LowUnit high d) r h = low_can_end high d r h.0 h.1
part_can_end (One x) r h = one_can_end x r h.0 h.1
part_can_end (Two x y) r h = two_can_end x y r h.0 h.1 h.2
part_can_end (Three x y z) r h = three_can_end x y z r h.0 h.1 h.2 h.3

-- a string goes on from each live spot
pub live_goes_on : (spot : Spot) (b r : List ℕ) → IsLive spot → (s t : List ℕ) × TextRest spot b s t r
live_goes_on Plain b r h = (34 ∷ r, b, ([], sym (append-nil b), refl))
live_goes_on (Inside p) b r h =
    let more = part_can_end p (34 ∷ r) h in
    (more.1, b ++ encode_utf8 more.0, (more.0, 34 ∷ r, more.2, more.3, ([], sym (append-nil (b ++ encode_utf8 more.0)), refl)))
