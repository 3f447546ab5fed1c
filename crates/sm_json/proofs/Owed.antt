-- The rest of a string takes at least a byte: its closing quotation mark has to come. So it doesn't end where the bytes do.
use Rattle.std.proofs.Common.{◌≡◌, ℕ, ◌≤◌, ◌<◌, ◌⊎◌, inl, inr, List, [], ◌∷◌, ◌++◌, ap, ◌∙◌, arith, length}
use Rattle.std.specs.Char.{IsScalar, encode_utf8}
use Rattle.sm_json.specs.declared.spot.UnitDigits.{UnitDigits}
use Rattle.sm_json.specs.declared.spot.UnitDigits.TheVariants.{First, Second, Third, Fourth}
use Rattle.sm_json.specs.declared.spot.CharacterPart.{CharacterPart}
use Rattle.sm_json.specs.declared.spot.CharacterPart.TheVariants.{Escape as BehindBackslash, Unit as InUnit, LowBackslash, LowLetter}
use Rattle.sm_json.specs.declared.spot.CharacterPart.TheVariants.{LowUnit, One}
use Rattle.sm_json.specs.declared.spot.CharacterPart.TheVariants.{Two, Three}
use Rattle.sm_json.specs.declared.spot.Spot.{Spot}
use Rattle.sm_json.specs.declared.spot.Spot.TheVariants.{Plain, Inside}
use Rattle.sm_json.specs.steps.TextRest.{DigitsRest, PartRest, TextRest}
use Rattle.sm_json.specs.steps.TextSteps.{IsPartLive, IsLive}
use Rattle.sm_json.proofs.Starts.{heads}
use Rattle.sm_json.proofs.EventCounts.{digits_shorter, unit_shorter, low_shorter, escape_shorter, characters_shorter}
use Rattle.sm_bytes.proofs.CharacterShapes.{IsOne, IsTwo, IsThree, IsFour, shape}

abbrev Shape : ℕ → Type 0
Shape c = IsOne c ⊎ (IsTwo c ⊎ (IsThree c ⊎ IsFour c))

-- a character in UTF-8 whose first bytes have come: what is behind it is no longer than what comes
one_left : (c x : ℕ) (s r : List ℕ) → 0xC2 ≤ x → x ∷ s ≡ encode_utf8 c ++ r → Shape c → length r ≤ length s
one_left c x s r big e (inl (small, f)) =
    let e1 = heads x c s r (e ∙ ap (λ u. u ++ r) f) in omega arith
one_left c x s r big e (inr (inl (a, b, low, high, t, f))) =
    let e1 : x ∷ s ≡ a ∷ b ∷ r = e ∙ ap (λ u. u ++ r) f in omega (arith, ap length e1)
one_left c x s r big e (inr (inr (inl (a, b, d, low, high, s1, t, f)))) =
    let e1 : x ∷ s ≡ a ∷ b ∷ d ∷ r = e ∙ ap (λ u. u ++ r) f in omega (arith, ap length e1)
one_left c x s r big e (inr (inr (inr (a, b, d, g, low, high, s1, t, u, f)))) =
    let e1 : x ∷ s ≡ a ∷ b ∷ d ∷ g ∷ r = e ∙ ap (λ v. v ++ r) f in omega (arith, ap length e1)

two_left : (c x y : ℕ) (s r : List ℕ) → 0xE0 ≤ x → x ∷ y ∷ s ≡ encode_utf8 c ++ r → Shape c → length r ≤ length s
two_left c x y s r big e (inl (small, f)) =
    let e1 = heads x c (y ∷ s) r (e ∙ ap (λ u. u ++ r) f) in omega arith
two_left c x y s r big e (inr (inl (a, b, low, high, t, f))) =
    let e1 = heads x a (y ∷ s) (b ∷ r) (e ∙ ap (λ u. u ++ r) f) in omega arith
two_left c x y s r big e (inr (inr (inl (a, b, d, low, high, s1, t, f)))) =
    let e1 : x ∷ y ∷ s ≡ a ∷ b ∷ d ∷ r = e ∙ ap (λ u. u ++ r) f in omega (arith, ap length e1)
two_left c x y s r big e (inr (inr (inr (a, b, d, g, low, high, s1, t, u, f)))) =
    let e1 : x ∷ y ∷ s ≡ a ∷ b ∷ d ∷ g ∷ r = e ∙ ap (λ v. v ++ r) f in omega (arith, ap length e1)

three_left : (c x y z : ℕ) (s r : List ℕ) → 0xF0 ≤ x → x ∷ y ∷ z ∷ s ≡ encode_utf8 c ++ r → Shape c → length r ≤ length s
three_left c x y z s r big e (inl (small, f)) =
    let e1 = heads x c (y ∷ z ∷ s) r (e ∙ ap (λ u. u ++ r) f) in omega arith
three_left c x y z s r big e (inr (inl (a, b, low, high, t, f))) =
    let e1 = heads x a (y ∷ z ∷ s) (b ∷ r) (e ∙ ap (λ u. u ++ r) f) in omega arith
three_left c x y z s r big e (inr (inr (inl (a, b, d, low, high, s1, t, f)))) =
    let e1 = heads x a (y ∷ z ∷ s) (b ∷ d ∷ r) (e ∙ ap (λ u. u ++ r) f) in omega arith
three_left c x y z s r big e (inr (inr (inr (a, b, d, g, low, high, s1, t, u, f)))) =
    let e1 : x ∷ y ∷ z ∷ s ≡ a ∷ b ∷ d ∷ g ∷ r = e ∙ ap (λ v. v ++ r) f in omega (arith, ap length e1)

digits_rest_shorter : (d : UnitDigits) (v : ℕ) (s r : List ℕ) → DigitsRest d v s r → length r ≤ length s
digits_rest_shorter First v s r h = digits_shorter 4 0 v s r h
digits_rest_shorter (Second n) v s r h = digits_shorter 3 n v s r h
digits_rest_shorter (Third n) v s r h = digits_shorter 2 n v s r h
digits_rest_shorter (Fourth n) v s r h = digits_shorter 1 n v s r h

part_shorter : (p : CharacterPart) (c : ℕ) (s r : List ℕ) → IsPartLive p → IsScalar c → PartRest p c s r → length r ≤ length s
part_shorter BehindBackslash c s r live scalar h = let less = escape_shorter c s r h in omega arith
part_shorter (InUnit d) c s r live scalar (inl h) = digits_rest_shorter d c s r h
part_shorter (InUnit d) c s r live scalar (inr (high, s1, h, is, low)) =
    let first = digits_rest_shorter d high s s1 h in
    let rest = low_shorter high c s1 r low in omega arith
part_shorter (LowBackslash high) c s r live scalar h = let less = low_shorter high c s r h in omega arith
part_shorter (LowLetter high) c s r live scalar (low, h, is, j) = let less = unit_shorter low s r h in omega arith
part_shorter (LowUnit high d) c s r live scalar (low, h, is, j) = digits_rest_shorter d low s r h
part_shorter (One x) c s r live scalar h = one_left c x s r live.0 h.1 (shape c scalar)
part_shorter (Two x y) c s r live scalar h = two_left c x y s r live.0 h.1 (shape c scalar)
part_shorter (Three x y z) c s r live scalar h = three_left c x y z s r live.0 h.1 (shape c scalar)

pub text_rest_shorter : (spot : Spot) (b s t r : List ℕ) → IsLive spot → TextRest spot b s t r → length r < length s
text_rest_shorter Plain b s t r live (cs, e, h) = characters_shorter cs s r h
text_rest_shorter (Inside p) b s t r live (c, s1, scalar, h, (cs, e, rest)) =
    let first = part_shorter p c s s1 live scalar h in
    let more = characters_shorter cs s1 r rest in omega arith

pub string_owed : (spot : Spot) (b t r : List ℕ) → IsLive spot → TextRest spot b [] t r → ⊥
string_owed spot b t r live h = let less = text_rest_shorter spot b [] t r live h in omega arith
