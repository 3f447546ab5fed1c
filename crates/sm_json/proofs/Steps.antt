-- From the rests of a character to the rests of a string.
use Rattle.std.proofs.Common.{◌≡◌, ◌↔◌, ◌⊎◌, ◌≢◌, ℕ, List, [], ◌∷◌, ◌++◌, append_assoc, encode_utf8_all, refl, sym, ◌∙◌, subst}
use Rattle.std.specs.Char.{IsScalar, encode_utf8}
use Rattle.sm_json.specs.declared.spot.Spot.TheVariants.{Plain}
use Rattle.sm_json.specs.declared.spot.SpotStep.{SpotStep}
use Rattle.sm_json.specs.declared.spot.SpotStep.TheVariants.{Within, Whole, Closed, Refused}
use Rattle.sm_json.specs.Strings.{IsUnescaped, Escape, Characters}
use Rattle.sm_json.specs.steps.TextRest.{PartRest, PlainRest}
use Rattle.sm_json.specs.steps.TextSteps.{CharacterRest, StepsTo, StringSteps}

-- a step to the same rests
pub steps_along : (R S : CharacterRest) (step : SpotStep) → ((c : ℕ) (s r : List ℕ) → IsScalar c → R c s r ↔ S c s r) → StepsTo S step
    → StepsTo R step
steps_along R S (Within p) same h = (h.0, λ c s r k. (λ x. (h.1 c s r k).0 ((same c s r k).0 x), λ x. (same c s r k).1 ((h.1 c s r k).1 x)))
steps_along R S (Whole d) same h = (h.0, λ c s r k. (λ x. (h.1 c s r k).0 ((same c s r k).0 x), λ x. (same c s r k).1 ((h.1 c s r k).1 x)))
steps_along R S Closed same h = h
steps_along R S Refused same h = λ c s r k x. h c s r k ((same c s r k).0 x)

-- a character with the rest R, and then the rest of the string
abbrev pub Lifted : CharacterRest → List ℕ → List ℕ → List ℕ → List ℕ → Type 0
Lifted R b s t r = (c : ℕ) × (s1 : List ℕ) × IsScalar c × R c s s1 × PlainRest (b ++ encode_utf8 c) s1 t r

lifted_same : (R S : CharacterRest) → ((c : ℕ) (s r : List ℕ) → IsScalar c → R c s r ↔ S c s r) → (b s t r : List ℕ)
    → Lifted R b s t r ↔ Lifted S b s t r
lifted_same R S same b s t r =
    (λ x. (x.0, x.1, x.2, (same x.0 s x.1 x.2).0 x.3, x.4), λ x. (x.0, x.1, x.2, (same x.0 s x.1 x.2).1 x.3, x.4))

whole_there : (R : CharacterRest) (d : ℕ) → ((c : ℕ) (s r : List ℕ) → IsScalar c → R c s r ↔ ((c ≡ d) × (s ≡ r))) → (b s t r : List ℕ)
    → Lifted R b s t r → PlainRest (b ++ encode_utf8 d) s t r
whole_there R d same b s t r x =
    let e = (same x.0 s x.1 x.2).0 x.3 in
    subst (λ n. PlainRest (b ++ encode_utf8 n) s t r) e.0 (subst (λ l. PlainRest (b ++ encode_utf8 x.0) l t r) (sym e.1) x.4)

whole_back : (R : CharacterRest) (d : ℕ) → IsScalar d → ((c : ℕ) (s r : List ℕ) → IsScalar c → R c s r ↔ ((c ≡ d) × (s ≡ r)))
    → (b s t r : List ℕ) → PlainRest (b ++ encode_utf8 d) s t r → Lifted R b s t r
whole_back R d scalar same b s t r x = (d, s, scalar, (same d s s scalar).1 (refl, refl), x)

-- the rest of a character that begins with the byte x
abbrev pub BegunRest : ℕ → CharacterRest
BegunRest x c s r = (IsUnescaped c × (x ∷ s ≡ encode_utf8 c ++ r)) ⊎ ((s1 : List ℕ) × (x ∷ s ≡ 92 ∷ s1) × Escape c s1 r)

opens : (x : ℕ) → x ≢ 34 → (b s t r cs : List ℕ) → t ≡ b ++ encode_utf8_all cs → Characters cs (x ∷ s) r → Lifted (BegunRest x) b s t r
opens x other b s t r [] e h = absurd (other (cc))
opens x other b s t r (c ∷ cs) e h = (c, h.0, h.1.0, h.1.1, (cs, e ∙ sym (append_assoc b (encode_utf8 c) (encode_utf8_all cs)), h.2))

shuts : (x : ℕ) (b s t r : List ℕ) → Lifted (BegunRest x) b s t r → PlainRest b (x ∷ s) t r
shuts x b s t r y = (y.0 ∷ y.4.0, y.4.1 ∙ append_assoc b (encode_utf8 y.0) (encode_utf8_all y.4.0), (y.1, (y.2, y.3), y.4.2))

-- what a step from between two characters is to the string
pub begun : (x : ℕ) (step : SpotStep) → x ≢ 34 → StepsTo (BegunRest x) step → StringSteps Plain x step
begun x (Within q) other h = (
  h.0,
  λ b s t r. (
    λ y. (lifted_same (BegunRest x) (PartRest q) h.1 b s t r).0 (opens x other b s t r y.0 y.1 y.2),
    λ y. shuts x b s t r ((lifted_same (BegunRest x) (PartRest q) h.1 b s t r).1 y),
  ),
)
begun x (Whole d) other h = λ b s t r. (
  λ y. whole_there (BegunRest x) d h.1 b s t r (opens x other b s t r y.0 y.1 y.2),
  λ y. shuts x b s t r (whole_back (BegunRest x) d h.0 h.1 b s t r y),
)
begun x Closed other h = absurd h
begun x Refused other h = λ b s t r y. let z = opens x other b s t r y.0 y.1 y.2 in h z.0 s z.1 z.2 z.3
