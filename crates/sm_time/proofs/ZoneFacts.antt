-- The texts of zones.
use Rattle.std.proofs.Common.{◌≡◌, ℕ, List, [], ◌∷◌, ◌++◌, length, get_or, sym, ap, ◌∙◌, arith}
use Rattle.sm_time.specs.Civil.{two_digits}

-- six bytes, of which the first and the fourth are known, and the others are two pairs of digits
pub six_bytes : (t : List ℕ) (sign h m : ℕ) → length t ≡ 6 → get_or t 0 0 ≡ sign → get_or t 3 0 ≡ 58
    → two_digits h ≡ get_or t 1 0 ∷ get_or t 2 0 ∷ [] → two_digits m ≡ get_or t 4 0 ∷ get_or t 5 0 ∷ []
    → t ≡ sign ∷ (two_digits h ++ 58 ∷ two_digits m)
six_bytes (a ∷ b ∷ c ∷ d ∷ e ∷ f ∷ []) sign h m six first colon hours minutes =
    let hour = sym hours in
    let minute = sym minutes in
    ap (λ s. s ∷ b ∷ c ∷ d ∷ e ∷ f ∷ []) first ∙ ap (λ p. sign ∷ b ∷ c ∷ p ∷ e ∷ f ∷ []) colon
    ∙ ap (λ l. sign ∷ (l ++ 58 ∷ e ∷ f ∷ [])) hour ∙ ap (λ l. sign ∷ (two_digits h ++ 58 ∷ l)) minute
six_bytes [] sign h m six first colon hours minutes = absurd (omega arith)
six_bytes (a ∷ []) sign h m six first colon hours minutes = absurd (omega arith)
six_bytes (a ∷ b ∷ []) sign h m six first colon hours minutes = absurd (omega arith)
six_bytes (a ∷ b ∷ c ∷ []) sign h m six first colon hours minutes = absurd (omega arith)
six_bytes (a ∷ b ∷ c ∷ d ∷ []) sign h m six first colon hours minutes = absurd (omega arith)
six_bytes (a ∷ b ∷ c ∷ d ∷ e ∷ []) sign h m six first colon hours minutes = absurd (omega arith)
six_bytes (a ∷ b ∷ c ∷ d ∷ e ∷ f ∷ g ∷ t) sign h m six first colon hours minutes = absurd (omega arith)
