-- A text before and behind its first dollar sign.
use Rattle.std.proofs.Common.{◌≡◌, ◌<◌, ◌+◌, ◌⊎◌, inl, inr, ℕ, suc, Bool, true, false, not, cond, List, [], ◌∷◌, drop, length, refl}
use Rattle.std.proofs.Common.{sym, ap, ◌∙◌, arith}
use Rattle.std.proofs.Math.Seq.{drop-length}
use Rattle.std.proofs.lemmas.Bool.Decides.{nat_tests}
use Rattle.std.specs.List.{position_or_len, after_first}
use Rattle.sm_bytes.specs.Ascii.{dollar}
use Rattle.sm_model.specs.Used.{is_byte}
use Rattle.sm_merge.specs.Meaning.{member_part}

-- where none stands nothing is behind it
pub nothing_behind : (id : List ℕ) → position_or_len (is_byte dollar) id ≡ length id → member_part id ≡ []
nothing_behind id at = ap (λ n. drop n id) at ∙ drop-length id

either : (b : Bool) → (b ≡ true) ⊎ (b ≡ false)
either true = inl refl
either false = inr refl

is_dollar : (c : ℕ) → is_byte dollar c ≡ true → c ≡ dollar
is_dollar c h = grind (arith, nat_tests)

-- else it stands there, and then the rest
pub dollar_behind : (id : List ℕ) → position_or_len (is_byte dollar) id < length id → member_part id ≡ dollar
    ∷ after_first (is_byte dollar) id
dollar_behind [] h = absurd (omega (arith, h))
dollar_behind (c ∷ cs) h =
    let n = position_or_len (is_byte dollar) cs in
    elim (either (is_byte dollar c)) [
      | inl here ↦
          let at : position_or_len (is_byte dollar) (c ∷ cs) ≡ 0 = ap (λ b. cond (not b) (1 + n) 0) here in
          ap (λ k. drop k (c ∷ cs)) at ∙ ap (λ x. x ∷ cs) (is_dollar c here) ∙ sym (ap (λ k. dollar ∷ drop (k + 1) (c ∷ cs)) at)
      | inr later ↦
          let next : 1 + n ≡ suc n = omega arith in
          let at : position_or_len (is_byte dollar) (c ∷ cs) ≡ suc n = ap (λ b. cond (not b) (1 + n) 0) later ∙ next in
          let less : n < length cs = omega (arith, at, h) in
          let one : suc n + 1 ≡ suc (n + 1) = omega arith in
          ap (λ k. drop k (c ∷ cs)) at ∙ dollar_behind cs less
          ∙ sym (ap (λ k. dollar ∷ drop (k + 1) (c ∷ cs)) at ∙ ap (λ k. dollar ∷ drop k (c ∷ cs)) one)
    ]
