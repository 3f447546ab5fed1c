-- The digits that stand first in some bytes: as many as the test of a digit takes.
use Rattle.std.proofs.Common.{◌≡◌, ℕ, suc, ◌<◌, ◌+◌, Bool, true, false, cond, List, [], ◌∷◌, length, take, refl, sym, subst, ◌∙◌, arith}
use Rattle.std.proofs.Common.{true≢false}
use Rattle.std.specs.Prelude.{slice_index}
use Rattle.std.specs.List.{prefix_len}
use Rattle.std.proofs.lemmas.List.Sums.{prefix_len_stops}
use Rattle.sm_tree.specs.Numbers.{IsDigit, AreDigits}
use Rattle.sm_tree.specs.steps.NumberBytes.{is_digit}
use Rattle.sm_tree.proofs.NumberSteps.{digit_test, test_digit}

longer : (c n : ℕ) (cs : List ℕ) → IsDigit c → AreDigits (take n cs) → AreDigits (take (1 + n) (c ∷ cs))
longer c n cs first rest = subst (λ k. AreDigits (take k (c ∷ cs))) (let e : suc n ≡ 1 + n = omega arith in e) (first, rest)

first_run : (c n : ℕ) (cs : List ℕ) (b : Bool) → is_digit c ≡ b → AreDigits (take n cs) → AreDigits (take (cond b (1 + n) 0) (c ∷ cs))
first_run c n cs true e rest = longer c n cs (test_digit c e) rest
first_run c n cs false e rest = tt

run_first : (cs : List ℕ) → AreDigits (take (prefix_len is_digit cs) cs)
run_first [] = tt
run_first (c ∷ cs) = first_run c (prefix_len is_digit cs) cs (is_digit c) refl (run_first cs)

-- all of them are digits
pub run_digits : (cs : List ℕ) (n : ℕ) → n ≡ prefix_len is_digit cs → AreDigits (take n cs)
run_digits cs n e = subst (λ k. AreDigits (take k cs)) (sym e) (run_first cs)

-- and the next byte is none
pub run_ends : (cs : List ℕ) (n : ℕ) → n ≡ prefix_len is_digit cs → n < length cs → IsDigit (slice_index cs n) → ⊥
run_ends cs n e inside digit =
    let stops : is_digit (slice_index cs (prefix_len is_digit cs)) ≡ false =
    prefix_len_stops is_digit cs 0 (subst (λ k. k < length cs) e inside) in
    let goes : is_digit (slice_index cs n) ≡ true = digit_test (slice_index cs n) digit in
    true≢false (sym goes ∙ subst (λ k. is_digit (slice_index cs k) ≡ false) (sym e) stops)
