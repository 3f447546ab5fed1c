-- Numbers that rise, as a set: one is there where a binary search finds it, and goes to the place that it gives.
use Rattle.std.proofs.Common.{◌≡◌, ℕ, zero, suc, ◌<◌, ◌≤◌, nat_eq, Bool, true, false, ◌||◌, cond, List, [], ◌∷◌, length, get_or, refl}
use Rattle.std.proofs.Common.{sym, ap, ◌∙◌, subst, arith}
use Rattle.std.specs.Prelude.{Result, Ok, Err, OnOk, OnErr, is_ok}
use Rattle.std.specs.List.{insert}
use Rattle.std.specs.List.Sorted.{IsNonDecreasing}
use Rattle.std.proofs.lemmas.List.{get_or_default}
use Rattle.std.proofs.lemmas.List.Sorted.{IsNonDecreasingBy-insert}
use Rattle.smallvec.specs.SmallVec.{SmallVec}
use Rattle.sm_codec.specs.steps.MemberSteps.{is_seen}

seen_first : (j k : ℕ) (xs : List ℕ) → j ≡ k → is_seen k (j ∷ xs) ≡ true
seen_first j k xs e = ap (λ b. b || is_seen k xs) (same j k e)
  where
    same : (m n : ℕ) → m ≡ n → nat_eq m n ≡ true
    same m n e = grind (arith, e)

seen_later : (j k : ℕ) (xs : List ℕ) (b : Bool) → is_seen k xs ≡ true → (b || is_seen k xs) ≡ true
seen_later j k xs true h = refl
seen_later j k xs false h = h

pub seen_at : (k : ℕ) (xs : List ℕ) (i : ℕ) → i < length xs → get_or xs i 0 ≡ k → is_seen k xs ≡ true
seen_at k [] i lt e = absurd (omega (arith, lt))
seen_at k (j ∷ xs) zero lt e = seen_first j k xs e
seen_at k (j ∷ xs) (suc i) lt e = seen_later j k xs (nat_eq j k) (seen_at k xs i (omega (arith, lt)) e)

apart_low : (j k : ℕ) → j < k → nat_eq j k ≡ false
apart_low j k lt = grind (arith, lt)

apart_high : (j k : ℕ) → k < j → nat_eq j k ≡ false
apart_high j k lt = grind (arith, lt)

pub not_seen : (k : ℕ) (xs : List ℕ) (i : ℕ) → ((j : ℕ) → j < i → get_or xs j 0 < k) → ((j : ℕ) → i ≤ j → j < length xs → k < get_or xs j 0)
    → is_seen k xs ≡ false
not_seen k [] i low high = refl
not_seen k (x ∷ xs) zero low high =
    ap (λ b. b || is_seen k xs) (apart_high x k (high 0 (omega arith) (omega arith)))
    ∙ not_seen k xs zero (λ j lt. absurd (omega (arith, lt))) (λ j le lt. high (suc j) (omega arith) (omega (arith, lt)))
not_seen k (x ∷ xs) (suc i) low high =
    ap (λ b. b || is_seen k xs) (apart_low x k (low 0 (omega arith)))
    ∙ not_seen k xs i (λ j lt. low (suc j) (omega (arith, lt))) (λ j le lt. high (suc j) (omega (arith, le)) (omega (arith, lt)))

-- numbers that are put there still rise, and those that aren't are as they were
pub rises_put : (xs ys : List ℕ) (i k : ℕ) (b : Bool) → ys ≡ cond b (insert xs i k) xs → IsNonDecreasing xs → i ≤ length xs
    → ((j : ℕ) → j < i → get_or xs j 0 < k) → ((j : ℕ) → i ≤ j → j < length xs → k < get_or xs j 0) → IsNonDecreasing ys
rises_put xs ys i k false e rises le low high = subst IsNonDecreasing (sym e) rises
rises_put xs ys i k true e rises le low high =
    subst IsNonDecreasing (sym e)
    (IsNonDecreasingBy-insert (λ x. x) xs i k rises le
    (λ j d lt. let at = get_or_default xs j d 0 (omega (arith, lt, le)) in let less = low j lt in omega (arith, at, less))
    (λ j d from lt. let at = get_or_default xs j d 0 lt in let more = high j from lt in omega (arith, at, more)))

-- a vector with a number put at a place of it, or the same where that is refused
pub put_or_same : {T E : Type 0} (old new : SmallVec ℕ) (r : Result T E) (i k : ℕ) → OnOk r (new.items ≡ insert old.items i k)
    → OnErr r (new ≡ old) → new.items ≡ cond (is_ok r) (insert old.items i k) old.items
put_or_same old new (Ok t) i k ok err = ok
put_or_same old new (Err e) i k ok err = λ j. (err j).items
