-- The lengths of written fractions.
use Rattle.std.proofs.Common.{ℕ, ◌%◌, ◌≤◌, Bool, true, false, [], length, take, arith}
use Rattle.std.specs.Prelude.{◌==◌, if◌then◌else◌}
use Rattle.sm_time.specs.TimeText.{fraction_text}
use Rattle.sm_time.specs.Written.{three_digits, short_digits}

-- a point and at most three digits, by the tests of zeros
by_case : (a b c : Bool) (n : ℕ) → length
    (fraction_text (if a then [] else (if b then take 1 (three_digits n) else (if c then take 2 (three_digits n) else three_digits n)))) ≤ 4
by_case true b c n = omega arith
by_case false true c n = omega arith
by_case false false true n = omega arith
by_case false false false n = omega arith

-- the same, of the digits that are written
pub length-short : (n : ℕ) → length (fraction_text (short_digits n)) ≤ 4
length-short n = by_case (n == 0) (n % 100 == 0) (n % 10 == 0) n
