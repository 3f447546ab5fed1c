-- What the tests of single bytes of a string say, and what they are where that is so.
use Rattle.std.proofs.Common.{◌≡◌, ◌≤◌, ◌<◌, ◌&&◌, ℕ, Bool, true, arith}
use Rattle.std.specs.Prelude.{nat_le, nat_lt}
use Rattle.std.proofs.lemmas.Bool.Decides.{nat_tests}
use Rattle.sm_bytes.specs.Utf8.{IsTail, IsSecond, least_second, greatest_second}
use Rattle.sm_json.specs.Strings.{IsUnescaped}
use Rattle.sm_json.specs.steps.StringRuns.{is_unescaped_ascii}

-- behind the second byte of a character
pub tail_said : (y : ℕ) (r : Bool) → r ≡ (nat_le 0x80 y && nat_lt y 0xC0) → r ≡ true → IsTail y
tail_said y r e h = grind (arith, nat_tests)

pub tail_told : (y : ℕ) (r : Bool) → r ≡ (nat_le 0x80 y && nat_lt y 0xC0) → IsTail y → r ≡ true
tail_told y r e h = grind (arith, nat_tests)

-- the second byte
pub second_said : (x y : ℕ) (r : Bool) → r ≡ (nat_le (least_second x) y && nat_le y (greatest_second x)) → r ≡ true → IsSecond x y
second_said x y r e h = grind (arith, nat_tests)

pub second_told : (x y : ℕ) (r : Bool) → r ≡ (nat_le (least_second x) y && nat_le y (greatest_second x)) → IsSecond x y → r ≡ true
second_told x y r e h = grind (arith, nat_tests)

-- the first byte of a character of more than one
pub lead_said : (x : ℕ) (r : Bool) → r ≡ (nat_le 0xC2 x && nat_lt x 0xF5) → r ≡ true → (0xC2 ≤ x) × (x < 0xF5)
lead_said x r e h = grind (arith, nat_tests)

pub lead_told : (x : ℕ) (r : Bool) → r ≡ (nat_le 0xC2 x && nat_lt x 0xF5) → 0xC2 ≤ x → x < 0xF5 → r ≡ true
lead_told x r e a b = grind (arith, nat_tests)

-- a character of one byte that stands for itself
pub ascii_said : (b : ℕ) → is_unescaped_ascii b ≡ true → IsUnescaped b × (b < 0x80)
ascii_said b h = grind (arith, nat_tests)

pub ascii_told : (b : ℕ) → IsUnescaped b → b < 0x80 → is_unescaped_ascii b ≡ true
ascii_told b u small = grind (arith, nat_tests)
