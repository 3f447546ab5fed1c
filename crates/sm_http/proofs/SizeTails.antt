-- The test of what stands behind a size line's digits, by the run of spaces and tabs that comes first; and numbers of few digits.
use Rattle.std.proofs.Common.{◌≡◌, ℕ, suc, ◌+◌, ◌*◌, ◌^◌, ◌<◌, ◌≤◌, Bool, true, false, cond, List, [], ◌∷◌, length, get_or, refl, sym, ap}
use Rattle.std.proofs.Common.{subst, ◌∙◌, arith, pow-add}
use Rattle.std.specs.Prelude.{◌==◌, if◌then◌else◌}
use Rattle.std.specs.List.{prefix_len}
use Rattle.std.proofs.Math.Nat.{pow-le-pow_right}
use Rattle.httparse.specs.Ascii.{semicolon}
use Rattle.httparse.specs.Grammar.{is_ows}
use Rattle.sm_http.specs.steps.SizeLines.{is_tail}

all_step : (b k n : ℕ) (rest : Bool) (t : Bool) → cond t (1 + k) 0 ≡ suc n → (k ≡ n → rest ≡ true)
    → (if t then rest else b == semicolon) ≡ true
all_step b k n rest true e more = more (omega arith)
all_step b k n rest false e more = absurd (omega arith)

all_blank : (bytes : List ℕ) → prefix_len is_ows bytes ≡ length bytes → is_tail bytes ≡ true
all_blank [] e = refl
all_blank (b ∷ bytes) e = all_step b (prefix_len is_ows bytes) (length bytes) (is_tail bytes) (is_ows b) e (all_blank bytes)

pub tail_all : (bytes : List ℕ) (n : ℕ) → n ≡ prefix_len is_ows bytes → n ≡ length bytes → is_tail bytes ≡ true
tail_all bytes n e all = all_blank bytes (sym e ∙ all)

stop_step : (b k n : ℕ) (bytes : List ℕ) (t : Bool) → cond t (1 + k) 0 < suc n → (k < n → is_tail bytes ≡ (get_or bytes k 0 == semicolon))
    → (if t then is_tail bytes else b == semicolon) ≡ (get_or (b ∷ bytes) (cond t (1 + k) 0) 0 == semicolon)
stop_step b k n bytes true inside more =
    let next : suc k ≡ 1 + k = omega arith in
    more (omega arith) ∙ ap (λ i. get_or (b ∷ bytes) i 0 == semicolon) next
stop_step b k n bytes false inside more = refl

blank_stop : (bytes : List ℕ) → prefix_len is_ows bytes < length bytes
    → is_tail bytes ≡ (get_or bytes (prefix_len is_ows bytes) 0 == semicolon)
blank_stop [] inside = absurd (omega arith)
blank_stop (b ∷ bytes) inside =
    stop_step b (prefix_len is_ows bytes) (length bytes) bytes (is_ows b) inside (blank_stop bytes)

pub tail_stop : (bytes : List ℕ) (n : ℕ) → n ≡ prefix_len is_ows bytes → n < length bytes → is_tail bytes ≡ (get_or bytes n 0 == semicolon)
tail_stop bytes n e inside =
    blank_stop bytes (subst (λ k. k < length bytes) e inside) ∙ ap (λ k. get_or bytes k 0 == semicolon) (sym e)

-- one more digit stays below the next power, and eight of them are far from the last number
pub digit_more : (size digit at : ℕ) → size < 16 ^ at → digit < 16 → size * 16 + digit < 16 ^ (at + 1)
digit_more size digit at below small = omega (arith, pow-add 16 at 1)

pub below_top : (at : ℕ) → at < 8 → 16 ^ (at + 1) ≤ 2 ^ 64
below_top at h = pow-le-pow_right {n = 16} (omega arith) {j = 16} (omega arith)
