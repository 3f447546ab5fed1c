-- The end of the first line, behind the run of CR and LF that may come first.
use Rattle.std.proofs.Common.{◌≡◌, ℕ, suc, ◌+◌, Bool, true, false, cond, ◌||◌, List, [], ◌∷◌, drop, refl, ap, subst, arith}
use Rattle.std.proofs.Common.{true≢false}
use Rattle.std.specs.Prelude.{◌==◌, if◌then◌else◌}
use Rattle.std.specs.List.{prefix_len}
use Rattle.sm_bytes.specs.Ascii.{carriage_return, line_feed}
use Rattle.sm_http.specs.Heads.{is_line_byte, has_line_feed, has_first_line}

or_false : (p q : Bool) → (p || q) ≡ false → q ≡ false
or_false false q e = e
or_false true q e = absurd (true≢false e)

behind : (b n : ℕ) (bytes : List ℕ) (t : Bool) → is_line_byte b ≡ t → has_line_feed (drop n bytes) ≡ has_first_line bytes
    → has_line_feed (drop (cond t (1 + n) 0) (b ∷ bytes)) ≡ (if t then has_first_line bytes else has_line_feed bytes)
behind b n bytes true e rest = subst (λ k. has_line_feed (drop k (b ∷ bytes)) ≡ has_first_line bytes)
    (let next : suc n ≡ 1 + n = omega arith in next) rest
behind b n bytes false e rest =
    ap (λ t. t || has_line_feed bytes) (or_false (b == carriage_return) (b == line_feed) e)

pub behind_blank : (bytes : List ℕ) → has_line_feed (drop (prefix_len is_line_byte bytes) bytes) ≡ has_first_line bytes
behind_blank [] = refl
behind_blank (b ∷ bytes) = behind b (prefix_len is_line_byte bytes) bytes (is_line_byte b) refl (behind_blank bytes)
