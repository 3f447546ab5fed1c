-- A text cut into lines: the first line, and those behind its end.
use Rattle.std.proofs.Common.{◌≡◌, ℕ, zero, suc, ◌+◌, ◌≤◌, ◌<◌, Bool, true, false, cond, ◌&&◌, List, [], ◌∷◌, length, get_or, take, drop}
use Rattle.std.proofs.Common.{refl, sym, ap, subst, ◌∙◌, arith, eqb, lit<, not}
use Rattle.std.specs.Prelude.{IsUtf8}
use Rattle.std.specs.List.{position_or_len}
use Rattle.std.specs.Str.{IsCharBoundary}
use Rattle.std.proofs.lemmas.List.{drop-drop}
use Rattle.std.proofs.lemmas.Str.{IsCharBoundary-start, IsCharBoundary-after_ascii}
use Rattle.std.proofs.lemmas.List.Sums.{prefix_len-le-length, prefix_len_passes, passes_at_first}
use Rattle.std.proofs.lemmas.Bool.Decides.{nat_tests}
use Rattle.sm_lex.specs.Lines.{Line, lines_at, onto, empty_line, is_line_end, line_end_len, leading_spaces}

-- a cut before the first byte that passes a test of ASCII bytes falls between characters
pub boundary_before : (p : ℕ → Bool) (s : List ℕ) → ((c : ℕ) → p c ≡ true → c < 128) → IsCharBoundary s (position_or_len p s)
boundary_before p s small = (
  prefix_len-le-length _ s,
  λ lt high. let low : get_or s (position_or_len p s) 0 < 128 = small _ (passes_at_first p s 0 lt) in absurd (omega arith),
)

pub line_ends_are_ascii : (c : ℕ) → is_line_end c ≡ true → c < 128
line_ends_are_ascii c e = grind (arith, nat_tests)

-- the lines behind a line end of so many bytes
abbrev pub below : ℕ → ℕ → List ℕ → List Line
below zero at s = []
below (suc e) at s = lines_at at s

-- the first line has the first n bytes of s
abbrev pub Cut : ℕ → List ℕ → ℕ → Type 0
Cut at s n =
    let e = line_end_len (drop n s) in
    lines_at at s ≡ record { at = at; bytes = take n s } ∷ below e (at + (n + e)) (drop (n + e) s)

cut_at_end : (at c : ℕ) (s : List ℕ) → is_line_end c ≡ true → Cut at (c ∷ s) 0
cut_at_end at c [] e =
    let P : Bool → Type 0 = λ b.
    cond b (empty_line at ∷ (empty_line (at + 1) ∷ [])) (onto at c (empty_line (at + 1) ∷ []))
    ≡ record { at = at; bytes = [] } ∷ below (cond b 1 0) (at + (0 + cond b 1 0)) (drop (0 + cond b 1 0) (c ∷ []))
    in
    subst P (sym e) refl
cut_at_end at c (d ∷ s) e =
    let P : Bool → Type 0 = λ b.
    cond b (empty_line at ∷ cond (eqb c 13 && eqb d 10) (lines_at (at + 2) s) (lines_at (at + 1) (d ∷ s)))
    (onto at c (lines_at (at + 1) (d ∷ s)))
    ≡ record { at = at; bytes = [] } ∷ below (cond b (cond (eqb c 13 && eqb d 10) 2 1) 0)
    (at + (0 + cond b (cond (eqb c 13 && eqb d 10) 2 1) 0)) (drop (0 + cond b (cond (eqb c 13 && eqb d 10) 2 1) 0) (c ∷ (d ∷ s)))
    in
    subst P (sym e) (by_pair (eqb c 13 && eqb d 10))
  where
    by_pair : (b : Bool) → empty_line at ∷ cond b (lines_at (at + 2) s) (lines_at (at + 1) (d ∷ s)) ≡ record
        { at = at; bytes = [] } ∷ below (cond b 2 1) (at + (0 + cond b 2 1)) (drop (0 + cond b 2 1) (c ∷ (d ∷ s)))
    by_pair true = refl
    by_pair false = refl

lines_more : (at c : ℕ) (s : List ℕ) → is_line_end c ≡ false → lines_at at (c ∷ s) ≡ onto at c (lines_at (at + 1) s)
lines_more at c [] e = ap (λ b. cond b (empty_line at ∷ (empty_line (at + 1) ∷ [])) (onto at c (empty_line (at + 1) ∷ []))) e
lines_more at c (d ∷ s) e = ap (λ b. cond b (empty_line at ∷ cond (eqb c 13 && eqb d 10) (lines_at (at + 2) s)
    (lines_at (at + 1) (d ∷ s))) (onto at c (lines_at (at + 1) (d ∷ s)))) e

cut_more : (at c n : ℕ) (s : List ℕ) → is_line_end c ≡ false → Cut (at + 1) s n → Cut at (c ∷ s) (suc n)
cut_more at c n s e h =
    let k = line_end_len (drop n s) in
    let same : suc n + k ≡ suc (n + k) = omega arith in
    let place : at + 1 + (n + k) ≡ at + (suc n + k) = omega arith in
    lines_more at c s e ∙ ap (onto at c) h
    ∙ ap (λ p. record { at = at; bytes = c ∷ take n s } ∷ below k p (drop (n + k) s)) place
    ∙ ap (λ m. record { at = at; bytes = c ∷ take n s } ∷ below k (at + (suc n + k)) (drop m (c ∷ s))) (sym same)

pub lines_cut : (at : ℕ) (s : List ℕ) → Cut at s (position_or_len is_line_end s)
lines_cut at [] = refl
lines_cut at (c ∷ s) = by_byte (is_line_end c) refl (lines_cut (at + 1) s)
  where
    by_byte : (b : Bool) → is_line_end c ≡ b → Cut (at + 1) s (position_or_len is_line_end s)
        → Cut at (c ∷ s) (position_or_len is_line_end (c ∷ s))
    by_byte true e h = subst (Cut at (c ∷ s)) (sym (ap (λ b. cond (not b) (1 + position_or_len is_line_end s) 0) e)) (cut_at_end at c s e)
    by_byte false e h =
        let one_more : suc (position_or_len is_line_end s) ≡ 1 + position_or_len is_line_end s = omega arith in
        subst (Cut at (c ∷ s)) (one_more ∙ sym (ap (λ b. cond (not b) (1 + position_or_len is_line_end s) 0) e))
        (cut_more at c (position_or_len is_line_end s) s e h)

-- a line end falls between characters
pub boundary_behind : (s : List ℕ) → IsUtf8 s → IsCharBoundary s (line_end_len s)
boundary_behind [] u = IsCharBoundary-start [] u
boundary_behind (c ∷ []) u = by_byte (is_line_end c) refl
  where
    by_byte : (b : Bool) → is_line_end c ≡ b → IsCharBoundary (c ∷ []) (cond b 1 0)
    by_byte true e = IsCharBoundary-after_ascii (c ∷ []) 0 u (lit< tt) (line_ends_are_ascii c e)
    by_byte false e = IsCharBoundary-start (c ∷ []) u
boundary_behind (c ∷ (d ∷ s)) u = by_byte (is_line_end c) refl
  where
    by_pair : (b : Bool) → is_line_end c ≡ true → (eqb c 13 && eqb d 10) ≡ b → IsCharBoundary (c ∷ (d ∷ s)) (cond b 2 1)
    by_pair true e f = let low : d < 128 = grind (arith, nat_tests) in IsCharBoundary-after_ascii (c ∷ (d ∷ s)) 1 u (omega arith) low
    by_pair false e f = IsCharBoundary-after_ascii (c ∷ (d ∷ s)) 0 u (omega arith) (line_ends_are_ascii c e)

    by_byte : (b : Bool) → is_line_end c ≡ b → IsCharBoundary (c ∷ (d ∷ s)) (cond b (cond (eqb c 13 && eqb d 10) 2 1) 0)
    by_byte true e = by_pair (eqb c 13 && eqb d 10) e refl
    by_byte false e = IsCharBoundary-start (c ∷ (d ∷ s)) u

-- what is left behind the first line
pub first_line : (at n : ℕ) (s before back : List ℕ) (done : Bool) → done ≡ false → n ≡ position_or_len is_line_end s → before ≡ take n s
    → back ≡ drop n s →
    cond done [] (lines_at at s) ≡ record { at = at; bytes = before } ∷ below (line_end_len back) (at + (n + line_end_len back))
    (drop (line_end_len back) back)
first_line at n s before back done more n_is before_is back_is =
    let k = line_end_len (drop n s) in
    let rest : drop (n + k) s ≡ drop k back = sym (drop-drop k n s) ∙ ap (drop k) (sym back_is) in
    ap (λ b. cond b [] (lines_at at s)) more ∙ subst (Cut at s) (sym n_is) (lines_cut at s)
    ∙ ap (λ t. record { at = at; bytes = t } ∷ below k (at + (n + k)) (drop (n + k) s)) (sym before_is)
    ∙ ap (λ t. record { at = at; bytes = before } ∷ below k (at + (n + k)) t) rest
    ∙ ap (λ j. record { at = at; bytes = before } ∷ below j (at + (n + j)) (drop j back)) (ap line_end_len (sym back_is))

below_some : (e at : ℕ) (s : List ℕ) → (e ≡ 0 → ⊥) → below e at s ≡ lines_at at s
below_some zero at s h = absurd (h refl)
below_some (suc e) at s h = refl

-- no line end stands behind the last line
pub last_line : (at n e : ℕ) (s before back : List ℕ) (done : Bool) → done ≡ false → n ≡ position_or_len is_line_end s → before ≡ take n s
    → back ≡ drop n s → e ≡ line_end_len back → e ≡ 0 →
    cond done [] (lines_at at s) ≡ record { at = at; bytes = before } ∷ []
last_line at n e s before back done more n_is before_is back_is e_is none =
    first_line at n s before back done more n_is before_is back_is
    ∙ ap (λ k. record { at = at; bytes = before } ∷ below k (at + (n + line_end_len back)) (drop (line_end_len back) back)) (sym e_is
    ∙ none)

pub next_line : (at n e : ℕ) (s before back rest : List ℕ) (done : Bool) → done ≡ false → n ≡ position_or_len is_line_end s
    → before ≡ take n s → back ≡ drop n s → e ≡ line_end_len back → (e ≡ 0 → ⊥) → rest ≡ drop e back →
    cond done [] (lines_at at s) ≡ record { at = at; bytes = before } ∷ cond done [] (lines_at (at + (n + e)) rest)
next_line at n e s before back rest done more n_is before_is back_is e_is some rest_is =
    first_line at n s before back done more n_is before_is back_is
    ∙ ap (λ k. record { at = at; bytes = before } ∷ below k (at + (n + k)) (drop k back)) (sym e_is)
    ∙ ap (λ ls. record { at = at; bytes = before } ∷ ls) (below_some e (at + (n + e)) (drop e back) some
    ∙ ap (lines_at (at + (n + e))) (sym rest_is) ∙ ap (λ b. cond b [] (lines_at (at + (n + e)) rest)) (sym more))

-- as many leading spaces as there are, or fewer, are a cut between characters
pub boundary_in_spaces : (s : List ℕ) (k : ℕ) → IsUtf8 s → k ≤ leading_spaces s → IsCharBoundary s k
boundary_in_spaces s zero u le = IsCharBoundary-start s u
boundary_in_spaces s (suc k) u le =
    let most : leading_spaces s ≤ length s = prefix_len-le-length (λ c. eqb c 32) s in
    let space : eqb (get_or s k 0) 32 ≡ true = prefix_len_passes (λ c. eqb c 32) s k 0 (omega arith) in
    let low : get_or s k 0 < 128 = grind (arith, nat_tests) in
    let same : k + 1 ≡ suc k = omega arith in
    subst (IsCharBoundary s) same (IsCharBoundary-after_ascii s k u (omega arith) low)

pub lines_some : (at : ℕ) (s : List ℕ) → (l : Line) × (ls : List Line) × (lines_at at s ≡ l ∷ ls)
lines_some at s = let n = position_or_len is_line_end s in (_, _, lines_cut at s)
