-- The parts of a line: characters that stand for themselves, and escapes.
use Rattle.std.proofs.Common.{◌≡◌, ℕ, zero, suc, ◌+◌, ◌-◌, ◌≤◌, ◌<◌, Bool, true, false, cond, List, [], ◌∷◌, ◌++◌, length, get_or, take}
use Rattle.std.proofs.Common.{drop, refl, sym, ap, subst, ◌∙◌, arith, append_assoc, not, eqb}
use Rattle.std.specs.Prelude.{Option, Some, None, Result, Ok, Err, IsUtf8}
use Rattle.std.specs.List.{position_or_len}
use Rattle.std.specs.Char.{encode_utf8}
use Rattle.std.specs.Str.{IsCharBoundary}
use Rattle.std.proofs.lemmas.Str.{IsCharBoundary-after_ascii}
use Rattle.std.proofs.lemmas.List.{take_all, drop-drop, drop_all}
use Rattle.std.proofs.lemmas.List.Sums.{prefix_len-le-length, passes_at_first}
use Rattle.std.proofs.lemmas.Bool.Decides.{nat_tests}
use Rattle.sm_lex.specs.declared.escape.Escape.{Escape}
use Rattle.sm_lex.specs.declared.part.Part.TheVariants.{Plain, Escaped, Bad as BadPart}
use Rattle.sm_lex.specs.steps.LexSteps.{PartOfLine, IsBelow, below_text, LineGives, LineFails}
use Rattle.sm_lex.specs.Lines.{line_text, put_before, is_backslash, end_of_line, behind_backslash}
use Rattle.sm_lex.specs.Escapes.{escape}

pub put_nothing : (r : Result (List ℕ) ℕ) → put_before [] r ≡ r
put_nothing (Ok t) = refl
put_nothing (Err p) = refl

pub put_put : (a b : List ℕ) (r : Result (List ℕ) ℕ) → put_before a (put_before b r) ≡ put_before (a ++ b) r
put_put a b (Ok t) = ap Ok (sym (append_assoc a b t))
put_put a b (Err p) = refl

-- the first n bytes of a line stand for themselves
abbrev pub Stand : ℕ → List ℕ → ℕ → Option (Result (List ℕ) ℕ) → Type 0
Stand at s n below = line_text at 0 s below ≡ put_before (take n s) (line_text (at + n) 0 (drop n s) below)

stand_none : (at : ℕ) (s : List ℕ) (below : Option (Result (List ℕ) ℕ)) → Stand at s 0 below
stand_none at s below =
    let same : at ≡ at + 0 = omega arith in
    ap (λ p. line_text p 0 s below) same ∙ sym (put_nothing (line_text (at + 0) 0 s below))

stand_more : (at c n : ℕ) (s : List ℕ) (below : Option (Result (List ℕ) ℕ)) → is_backslash c ≡ false → Stand (at + 1) s n below
    → Stand at (c ∷ s) (suc n) below
stand_more at c n s below e h =
    let same : at + 1 + n ≡ at + suc n = omega arith in
    ap (λ b. cond b (behind_backslash at s (escape s) below (λ skip. line_text (at + 1) skip s below))
    (put_before (c ∷ []) (line_text (at + 1) 0 s below))) e
    ∙ ap (put_before (c ∷ [])) h ∙ put_put (c ∷ []) (take n s) (line_text (at + 1 + n) 0 (drop n s) below)
    ∙ ap (λ p. put_before (c ∷ take n s) (line_text p 0 (drop n s) below)) same

-- the bytes before the first backslash do
pub plain_run : (at : ℕ) (s : List ℕ) (below : Option (Result (List ℕ) ℕ)) → Stand at s (position_or_len is_backslash s) below
plain_run at [] below = stand_none at [] below
plain_run at (c ∷ s) below = by_byte (is_backslash c) refl (plain_run (at + 1) s below)
  where
    by_byte : (b : Bool) → is_backslash c ≡ b → Stand (at + 1) s (position_or_len is_backslash s) below
        → Stand at (c ∷ s) (position_or_len is_backslash (c ∷ s)) below
    by_byte true e h = subst (λ n. Stand at (c ∷ s) n below) (sym (ap (λ b. cond (not b) (1 + position_or_len is_backslash s) 0) e))
        (stand_none at (c ∷ s) below)
    by_byte false e h =
        let one_more : suc (position_or_len is_backslash s) ≡ 1 + position_or_len is_backslash s = omega arith in
        subst (λ n. Stand at (c ∷ s) n below) (one_more
        ∙ sym (ap (λ b. cond (not b) (1 + position_or_len is_backslash s) 0) e))
        (stand_more at c (position_or_len is_backslash s) s below e h)

-- the bytes of an escape are passed over
pub passed_over : (at k : ℕ) (s : List ℕ) (below : Option (Result (List ℕ) ℕ))
    → line_text at k s below ≡ line_text (at + k) 0 (drop k s) below
passed_over at zero s below = let same : at ≡ at + 0 = omega arith in ap (λ p. line_text p 0 s below) same
passed_over at (suc k) [] below = refl
passed_over at (suc k) (c ∷ s) below = let same : at + 1 + k ≡ at + suc k = omega arith in passed_over (at + 1) k s below
    ∙ ap (λ p. line_text p 0 (drop k s) below) same

pub plain_part : (last : Bool) (s : List ℕ) (n : ℕ) → n ≡ position_or_len is_backslash s → 0 < n → PartOfLine last s (Plain n)
plain_part last s n n_is some =
    let within : n ≤ length s = subst (λ k. k ≤ length s) (sym n_is) (prefix_len-le-length _ s) in (
      some,
      within,
      λ lt. let stop : eqb (get_or s n 0) 92 ≡ true = subst (λ k. is_backslash (get_or s k 0) ≡ true) (sym n_is)
          (passes_at_first is_backslash s 0 (subst (λ k. k < length s) n_is lt)) in grind (arith, nat_tests),
      λ at below. subst (λ k. Stand at s k below) (sym n_is) (plain_run at s below),
    )

-- an escape behind a backslash c and before the bytes r, of which there are some
escape_here : (at c : ℕ) (r : List ℕ) (e : Escape) (below : Option (Result (List ℕ) ℕ)) → is_backslash c ≡ true → escape r ≡ Some e
    → line_text at 0 (c ∷ r) below ≡ put_before (encode_utf8 e.character) (line_text (at + 1) e.count r below)
escape_here at c [] e below h g = let none : None ≡ Some e = g in absurd cc
escape_here at c (d ∷ r) e below h g =
    ap (λ b. cond b (behind_backslash at (d ∷ r) (escape (d ∷ r)) below (λ skip. line_text (at + 1) skip (d ∷ r) below))
    (put_before (c ∷ []) (line_text (at + 1) 0 (d ∷ r) below))) h
    ∙ ap (λ o. behind_backslash at (d ∷ r) o below (λ skip. line_text (at + 1) skip (d ∷ r) below)) g

first_is_backslash : (c : ℕ) (r : List ℕ) → position_or_len is_backslash (c ∷ r) ≡ 0 → is_backslash c ≡ true
first_is_backslash c r e = by_byte (is_backslash c) refl
  where
    by_byte : (b : Bool) → is_backslash c ≡ b → is_backslash c ≡ true
    by_byte true h = h
    by_byte false h = let more : 1 + position_or_len is_backslash r ≡ 0 = sym
        (ap (λ b. cond (not b) (1 + position_or_len is_backslash r) 0) h) ∙ e in absurd (omega arith)

pub escaped_part : (last : Bool) (s behind : List ℕ) (e : Escape) → 0 < length s → position_or_len is_backslash s ≡ 0
    → behind ≡ take (length s - 1) (drop 1 s)
    → Some e ≡ escape behind → e.count ≤ length behind → 0 < e.count → get_or behind (e.count - 1) 0 < 128 → PartOfLine last s (Escaped e)
escaped_part last [] behind e some h behind_is g within positive low = absurd (omega arith)
escaped_part last (c ∷ r) behind e some h behind_is g within positive low =
    let all : behind ≡ r = behind_is ∙ take_all (length (c ∷ r) - 1) r (omega arith) in
    let one_more : suc e.count ≡ 1 + e.count = omega arith in
    let last_byte : get_or (c ∷ r) e.count 0 ≡ get_or behind (e.count - 1) 0 = let k : e.count ≡ suc (e.count - 1) = omega arith in ap
    (λ n. get_or (c ∷ r) n 0) k ∙ ap (λ t. get_or t (e.count - 1) 0) (sym all) in (
      omega (arith, ap length all),
      subst (λ x. x < 128) (sym last_byte) low,
      λ at below.
          let place : at + 1 + e.count ≡ at + (1 + e.count) = omega arith in
          escape_here at c r e below (first_is_backslash c r h) (ap escape (sym all) ∙ sym g)
          ∙ ap (put_before (encode_utf8 e.character)) (passed_over (at + 1) e.count r below
          ∙ ap (λ p. line_text p 0 (drop e.count r) below) place
          ∙ ap (λ n. line_text (at + (1 + e.count)) 0 (drop n (c ∷ r)) below) one_more),
    )

-- the line's first i bytes give the text t, and then come the others
abbrev pub Gave : ℕ → List ℕ → ℕ → List ℕ → Type 0
Gave at s i t = (below : Option (Result (List ℕ) ℕ)) → line_text at 0 s below ≡ put_before t (line_text (at + i) 0 (drop i s) below)

-- k bytes more, which give the text u
gave_more : (at i k : ℕ) (s t u : List ℕ) → Gave at s i t
    → ((below : Option (Result (List ℕ) ℕ)) → line_text (at + i) 0 (drop i s) below ≡ put_before u
    (line_text (at + i + k) 0 (drop k (drop i s)) below))
    → Gave at s (i + k) (t ++ u)
gave_more at i k s t u h more below =
    let place : at + i + k ≡ at + (i + k) = omega arith in
    h below ∙ ap (put_before t) (more below) ∙ put_put t u (line_text (at + i + k) 0 (drop k (drop i s)) below)
    ∙ ap (λ p. put_before (t ++ u) (line_text p 0 (drop k (drop i s)) below)) place
    ∙ ap (λ r. put_before (t ++ u) (line_text (at + (i + k)) 0 r below)) (drop-drop k i s)

pub gave_plain : (last : Bool) (at i n : ℕ) (s t : List ℕ) → Gave at s i t → PartOfLine last (drop i s) (Plain n)
    → Gave at s (i + n) (t ++ take n (drop i s))
gave_plain last at i n s t h (some, within, low, stand) = gave_more at i n s t (take n (drop i s)) h (λ below. stand (at + i) below)

pub gave_escaped : (last : Bool) (at i : ℕ) (s t : List ℕ) (e : Escape) → Gave at s i t → PartOfLine last (drop i s) (Escaped e)
    → Gave at s (i + (1 + e.count)) (t ++ encode_utf8 e.character)
gave_escaped last at i s t e h (within, low, stand) = gave_more at i (1 + e.count) s t (encode_utf8 e.character) h
    (λ below. stand (at + i) below)

pub gave_bad : (last : Bool) (at i : ℕ) (s t : List ℕ) → Gave at s i t → PartOfLine last (drop i s) BadPart → LineFails last at s (at + i)
gave_bad last at i s t h bad below is_below = h below ∙ ap (put_before t) (bad (at + i) below is_below)

-- the line's end
abbrev pub ending : Bool → List ℕ
ending last = cond last [] (10 ∷ [])

pub gave_end : (last : Bool) (at i : ℕ) (s t : List ℕ) → Gave at s i t → length s ≤ i → LineGives last at s (t ++ ending last)
gave_end last at i s t h past = λ below is_below. h below ∙ ap (λ r. put_before t (line_text (at + i) 0 r below)) (drop_all i s past)
    ∙ at_end last below is_below
  where
    at_end : (last : Bool) (below : Option (Result (List ℕ) ℕ)) → IsBelow last below
        → put_before t (end_of_line below) ≡ put_before (t ++ ending last) (below_text below)
    at_end true None k = put_put t [] (Ok [])
    at_end true (Some r) k = absurd k
    at_end false None k = absurd k
    at_end false (Some r) k = put_put t (10 ∷ []) r

-- the same of some text
abbrev pub Reached : ℕ → List ℕ → ℕ → Type 0
Reached at s i = (t : List ℕ) × Gave at s i t

pub reached_plain : (last : Bool) (at i n : ℕ) (s : List ℕ) → Reached at s i → PartOfLine last (drop i s) (Plain n) → Reached at s (i + n)
reached_plain last at i n s (t, h) part = (t ++ take n (drop i s), gave_plain last at i n s t h part)

pub reached_escaped : (last : Bool) (at i : ℕ) (s : List ℕ) (e : Escape) → Reached at s i → PartOfLine last (drop i s) (Escaped e)
    → Reached at s (i + (1 + e.count))
reached_escaped last at i s e (t, h) part = (t ++ encode_utf8 e.character, gave_escaped last at i s t e h part)

pub reached_end : (last : Bool) (at i : ℕ) (s : List ℕ) → Reached at s i → length s ≤ i → (t : List ℕ) × LineGives last at s t
reached_end last at i s (t, h) past = (t ++ ending last, gave_end last at i s t h past)

-- the cuts between parts fall between characters
pub plain_cut : (last : Bool) (s : List ℕ) (n : ℕ) → PartOfLine last s (Plain n) → IsCharBoundary s n
plain_cut last s n (some, within, low, stand) = (within, λ lt high. let edge : get_or s n 0 < 128 = low lt in absurd (omega arith))

pub escaped_cut : (last : Bool) (s : List ℕ) (e : Escape) → IsUtf8 s → PartOfLine last s (Escaped e) → IsCharBoundary s (1 + e.count)
escaped_cut last s e u (within, low, stand) = let same : e.count + 1 ≡ 1 + e.count = omega arith in subst (IsCharBoundary s) same
    (IsCharBoundary-after_ascii s e.count u within low)
