-- What strings, text blocks and documentation comments of a text say is UTF-8.
use Rattle.std.proofs.Common.{◌≡◌, ℕ, zero, suc, ◌+◌, ◌-◌, ◌≤◌, ◌<◌, ◌==◌, Bool, true, false, cond, min, List, [], ◌∷◌, ◌++◌, length}
use Rattle.std.proofs.Common.{get_or, take}
use Rattle.std.proofs.Common.{drop, Option, Some, None, Result, Ok, Err, refl, sym, ap, subst, ◌∙◌, arith, length-drop, map}
use Rattle.std.specs.Prelude.{IsUtf8}
use Rattle.std.specs.Char.{encode_utf8}
use Rattle.std.specs.List.{position_or_len, suffix_len}
use Rattle.std.specs.Str.{IsCharBoundary}
use Rattle.std.proofs.Math.Seq.{take-length}
use Rattle.std.proofs.lemmas.Bool.Decides.{nat_tests}
use Rattle.std.proofs.lemmas.List.{drop-drop, get_or-drop}
use Rattle.std.proofs.lemmas.List.Sums.{passes_at_first, suffix_len-take_no, suffix_len-take_yes}
use Rattle.std.proofs.lemmas.Str.{IsUtf8-append, IsUtf8-nil, IsUtf8-encode, IsUtf8-take, IsUtf8-drop, IsUtf8-from_ascii}
use Rattle.std.proofs.lemmas.Str.{IsCharBoundary-after_ascii}
use Rattle.sm_lex.specs.declared.escape.Escape.{Escape}
use Rattle.sm_lex.specs.Escapes.{escape}
use Rattle.sm_lex.specs.Lines.{Line, lines_at, lines_text, line_text, put_before, end_of_line, behind_backslash, is_backslash, is_line_end}
use Rattle.sm_lex.specs.Lines.{line_end_len, is_blank, leading_spaces, without_trailing, trimmed, trimmed_lines, indent}
use Rattle.sm_lex.specs.Shapes.{IsStringText, IsBlockText}
use Rattle.sm_lex.specs.Space.{Piece, white, comment, SpacePieces, Documents, is_line_feed, without_space, doc_texts, docs_joined}
use Rattle.sm_lex.specs.Values.{string_value, string_inside, block_value, block_inside, block_lines, opener_len}
use Rattle.sm_lex.proofs.Insides.{quotes_cut, opener_cut, closing_cut, block_inside_cut}
use Rattle.sm_lex.proofs.Leading.{space_utf8}
use Rattle.sm_lex.proofs.LineCuts.{boundary_before, boundary_behind, boundary_in_spaces, line_ends_are_ascii, lines_cut, below}
use Rattle.sm_lex.proofs.LineParts.{plain_run, passed_over}
use Rattle.sm_lex.proofs.Strings.{boundary_here}
use Rattle.sm_idl.proofs.EscapesRead.{escape_fine}

-- behind an ASCII byte
pub behind_ascii : (c : ℕ) (s : List ℕ) → c < 128 → IsUtf8 (c ∷ s) → IsUtf8 s
behind_ascii c s low u = IsUtf8-drop (c ∷ s) 1 u (IsCharBoundary-after_ascii (c ∷ s) 0 u (omega arith) low)

pub one_ascii : (c : ℕ) → c < 128 → IsUtf8 (c ∷ [])
one_ascii c low = IsUtf8-from_ascii (c ∷ []) by_place
  where
    by_place : (i : ℕ) → get_or (c ∷ []) i 0 < 128
    by_place zero = low
    by_place (suc i) = omega arith

abbrev given : List ℕ → Result (List ℕ) ℕ
given t = Ok t

same_ok : (s t : List ℕ) → given s ≡ given t → s ≡ t
same_ok s t e = cc

no_ok : (p : ℕ) (t : List ℕ) → Err p ≡ Ok t → ⊥
no_ok p t e = cc

-- what a result gives is UTF-8
abbrev pub GivesUtf8 : Result (List ℕ) ℕ → Type 0
GivesUtf8 r = (t : List ℕ) → r ≡ Ok t → IsUtf8 t

put_gives : (bs : List ℕ) (r : Result (List ℕ) ℕ) → IsUtf8 bs → GivesUtf8 r → GivesUtf8 (put_before bs r)
put_gives bs (Ok u) a h t e = subst IsUtf8 (same_ok (bs ++ u) t e) (IsUtf8-append bs u a (h u refl))
put_gives bs (Err p) a h t e = absurd (no_ok p t e)

abbrev BelowGives : Option (Result (List ℕ) ℕ) → Type 0
BelowGives None = Unit {0}
BelowGives (Some r) = GivesUtf8 r

end_gives : (o : Option (Result (List ℕ) ℕ)) → BelowGives o → GivesUtf8 (end_of_line o)
end_gives None h t e = subst IsUtf8 (same_ok [] t e) IsUtf8-nil
end_gives (Some r) h t e = put_gives (10 ∷ []) r (one_ascii 10 (omega arith)) h t e

is_ninety_two : (c : ℕ) → is_backslash c ≡ true → c ≡ 92
is_ninety_two c h = grind (arith, nat_tests)

first_there : (s : List ℕ) (n : ℕ) → n ≡ position_or_len is_backslash s → n < length s → is_backslash (get_or (drop n s) 0 0) ≡ true
first_there s n is inside =
    let same : n + 0 ≡ position_or_len is_backslash s = omega (arith, is) in
    let here : get_or (drop n s) 0 0 ≡ get_or s (position_or_len is_backslash s) 0 = get_or-drop n s 0 0 ∙ ap (λ k. get_or s k 0) same in
    subst (λ x. is_backslash x ≡ true) (sym here) (passes_at_first is_backslash s 0 (subst (λ k. k < length s) is inside))

-- a line that begins with a backslash, where shorter ones give UTF-8
module _ (below : Option (Result (List ℕ) ℕ)) (fine : BelowGives below) (fuel : ℕ)
    (shorter : (at : ℕ) (s : List ℕ) → length s ≤ fuel → IsUtf8 s → GivesUtf8 (line_text at 0 s below)) where
  escaped : (at : ℕ) (r : List ℕ) (o : Option Escape) → length r ≤ fuel → IsUtf8 r → escape r ≡ o
      → GivesUtf8 (behind_backslash at r o below (λ skip. line_text (at + 1) skip r below))
  escaped at [] o few u is t e = at_end below fine e
    where
      at_end : (b : Option (Result (List ℕ) ℕ)) → BelowGives b
          → behind_backslash at [] o b (λ skip. line_text (at + 1) skip [] below) ≡ Ok t → IsUtf8 t
      at_end None h k = absurd (no_ok at t k)
      at_end (Some r) h k = h t k
  escaped at (d ∷ r) None few u is t e = absurd (no_ok at t e)
  escaped at (d ∷ r) (Some x) few u is t e =
      let it = escape_fine (d ∷ r) x is in
      let last : x.count - 1 + 1 ≡ x.count = omega (arith, it.some) in
      let cut : IsCharBoundary (d ∷ r) x.count = subst (IsCharBoundary (d ∷ r)) last
      (IsCharBoundary-after_ascii (d ∷ r) (x.count - 1) u (omega (arith, it.within, it.some)) it.ascii) in
      let rest : GivesUtf8 (line_text (at + 1 + x.count) 0 (drop x.count (d ∷ r)) below) =
      shorter (at + 1 + x.count) (drop x.count (d ∷ r)) (omega (arith, length-drop x.count (d ∷ r), few)) (IsUtf8-drop
      (d ∷ r) x.count u cut)
      in
      put_gives (encode_utf8 x.character) (line_text (at + 1) x.count (d ∷ r) below) (IsUtf8-encode x.character it.scalar)
      (subst GivesUtf8 (sym (passed_over (at + 1) x.count (d ∷ r) below)) rest) t e

  at_backslash : (at : ℕ) (s : List ℕ) → length s ≤ suc fuel → IsUtf8 s → (0 < length s → is_backslash (get_or s 0 0) ≡ true)
      → GivesUtf8 (line_text at 0 s below)
  at_backslash at [] few u first = end_gives below fine
  at_backslash at (c ∷ r) few u first =
      let here : is_backslash c ≡ true = first (omega arith) in
      let low : c < 128 = omega (arith, is_ninety_two c here) in
      subst GivesUtf8 (sym (ap (λ b. cond b (behind_backslash at r (escape r) below (λ skip. line_text (at + 1) skip r below))
      (put_before (c ∷ []) (line_text (at + 1) 0 r below))) here))
      (escaped at r (escape r) (omega (arith, few)) (behind_ascii c r low u) refl)

  line_more : (at : ℕ) (s : List ℕ) → length s ≤ suc fuel → IsUtf8 s → GivesUtf8 (line_text at 0 s below)
  line_more at s few u =
      let n = position_or_len is_backslash s in
      let cut : IsCharBoundary s n = boundary_before is_backslash s (λ c h. omega (arith, is_ninety_two c h)) in
      subst GivesUtf8 (sym (plain_run at s below))
      (put_gives (take n s) (line_text (at + n) 0 (drop n s) below) (IsUtf8-take s n u cut)
      (at_backslash (at + n) (drop n s) (omega (arith, length-drop n s, few)) (IsUtf8-drop s n u cut)
      (λ some. first_there s n refl (omega (arith, length-drop n s, some)))))

line_utf8 : (below : Option (Result (List ℕ) ℕ)) → BelowGives below → (fuel at : ℕ) (s : List ℕ) → length s ≤ fuel → IsUtf8 s
    → GivesUtf8 (line_text at 0 s below)
line_utf8 below fine zero at [] few u = end_gives below fine
line_utf8 below fine zero at (c ∷ s) few u = absurd (omega (arith, few))
line_utf8 below fine (suc fuel) at s few u = line_more below fine fuel (λ a r le v. line_utf8 below fine fuel a r le v) at s few u

-- lines of UTF-8
abbrev AreUtf8 : List Line → Type 0
AreUtf8 [] = Unit {0}
AreUtf8 (l ∷ ls) = IsUtf8 l.bytes × AreUtf8 ls

lines_give : (ls : List Line) → AreUtf8 ls → GivesUtf8 (lines_text ls)
lines_give [] h t e = subst IsUtf8 (same_ok [] t e) IsUtf8-nil
lines_give (l ∷ []) h t e = line_utf8 None tt (length l.bytes) l.at l.bytes (omega arith) h.0 t e
lines_give (l ∷ (m ∷ ls)) h t e =
    line_utf8 (Some (lines_text (m ∷ ls))) (λ u k. lines_give (m ∷ ls) h.1 u k) (length l.bytes) l.at l.bytes (omega arith) h.0 t e

some_left : (s : List ℕ) (n e : ℕ) → suc e ≡ line_end_len (drop n s) → 0 < length s
some_left [] zero e h = absurd (omega (arith, h))
some_left [] (suc n) e h = absurd (omega (arith, h))
some_left (c ∷ s) n e h = omega arith

lines_below : (fuel at : ℕ) (s : List ℕ) (n e : ℕ) → ((to : ℕ) (r : List ℕ) → length r < fuel → IsUtf8 r → AreUtf8 (lines_at to r))
    → length s < suc fuel → e ≡ line_end_len (drop n s) → IsUtf8 (drop n s) → AreUtf8 (below e (at + (n + e)) (drop (n + e) s))
lines_below fuel at s n zero shorter few is v = tt
lines_below fuel at s n (suc e) shorter few is v =
    let some = some_left s n e is in
    shorter (at + (n + suc e)) (drop (n + suc e) s) (omega (arith, some, few, length-drop (n + suc e) s))
    (subst IsUtf8 (drop-drop (suc e) n s)
    (IsUtf8-drop (drop n s) (suc e) v (subst (IsCharBoundary (drop n s)) (sym is) (boundary_behind (drop n s) v))))

lines_utf8 : (fuel at : ℕ) (s : List ℕ) → length s < fuel → IsUtf8 s → AreUtf8 (lines_at at s)
lines_utf8 zero at s few u = absurd (omega (arith, few))
lines_utf8 (suc fuel) at s few u =
    let n = position_or_len is_line_end s in
    let cut : IsCharBoundary s n = boundary_before is_line_end s line_ends_are_ascii in
    let rest = IsUtf8-drop s n u cut in
    subst AreUtf8 (sym (lines_cut at s)) (
      IsUtf8-take s n u cut,
      lines_below fuel at s n (line_end_len (drop n s)) (λ to r less v. lines_utf8 fuel to r less v) few refl rest,
    )

-- without its leading spaces and its trailing blanks
abbrev TrailUtf8 : List ℕ → ℕ → Type 0
TrailUtf8 bs n = IsUtf8 (take (n - suffix_len is_blank (take n bs)) bs)

trail_more : (bs : List ℕ) (n : ℕ) (b : Bool) → suc n ≤ length bs → IsUtf8 bs → IsUtf8 (take (suc n) bs)
    → (IsUtf8 (take n bs) → TrailUtf8 bs n) → is_blank (get_or bs n 0) ≡ b → TrailUtf8 bs (suc n)
trail_more bs n true le u v shorter h =
    let low : get_or bs n 0 < 128 = grind (arith, nat_tests) in
    let kept = shorter (IsUtf8-take bs n u (boundary_here bs n (omega (arith, le)) low)) in
    let before : n ≡ suc n - 1 = omega arith in
    let one : suffix_len is_blank (take (suc n) bs) ≡ 1 + suffix_len is_blank (take (suc n - 1) bs) =
    suffix_len-take_yes is_blank bs (suc n) 0 (omega arith) le (subst (λ k. is_blank (get_or bs k 0) ≡ true) before h)
    in
    let same : n - suffix_len is_blank (take n bs) ≡ suc n - suffix_len is_blank (take (suc n) bs) =
    omega (arith, one, ap (λ k. suffix_len is_blank (take k bs)) before)
    in
    subst (λ k. IsUtf8 (take k bs)) same kept
trail_more bs n false le u v shorter h =
    let before : n ≡ suc n - 1 = omega arith in
    let none : suffix_len is_blank (take (suc n) bs) ≡ 0 =
    suffix_len-take_no is_blank bs (suc n) 0 (omega arith) le (subst (λ k. is_blank (get_or bs k 0) ≡ false) before h)
    in
    let same : suc n ≡ suc n - suffix_len is_blank (take (suc n) bs) = omega (arith, none) in
    subst (λ k. IsUtf8 (take k bs)) same v

trail : (bs : List ℕ) (n : ℕ) → n ≤ length bs → IsUtf8 bs → IsUtf8 (take n bs) → TrailUtf8 bs n
trail bs zero le u v = IsUtf8-nil
trail bs (suc n) le u v = trail_more bs n (is_blank (get_or bs n 0)) le u v (λ w. trail bs n (omega (arith, le)) u w) refl

trailing_utf8 : (bs : List ℕ) → IsUtf8 bs → IsUtf8 (without_trailing bs)
trailing_utf8 bs u =
    subst (λ l. IsUtf8 (take (length bs - suffix_len is_blank l) bs)) (take-length bs)
    (trail bs (length bs) (omega arith) u (subst IsUtf8 (sym (take-length bs)) u))

trimmed_utf8 : (n : ℕ) (l : Line) → IsUtf8 l.bytes → IsUtf8 (trimmed n l).bytes
trimmed_utf8 n l u =
    let k = min n (leading_spaces l.bytes) in
    trailing_utf8 (drop k l.bytes) (IsUtf8-drop l.bytes k u (boundary_in_spaces l.bytes k u (omega arith)))

all_trimmed : (n : ℕ) (ls : List Line) → AreUtf8 ls → AreUtf8 (map (trimmed n) ls)
all_trimmed n [] h = tt
all_trimmed n (l ∷ ls) h = (trimmed_utf8 n l h.0, all_trimmed n ls h.1)

-- a string, and a text block
pub string_utf8 : (start : ℕ) (t : List ℕ) → IsUtf8 t → IsStringText start t → GivesUtf8 (string_value start t)
string_utf8 start t u it =
    let long = it.quoted.long in
    let cut : IsCharBoundary t 1 = quotes_cut 1 1 t u it.quoted (omega arith) (omega arith) in
    let behind : IsUtf8 (drop 1 t) = IsUtf8-drop t 1 u cut in
    let n = length t - 2 in
    let place : 1 + n ≡ length t - 1 = omega (arith, long) in
    let last : get_or (drop 1 t) n 0 ≡ 34 = get_or-drop 1 t n 0 ∙ ap (λ k. get_or t k 0) place ∙ it.quoted.closes in
    let inside : IsUtf8 (string_inside t) =
    IsUtf8-take (drop 1 t) n behind (boundary_here (drop 1 t) n (omega (arith, long, length-drop 1 t)) (omega (arith, last)))
    in
    lines_give (lines_at (start + 1) (string_inside t))
    (lines_utf8 (suc (length (string_inside t))) (start + 1) (string_inside t) (omega arith) inside)

pub block_utf8 : (start : ℕ) (t : List ℕ) → IsUtf8 t → IsBlockText start t → GivesUtf8 (block_value start t)
block_utf8 start t u it =
    let opener = opener_len t in
    let e = line_end_len (drop 3 t) in
    let first : IsCharBoundary t 3 = quotes_cut opener 3 t u it.quoted (omega arith) (omega arith) in
    let behind : IsUtf8 (drop 3 t) = IsUtf8-drop t 3 u first in
    let rest : IsUtf8 (drop e (drop 3 t)) = IsUtf8-drop (drop 3 t) e behind (opener_cut t (drop 3 t) e u it.quoted refl refl) in
    let n = length (drop e (drop 3 t)) - 3 in
    let inside : IsUtf8 (block_inside t) =
    subst IsUtf8 (block_inside_cut t (drop 3 t) (drop e (drop 3 t)) (take n (drop e (drop 3 t))) e it.quoted refl refl refl refl)
    (IsUtf8-take (drop e (drop 3 t)) n rest (closing_cut t (drop 3 t) (drop e (drop 3 t)) e it.quoted refl refl refl))
    in
    let ls = block_lines start t in
    let lines : AreUtf8 ls = lines_utf8 (suc (length (block_inside t))) (start + opener) (block_inside t) (omega arith) inside in
    lines_give (trimmed_lines ls) (all_trimmed (indent ls) ls lines)

-- documentation
abbrev TextsUtf8 : List (List ℕ) → Type 0
TextsUtf8 [] = Unit {0}
TextsUtf8 (t ∷ ts) = IsUtf8 t × TextsUtf8 ts

abbrev pub DocsUtf8 : Option (List ℕ) → Type 0
DocsUtf8 None = Unit {0}
DocsUtf8 (Some t) = IsUtf8 t

spaceless : (t : List ℕ) → IsUtf8 t → IsUtf8 (without_space t)
spaceless [] u = u
spaceless (c ∷ t) u = by_byte (c == 32) refl
  where
    by_byte : (b : Bool) → (c == 32) ≡ b → IsUtf8 (cond b t (c ∷ t))
    by_byte true e = let low : c < 128 = grind (arith, nat_tests) in behind_ascii c t low u
    by_byte false e = u

comment_texts : (t : List ℕ) (ps : List Piece) → IsUtf8 t → TextsUtf8 (doc_texts ps) → TextsUtf8 (doc_texts (comment t ∷ ps))
comment_texts [] ps u h = h
comment_texts (c ∷ t) ps u h = by_byte (c == 47) refl
  where
    by_byte : (b : Bool) → (c == 47) ≡ b → TextsUtf8 (cond b (without_space t ∷ doc_texts ps) (doc_texts ps))
    by_byte true e = let low : c < 128 = grind (arith, nat_tests) in (spaceless t (behind_ascii c t low u), h)
    by_byte false e = h

line_feed_ascii : (c : ℕ) → is_line_feed c ≡ true → c < 128
line_feed_ascii c h = grind (arith, nat_tests)

texts_utf8 : (ps : List Piece) (s r : List ℕ) → SpacePieces ps s r → IsUtf8 s → TextsUtf8 (doc_texts ps)
texts_utf8 [] s r e u = tt
texts_utf8 (white c ∷ ps) s r (s1, e, w, more) u = texts_utf8 ps s1 r more (space_utf8 (white c ∷ []) s s1 (s1, e, w, refl) u)
texts_utf8 (comment t ∷ ps) s r (s1, e, t_is, more) u =
    let v : IsUtf8 (47 ∷ (47 ∷ s1)) = subst IsUtf8 e u in
    let w : IsUtf8 s1 = behind_ascii 47 s1 (omega arith) (behind_ascii 47 (47 ∷ s1) (omega arith) v) in
    let cut = boundary_before is_line_feed s1 line_feed_ascii in
    comment_texts t ps (subst IsUtf8 (sym t_is) (IsUtf8-take s1 (position_or_len is_line_feed s1) w cut))
    (texts_utf8 ps (drop (length t) s1) r more (space_utf8 (comment t ∷ []) s (drop (length t) s1) (s1, e, t_is, refl) u))

joined_utf8 : (docs : Option (List ℕ)) (ts : List (List ℕ)) → DocsUtf8 docs → TextsUtf8 ts → DocsUtf8 (docs_joined docs ts)
joined_utf8 docs [] d h = d
joined_utf8 None (t ∷ ts) d h = joined_utf8 (Some t) ts h.0 h.1
joined_utf8 (Some docs) (t ∷ ts) d h =
    joined_utf8 (Some (docs ++ (10 ∷ t))) ts (IsUtf8-append docs (10 ∷ t) d (IsUtf8-append (10 ∷ []) t (one_ascii 10
    (omega arith)) h.0)) h.1

pub documents_utf8 : (s : List ℕ) (docs : Option (List ℕ)) → IsUtf8 s → Documents s docs → DocsUtf8 docs
documents_utf8 s docs u (ps, r, pieces, ends, is) =
    subst DocsUtf8 (sym is) (joined_utf8 None (doc_texts ps) tt (texts_utf8 ps s r pieces u))
