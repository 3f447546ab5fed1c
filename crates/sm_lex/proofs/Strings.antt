-- Strings and text blocks: where they are cut, and that the lines that are judged are theirs.
use Rattle.std.proofs.Common.{◌≡◌, ℕ, ◌+◌, ◌-◌, ◌≤◌, ◌<◌, false, List, [], ◌∷◌, length, get_or, take, drop, sym, ap, subst, ◌∙◌, arith}
use Rattle.std.proofs.Common.{length-drop, length-take-le}
use Rattle.std.specs.Prelude.{Some, None, IsOk, IsUtf8, map}
use Rattle.std.specs.Option.{option_map}
use Rattle.std.specs.Str.{IsCharBoundary}
use Rattle.std.proofs.lemmas.List.{drop-take, take-take, get_or-drop}
use Rattle.std.proofs.lemmas.Str.{IsCharBoundary-after_ascii}
use Rattle.sm_lex.specs.declared.byte.First.TheVariants.{Quote as a_quote}
use Rattle.sm_lex.specs.declared.token.TokenKind.TheVariants.{Text}
use Rattle.sm_lex.specs.Bytes.{FirstIs}
use Rattle.sm_lex.specs.Lines.{lines_at, lines_text}
use Rattle.sm_lex.specs.Values.{string_value, string_inside}
use Rattle.sm_lex.specs.Tokens.{first_end, one_quote, OpensString, string_len, TokenAt}
use Rattle.sm_lex.specs.steps.LexSteps.{line_kept}
use Rattle.sm_lex.proofs.Classes.{quote_is}
use Rattle.sm_lex.proofs.Ends.{found_end, quote_there}
use Rattle.sm_lex.proofs.Judged.{kept_none}

-- a cut before an ASCII byte
pub boundary_here : (s : List ℕ) (n : ℕ) → n < length s → get_or s n 0 < 128 → IsCharBoundary s n
boundary_here s n lt low = (omega arith, λ l high. absurd (omega arith))

-- the first quotation mark
pub behind_quote : (s : List ℕ) → IsUtf8 s → FirstIs a_quote s → IsCharBoundary s 1
behind_quote [] u h = absurd h
behind_quote (c ∷ s) u h = let low : c < 128 = omega (arith, quote_is c h) in IsCharBoundary-after_ascii (c ∷ s) 0 u (omega arith) low

-- the quotation mark at the end of a string
pub string_cut : (s : List ℕ) (n : ℕ) → Some n ≡ first_end one_quote false s → IsCharBoundary s n
string_cut s n e =
    let h = found_end one_quote s n e in
    boundary_here s n h.0 (omega (arith, quote_there s n h.0 h.1))

-- a string at the start of s, with `inside` between its quotation marks
pub record IsString (s behind inside : List ℕ) (n : ℕ) : Type 0 where
  pub opens : OpensString s
  pub behind_is : behind ≡ drop 1 s
  pub closes : Some n ≡ first_end one_quote false behind
  pub inside_is : inside ≡ take n behind

module _ {s behind inside : List ℕ} {n : ℕ} (it : IsString s behind inside n) where
  pub string_within : n + 2 ≤ length s
  string_within = omega (arith, (found_end one_quote behind n it.closes).0, ap length it.behind_is, length-drop 1 s)

  pub string_len_is : string_len s ≡ Some (n + 2)
  string_len_is = ap (λ t. option_map (λ k. k + 2) (first_end one_quote false t)) (sym it.behind_is)
      ∙ ap (option_map (λ k. k + 2)) (sym it.closes)

  string_inside_is : string_inside (take (n + 2) s) ≡ inside
  string_inside_is =
      let few : length (take (n + 2) s) - 2 ≡ n = omega (arith, length-take-le (n + 2) s string_within) in
      let order : n + 2 ≡ 1 + (n + 1) = omega arith in
      ap (λ k. take k (drop 1 (take (n + 2) s))) few ∙ ap (λ k. take n (drop 1 (take k s))) order ∙ ap (take n) (drop-take 1 (n + 1) s)
      ∙ take-take n (n + 1) (drop 1 s) (omega arith) ∙ ap (take n) (sym it.behind_is) ∙ sym it.inside_is

  pub string_judged : (start : ℕ) → lines_text (map (line_kept None) (lines_at (start + 1) inside)) ≡ string_value start (take (n + 2) s)
  string_judged start = ap lines_text (kept_none (lines_at (start + 1) inside))
      ∙ ap (λ t. lines_text (lines_at (start + 1) t)) (sym string_inside_is)

  pub string_quote : get_or s (n + 1) 0 ≡ 34
  string_quote =
      let h = found_end one_quote behind n it.closes in
      let order : n + 1 ≡ 1 + n = omega arith in
      ap (λ k. get_or s k 0) order ∙ sym (get_or-drop 1 s n 0) ∙ ap (λ t. get_or t n 0) (sym it.behind_is) ∙ quote_there behind n h.0 h.1

  pub string_ends : IsUtf8 s → IsCharBoundary s (n + 2)
  string_ends u =
      let quote = string_quote in
      let same : n + 1 + 1 ≡ n + 2 = omega arith in
      let within = string_within in
      subst (IsCharBoundary s) same (IsCharBoundary-after_ascii s (n + 1) u (omega arith) (omega arith))

  pub is_string : (start : ℕ) → IsUtf8 s → IsOk (lines_text (map (line_kept None) (lines_at (start + 1) inside)))
      → (0 < n + 2) × (n + 2 ≤ length s) × IsCharBoundary s (n + 2) × TokenAt Text start s (n + 2)
  is_string start u fine = (
    omega arith,
    string_within,
    string_ends u,
    (it.opens, string_len_is, subst (λ r. IsOk r) (string_judged start) fine),
  )
