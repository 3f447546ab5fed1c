-- What stands between quotation marks.
use Rattle.std.proofs.Common.{◌≡◌, ℕ, ◌+◌, ◌-◌, ◌≤◌, ◌<◌, List, length, get_or, take, drop, sym, ap, subst, ◌∙◌, arith, length-drop}
use Rattle.std.specs.Prelude.{None, Some, IsUtf8, map}
use Rattle.std.specs.Str.{IsCharBoundary}
use Rattle.std.proofs.lemmas.List.{get_or-drop, drop-drop}
use Rattle.std.proofs.lemmas.Str.{IsCharBoundary-after_ascii, IsUtf8-drop}
use Rattle.sm_lex.specs.Lines.{Line, lines_at, lines_text, line_end_len, indent}
use Rattle.sm_lex.specs.Values.{string_inside, string_value, block_inside, block_value, opener_len}
use Rattle.sm_lex.specs.Shapes.{IsQuoted}
use Rattle.sm_lex.specs.steps.LexSteps.{line_kept}
use Rattle.sm_lex.proofs.LineCuts.{boundary_behind}
use Rattle.sm_lex.proofs.Strings.{boundary_here}
use Rattle.sm_lex.proofs.Judged.{kept_none}

-- behind the first quotation marks
pub quotes_cut : (opener k : ℕ) (t : List ℕ) → IsUtf8 t → IsQuoted opener k t → 0 < k → k ≤ opener + k → IsCharBoundary t k
quotes_cut opener k t u it some le =
    let within = it.long in
    let same : k - 1 + 1 ≡ k = omega arith in
    let quote : get_or t (k - 1) 0 ≡ 34 = it.opens (k - 1) (omega arith) in
    subst (IsCharBoundary t) same (IsCharBoundary-after_ascii t (k - 1) u (omega arith) (omega arith))

-- behind the line end of a block
pub opener_cut : (t behind : List ℕ) (e : ℕ) → IsUtf8 t → IsQuoted (opener_len t) 3 t → behind ≡ drop 3 t → e ≡ line_end_len (drop 3 t)
    → IsCharBoundary behind e
opener_cut t behind e u it behind_is e_is =
    let whole : IsUtf8 (drop 3 t) = IsUtf8-drop t 3 u (quotes_cut (opener_len t) 3 t u it (omega arith) (omega arith)) in
    subst (λ s. IsCharBoundary s e) (sym behind_is) (subst (IsCharBoundary (drop 3 t)) (sym e_is) (boundary_behind (drop 3 t) whole))

-- before the last quotation marks of a block
pub closing_cut : (t behind rest : List ℕ) (e : ℕ) → IsQuoted (opener_len t) 3 t → behind ≡ drop 3 t → e ≡ line_end_len (drop 3 t)
    → rest ≡ drop e behind → IsCharBoundary rest (length rest - 3)
closing_cut t behind rest e it behind_is e_is rest_is =
    let long : opener_len t + 3 ≤ length t = it.long in
    let opener : opener_len t ≡ 3 + e = ap (λ k. 3 + k) (sym e_is) in
    let here : rest ≡ drop (3 + e) t = rest_is ∙ ap (drop e) behind_is ∙ drop-drop e 3 t in
    let len : length rest ≡ length t - (3 + e) = ap length here ∙ length-drop (3 + e) t in
    let place : 3 + e + (length rest - 3) ≡ length t - 3 = omega arith in
    let quote : get_or rest (length rest - 3) 0 ≡ 34 = ap (λ s. get_or s (length rest - 3) 0) here
    ∙ get_or-drop (3 + e) t (length rest - 3) 0 ∙ ap (λ k. get_or t k 0) place ∙ it.closes in
    boundary_here rest (length rest - 3) (omega arith) (omega arith)

pub block_inside_cut : (t behind rest inside : List ℕ) (e : ℕ) → IsQuoted (opener_len t) 3 t → behind ≡ drop 3 t
    → e ≡ line_end_len (drop 3 t) → rest ≡ drop e behind → inside ≡ take (length rest - 3) rest → inside ≡ block_inside t
block_inside_cut t behind rest inside e it behind_is e_is rest_is inside_is =
    let opener : 3 + e ≡ opener_len t = ap (λ k. 3 + k) e_is in
    let here : rest ≡ drop (3 + e) t = rest_is ∙ ap (drop e) behind_is ∙ drop-drop e 3 t in
    let few : length rest - 3 ≡ length t - (3 + e + 3) = omega (arith, ap length here, length-drop (3 + e) t) in
    inside_is ∙ ap (λ k. take k rest) few ∙ ap (take (length t - (3 + e + 3))) here ∙ ap (λ k. take (length t - (k + 3)) (drop k t)) opener

-- the lines that are read are the token's
pub string_read : (start : ℕ) (t inside : List ℕ) (ls : List Line) → ls ≡ lines_at (start + 1) inside → inside ≡ string_inside t
    → lines_text (map (line_kept None) ls) ≡ string_value start t
string_read start t inside ls ls_is inside_is = ap lines_text (kept_none ls ∙ ls_is ∙ ap (lines_at (start + 1)) inside_is)

pub block_read : (start e k : ℕ) (t inside : List ℕ) (ls : List Line) → ls ≡ lines_at (start + (3 + e)) inside
    → e ≡ line_end_len (drop 3 t) → inside ≡ block_inside t → k ≡ indent ls
    → lines_text (map (line_kept (Some k)) ls) ≡ block_value start t
block_read start e k t inside ls ls_is e_is inside_is k_is =
    let same : ls ≡ lines_at (start + opener_len t) (block_inside t) = ls_is ∙ ap (λ n. lines_at (start + (3 + n)) inside) e_is
    ∙ ap (lines_at (start + opener_len t)) inside_is in
    ap (λ n. lines_text (map (line_kept (Some n)) ls)) k_is ∙ ap (λ m. lines_text (map (line_kept (Some (indent m))) m)) same
