-- Text blocks: where they are cut, and that the lines that are judged are theirs.
use Rattle.std.proofs.Common.{◌≡◌, ℕ, zero, suc, ◌+◌, ◌-◌, ◌≤◌, ◌<◌, Bool, true, false, cond, ◌&&◌, List, [], ◌∷◌, length, get_or, take}
use Rattle.std.proofs.Common.{drop, refl, sym, ap, subst, ◌∙◌, arith, eqb, length-drop, length-take-le}
use Rattle.std.specs.Prelude.{Some, IsOk, IsUtf8, map}
use Rattle.std.specs.Option.{option_map}
use Rattle.std.specs.Str.{IsCharBoundary}
use Rattle.std.proofs.lemmas.List.{drop-take, take-take, get_or-drop, get_or-take, drop-drop}
use Rattle.std.proofs.lemmas.Str.{IsCharBoundary-after_ascii}
use Rattle.std.proofs.lemmas.Bool.Decides.{nat_tests}
use Rattle.sm_lex.specs.declared.token.TokenKind.TheVariants.{Block}
use Rattle.sm_lex.specs.Lines.{Line, lines_at, lines_text, line_end_len, is_line_end, indent, trimmed_lines}
use Rattle.sm_lex.specs.Values.{block_value, block_lines, opener_len}
use Rattle.sm_lex.specs.Tokens.{first_end, three_quotes, OpensBlock, block_len, TokenAt}
use Rattle.sm_lex.specs.steps.LexSteps.{line_kept}
use Rattle.sm_lex.proofs.Ends.{found_end, three_are}
use Rattle.sm_lex.proofs.LineCuts.{boundary_behind}
use Rattle.sm_lex.proofs.Strings.{boundary_here}

-- the bytes of a line end
line_end_bytes : (s : List ℕ) (k : ℕ) → k < line_end_len s → is_line_end (get_or s k 0) ≡ true
line_end_bytes [] k lt = absurd (omega arith)
line_end_bytes (c ∷ []) k lt = by_byte (is_line_end c) refl lt
  where
    by_byte : (b : Bool) → is_line_end c ≡ b → k < cond b 1 0 → is_line_end (get_or (c ∷ []) k 0) ≡ true
    by_byte true e h = let zeroth : 0 ≡ k = omega arith in subst (λ n. is_line_end (get_or (c ∷ []) n 0) ≡ true) zeroth e
    by_byte false e h = absurd (omega arith)
line_end_bytes (c ∷ (d ∷ s)) k lt = by_byte (is_line_end c) refl (eqb c 13 && eqb d 10) refl lt
  where
    second : (k : ℕ) → is_line_end c ≡ true → is_line_end d ≡ true → k < 2 → is_line_end (get_or (c ∷ (d ∷ s)) k 0) ≡ true
    second zero e f h = e
    second (suc zero) e f h = f
    second (suc (suc k)) e f h = absurd (omega arith)

    by_byte : (b : Bool) → is_line_end c ≡ b → (p : Bool) → (eqb c 13 && eqb d 10) ≡ p → k < cond b (cond p 2 1) 0
        → is_line_end (get_or (c ∷ (d ∷ s)) k 0) ≡ true
    by_byte true e true f h = let line_feed : is_line_end d ≡ true = grind (arith, nat_tests) in second k e line_feed h
    by_byte true e false f h = let zeroth : 0 ≡ k = omega arith in subst (λ n. is_line_end (get_or (c ∷ (d ∷ s)) n 0) ≡ true) zeroth e
    by_byte false e p f h = absurd (omega arith)

-- two bytes decide it
line_end_front : (k : ℕ) (s : List ℕ) → line_end_len (take (suc (suc k)) s) ≡ line_end_len s
line_end_front k [] = refl
line_end_front k (c ∷ []) = refl
line_end_front k (c ∷ (d ∷ s)) = refl

-- a cut of a text is one of its prefix
boundary_in_front : (s : List ℕ) (n k : ℕ) → k ≤ n → n ≤ length s → IsCharBoundary s k → IsCharBoundary (take n s) k
boundary_in_front s n k le within (inside, edge) =
    let len : length (take n s) ≡ n = length-take-le n s within in (
      omega arith,
      λ lt high. let same : get_or (take n s) k 0 ≡ get_or s k 0 = get_or-take n s k 0 (omega arith) in subst (λ x. 192 ≤ x) (sym same)
          (edge (omega arith) (subst (λ x. 128 ≤ x) same high)),
    )

three_there : (s : List ℕ) (n : ℕ) → three_quotes (drop n s) ≡ true → (n + 3 ≤ length s) × (get_or s n 0 ≡ 34) × (get_or s (n + 2) 0 ≡ 34)
three_there s n e =
    let h = three_are (drop n s) e in
    let at_zero : n + 0 ≡ n = omega arith in (
      omega (arith, length-drop n s, ap length h.1),
      ap (λ k. get_or s k 0) (sym at_zero) ∙ sym (get_or-drop n s 0 0) ∙ ap (λ t. get_or t 0 0) h.1,
      sym (get_or-drop n s 2 0) ∙ ap (λ t. get_or t 2 0) h.1,
    )

-- a block at the start of s: behind its three quotation marks stands a line end of e bytes, and n bytes behind
-- them three more
pub record IsBlock (s behind inside : List ℕ) (n e : ℕ) : Type 0 where
  pub opens : OpensBlock s
  pub behind_is : behind ≡ drop 3 s
  pub closes : Some n ≡ first_end three_quotes false behind
  pub inside_is : inside ≡ take n behind
  pub line_end_is : e ≡ line_end_len (drop 3 s)

pub block_cut : (s : List ℕ) (n : ℕ) → Some n ≡ first_end three_quotes false s → IsCharBoundary s n
block_cut s n e = let h = three_there s n (found_end three_quotes s n e).1 in boundary_here s n (omega arith) (omega arith)

module _ {s behind inside : List ℕ} {n e : ℕ} (it : IsBlock s behind inside n e) where
  pub closing : (n + 3 ≤ length behind) × (get_or behind n 0 ≡ 34) × (get_or behind (n + 2) 0 ≡ 34)
  closing = three_there behind n (found_end three_quotes behind n it.closes).1

  pub block_within : n + 6 ≤ length s
  block_within = let h = closing in omega (arith, ap length it.behind_is, length-drop 3 s)

  pub line_end_within : e ≤ n
  line_end_within =
      let same : e ≡ line_end_len behind = it.line_end_is ∙ ap line_end_len (sym it.behind_is) in
      let not_before : n < e → ⊥ = λ lt.
      let h : is_line_end (get_or behind n 0) ≡ true = line_end_bytes behind n (subst (λ k. n < k) same lt) in
      let no_line_end : is_line_end 34 ≡ true = ap is_line_end (sym closing.1) ∙ h in
      let wrong : false ≡ true = no_line_end in
      absurd cc
      in
      omega arith

  pub line_end_cut : IsUtf8 behind → IsCharBoundary inside e
  line_end_cut u =
      let h = closing in
      let here : IsCharBoundary behind e = subst (IsCharBoundary behind) (sym (it.line_end_is ∙ ap line_end_len (sym it.behind_is)))
      (boundary_behind behind u) in
      subst (λ t. IsCharBoundary t e) (sym it.inside_is) (boundary_in_front behind n e line_end_within (omega arith) here)

  pub block_len_is : block_len s ≡ Some (n + 6)
  block_len_is = ap (λ t. option_map (λ k. k + 6) (first_end three_quotes false t)) (sym it.behind_is)
      ∙ ap (option_map (λ k. k + 6)) (sym it.closes)

  pub opener_is : opener_len (take (n + 6) s) ≡ 3 + e
  opener_is =
      let order : n + 6 ≡ 3 + suc (suc (n + 1)) = omega arith in
      ap (λ k. 3 + line_end_len (drop 3 (take k s))) order ∙ ap (λ t. 3 + line_end_len t) (drop-take 3 (suc (suc (n + 1))) s)
      ∙ ap (λ k. 3 + k) (line_end_front (n + 1) (drop 3 s) ∙ sym it.line_end_is)

  inside_lines : (start : ℕ) → block_lines start (take (n + 6) s) ≡ lines_at (start + (3 + e)) (drop e inside)
  inside_lines start =
      let t = take (n + 6) s in
      let le = line_end_within in
      let few : length t - (3 + e + 3) ≡ n - e = omega (arith, length-take-le (n + 6) s block_within) in
      let whole : n + 6 ≡ 3 + e + (n + 3 - e) = omega arith in
      let inner : n ≡ e + (n - e) = omega arith in
      let cut : take (length t - (3 + e + 3)) (drop (3 + e) t) ≡ take (n - e) (drop (3 + e) s) =
      ap (λ k. take k (drop (3 + e) t)) few ∙ ap (λ k. take (n - e) (drop (3 + e) (take k s))) whole
      ∙ ap (take (n - e)) (drop-take (3 + e) (n + 3 - e) s) ∙ take-take (n - e) (n + 3 - e) (drop (3 + e) s) (omega arith)
      in
      let of_code : drop e inside ≡ take (n - e) (drop (3 + e) s) =
      ap (drop e) (it.inside_is ∙ ap (take n) it.behind_is) ∙ ap (λ k. drop e (take k (drop 3 s))) inner
      ∙ drop-take e (n - e) (drop 3 s) ∙ ap (take (n - e)) (drop-drop e 3 s)
      in
      ap (λ k. lines_at (start + k) (take (length t - (k + 3)) (drop k t))) opener_is ∙ ap (lines_at (start + (3 + e))) (cut ∙ sym of_code)

  pub block_judged : (start k : ℕ) (ls : List Line) → ls ≡ lines_at (start + (3 + e)) (drop e inside) → k ≡ indent ls
      → lines_text (map (line_kept (Some k)) ls) ≡ block_value start (take (n + 6) s)
  block_judged start k ls ls_is k_is = ap (λ j. lines_text (map (line_kept (Some j)) ls)) k_is
      ∙ ap (λ m. lines_text (trimmed_lines m)) (ls_is ∙ sym (inside_lines start))

  pub block_ends : IsUtf8 s → IsCharBoundary s (n + 6)
  block_ends u =
      let order : n + 5 ≡ 3 + (n + 2) = omega arith in
      let quote : get_or s (n + 5) 0 ≡ 34 = ap (λ k. get_or s k 0) order ∙ sym (get_or-drop 3 s (n + 2) 0)
      ∙ ap (λ t. get_or t (n + 2) 0) (sym it.behind_is) ∙ closing.2 in
      let same : n + 5 + 1 ≡ n + 6 = omega arith in
      let within = block_within in
      subst (IsCharBoundary s) same (IsCharBoundary-after_ascii s (n + 5) u (omega arith) (omega arith))

  pub is_block : (start k : ℕ) (ls : List Line) → IsUtf8 s → ls ≡ lines_at (start + (3 + e)) (drop e inside) → k ≡ indent ls
      → IsOk (lines_text (map (line_kept (Some k)) ls))
      → (0 < n + 6) × (n + 6 ≤ length s) × IsCharBoundary s (n + 6) × TokenAt Block start s (n + 6)
  is_block start k ls u ls_is k_is fine = (
    omega arith,
    block_within,
    block_ends u,
    (it.opens, block_len_is, subst (λ r. IsOk r) (block_judged start k ls ls_is k_is) fine),
  )
