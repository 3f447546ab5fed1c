-- Runs of bytes that stand for themselves: what is written of a text that begins with one.
use Rattle.std.proofs.Common.{◌≡◌, ℕ, ◌+◌, ◌≤◌, true, false, nat_lt, ◌==◌, List, [], ◌∷◌, ◌++◌, length, take, drop, refl, subst, sym, ap}
use Rattle.std.proofs.Common.{ap₂, ◌∙◌, arith, append-nil, length-append, ltb-false}
use Rattle.std.proofs.lemmas.Bool.{or_parts, not-true, eqb-false}
use Rattle.std.proofs.lemmas.List.{take-append-drop}
use Rattle.std.specs.List.{prefix_len}
use Rattle.sm_bytes.proofs.Runs.{of_run}
use Rattle.sm_json.specs.steps.Placing.{is_escaped, is_unescaped}
use Rattle.sm_json.specs.Written.{written_byte, written_bytes}
use Rattle.sm_json.proofs.WrittenStrings.{plain_byte, written_bytes_append}

pub unescaped_byte : (b : ℕ) → is_escaped b ≡ false → written_byte b ≡ b ∷ []
unescaped_byte b h =
    let parts = or_parts (nat_lt b 32) _ h in
    let marks = or_parts (b == 34) _ parts.1 in
    plain_byte b (ltb-false b 32 parts.0) (eqb-false b 34 marks.0) (eqb-false b 92 marks.1)

-- the run of bytes that aren't escaped is written as it is
pub unescaped_run : (bs : List ℕ) (k : ℕ) → k ≡ prefix_len is_unescaped bs → written_bytes (take k bs) ≡ take k bs
unescaped_run bs k e = subst (λ n. written_bytes (take n bs) ≡ take n bs) (sym e)
    (of_run is_unescaped (λ s. written_bytes s ≡ s) refl one_more bs)
  where
    one_more : (b : ℕ) (s : List ℕ) → is_unescaped b ≡ true → written_bytes s ≡ s → written_bytes (b ∷ s) ≡ b ∷ s
    one_more b s here same = ap₂ (λ (x y : List ℕ). x ++ y) (unescaped_byte b (not-true (is_escaped b) here)) same

run_and_rest : (k : ℕ) (bs : List ℕ) → written_bytes (take k bs) ≡ take k bs → written_bytes bs ≡ take k bs ++ written_bytes (drop k bs)
run_and_rest k bs run =
    ap written_bytes (sym (take-append-drop k bs)) ∙ written_bytes_append (take k bs) _ ∙ ap (λ l. l ++ written_bytes (drop k bs)) run

-- the run is the whole text
pub run_to_end : (k : ℕ) (bs back : List ℕ) → written_bytes (take k bs) ≡ take k bs → back ≡ drop k bs → length back ≡ 0
    → written_bytes bs ≡ take k bs
run_to_end k bs [] run end none = run_and_rest k bs run ∙ ap (λ l. take k bs ++ written_bytes l) (sym end) ∙ append-nil _
run_to_end k bs (b ∷ back) run end none = absurd (omega (arith, none))

-- the run, the byte b behind it, and the rest
pub run_to_byte : (k : ℕ) (bs after : List ℕ) (b : ℕ) → written_bytes (take k bs) ≡ take k bs → drop k bs ≡ b ∷ after
    → written_bytes bs ≡ take k bs ++ (written_byte b ++ written_bytes after)
run_to_byte k bs after b run here = run_and_rest k bs run ∙ ap (λ l. take k bs ++ written_bytes l) here

-- the same as lengths
pub run_fits : (k : ℕ) (bs : List ℕ) → written_bytes (take k bs) ≡ take k bs → length (take k bs) ≤ length (written_bytes bs)
run_fits k bs run = omega (arith, ap length (run_and_rest k bs run) ∙ length-append (take k bs) _)

pub length_to_byte : (k : ℕ) (bs after : List ℕ) (b : ℕ) → written_bytes (take k bs) ≡ take k bs → drop k bs ≡ b ∷ after
    → length (written_bytes bs) ≡ length (take k bs) + (length (written_byte b) + length (written_bytes after))
length_to_byte k bs after b run here =
    ap length (run_to_byte k bs after b run here) ∙ length-append (take k bs) _
    ∙ ap (λ n. length (take k bs) + n) (length-append (written_byte b) _)
