-- A list up to its first comma, and behind it.
use Rattle.std.proofs.Common.{◌≡◌, ℕ, suc, ◌+◌, ◌-◌, ◌<◌, ◌≤◌, List, [], ◌∷◌, length, take, drop, Bool, true, false, ◌||◌, refl, sym, ap, ◌∙◌}
use Rattle.std.proofs.Common.{inl, inr, length-drop, take_all, arith}
use Rattle.std.specs.Prelude.{All, not, cond}
use Rattle.std.specs.List.{list_any, position_or_len, slice_split}
use Rattle.std.proofs.lemmas.Bool.{cases_lt}
use Rattle.std.proofs.lemmas.List.{take_rest}
use Rattle.std.proofs.lemmas.List.Elements.{All-cons}
use Rattle.std.proofs.lemmas.List.Splits.{slice_split_first, slice_split_none}
use Rattle.sm_http.specs.FieldLists.{is_comma, is_element, lists_token}

no_comma_first : (b : ℕ) (bytes : List ℕ) (t : Bool) → is_comma b ≡ t
    → cond (not t) (1 + position_or_len is_comma bytes) 0 ≡ suc (length bytes)
    → (is_comma b ≡ false) × (position_or_len is_comma bytes ≡ length bytes)
no_comma_first b bytes true e n = absurd (omega arith)
no_comma_first b bytes false e n = (e, omega arith)

no_comma : (bytes : List ℕ) → position_or_len is_comma bytes ≡ length bytes → All (λ b. is_comma b ≡ false) bytes
no_comma [] e = λ k d l. absurd (omega arith)
no_comma (b ∷ bytes) e =
    let first = no_comma_first b bytes (is_comma b) refl e in
    All-cons (λ b. is_comma b ≡ false) b bytes first.0 (no_comma bytes first.1)

-- the last element of a list
last_listed : (token rest : List ℕ) (len : ℕ) → len ≡ position_or_len is_comma rest → len ≡ length rest
    → list_any (is_element token) (slice_split is_comma rest) ≡ (is_element token rest || false)
last_listed token rest len e all =
    ap (list_any (is_element token)) (slice_split_none is_comma rest (no_comma rest (sym e ∙ all)))

-- one before others
first_listed : (token rest : List ℕ) (len : ℕ) → len ≡ position_or_len is_comma rest → len < length rest
    → list_any (is_element token) (slice_split is_comma rest)
    ≡ (is_element token (take len rest) || list_any (is_element token) (slice_split is_comma (drop (len + 1) rest)))
first_listed token rest len e inside =
    ap (list_any (is_element token)) (slice_split_first is_comma rest 0 (omega arith))
    ∙ ap (λ n. is_element token (take n rest) || list_any (is_element token) (slice_split is_comma (drop (n + 1) rest))) (sym e)

-- what a walk over a list answers at the element that stands first in what is left
module _ (token rest value : List ℕ) (len : ℕ) (e : len ≡ position_or_len is_comma rest)
    (same : lists_token token rest ≡ lists_token token value) where
  pub found : len ≤ length rest → is_element token (take len rest) ≡ true → true ≡ lists_token token value
  found within is = elim (cases_lt len (length rest)) [
    | inl inside ↦
        let others = lists_token token (drop (len + 1) rest) in
        sym (ap (λ b. b || others) is) ∙ sym (first_listed token rest len e inside) ∙ same
    | inr past ↦
        sym (ap (λ b. b || false) (sym (ap (is_element token) (take_all len rest past)) ∙ is))
        ∙ sym (last_listed token rest len e (omega arith)) ∙ same
  ]

  pub none_found : len ≡ length rest → is_element token (take len rest) ≡ false → false ≡ lists_token token value
  none_found all isnt =
      sym (ap (λ b. b || false) (sym (ap (is_element token) (take_all len rest (omega arith))) ∙ isnt))
      ∙ sym (last_listed token rest len e all) ∙ same

  pub passed : len < length rest → is_element token (take len rest) ≡ false
      → lists_token token (take (length rest - (len + 1)) (drop (len + 1) rest)) ≡ lists_token token value
  passed inside isnt =
      let others = lists_token token (drop (len + 1) rest) in
      ap (lists_token token) (take_rest rest (len + 1)) ∙ sym (ap (λ b. b || others) isnt)
      ∙ sym (first_listed token rest len e inside) ∙ same

pub passed_within : (rest : List ℕ) (len most : ℕ) → length rest ≤ most
    → length (take (length rest - (len + 1)) (drop (len + 1) rest)) ≤ most
passed_within rest len most within = omega (arith, ap length (take_rest rest (len + 1)), length-drop (len + 1) rest)
