-- Words that are numbers of links, and the number that is parsed of one.
use Rattle.std.proofs.Common.{◌≡◌, ◌≤◌, ◌<◌, ◌^◌, ℕ, Bool, true, false, cond, List, [], ◌∷◌, ◌==◌, drop, Option, None, Some}
use Rattle.std.proofs.Common.{refl, sym, ap, subst, ◌∙◌, true≢false, arith}
use Rattle.std.specs.Prelude.{MatchOption, slice_index}
use Rattle.std.specs.Str.Parse.{IsNumeral, digits_value, without_leading_plus}
use Rattle.std.proofs.lemmas.Bool.{ne_eqb}
use Rattle.std.proofs.lemmas.Str.Parse.{digit_from_value}
use Rattle.sm_serve.specs.ServeWords.{IsLinkCount, most_links}
use Rattle.sm_serve.specs.steps.WordSteps.{IsWithin}

-- a word is one number
pub link_count_same : (word : List ℕ) (n m : ℕ) → IsLinkCount word n → IsLinkCount word m → n ≡ m
link_count_same word n m h i = sym h.number ∙ i.number

-- digits begin with no plus
no_plus_first : (word : List ℕ) → IsNumeral 10 word → (slice_index word 0 == 43) ≡ false
no_plus_first [] h = absurd (omega (arith, h.0))
no_plus_first (c ∷ cs) h = ne_eqb c 43 (λ e. omega (arith, e, digit_from_value c h.1.0))

pub plus_refused : (word : List ℕ) → (slice_index word 0 == 43) ≡ true → (n : ℕ) → IsLinkCount word n → ⊥
plus_refused word plus n h = true≢false (sym plus ∙ no_plus_first word h.digits)

-- without a plus the whole word is parsed
whole_word : (word : List ℕ) → (slice_index word 0 == 43) ≡ false → without_leading_plus word ≡ word
whole_word [] plus = refl
whole_word (c ∷ cs) plus = ap (λ (b : Bool). drop (cond b 1 0) (c ∷ cs)) plus

-- so many are within the most, or not
by_range : (word : List ℕ) (count : ℕ) → IsNumeral 10 word → digits_value 10 word ≡ count → (found : Option ℕ) → IsWithin count found
    → MatchOption found ((n : ℕ) → IsLinkCount word n → ⊥) (λ n. IsLinkCount word n)
by_range word count digits number None beyond = λ n h.
    let same : n ≡ count = sym h.number ∙ number in
    beyond (subst (λ x. 0 < x) same h.some) (subst (λ x. x ≤ most_links) same h.within)
by_range word count digits number (Some found) is = record {
  digits = digits;
  number = number ∙ sym is.0;
  some = subst (λ x. 0 < x) (sym is.0) is.1;
  within = subst (λ x. x ≤ most_links) (sym is.0) is.2;
}

module _ (word : List ℕ) (plus : (slice_index word 0 == 43) ≡ false) where
  -- what isn't parsed is no number of links
  pub unparsed_refused : (IsNumeral 10 (without_leading_plus word) × (digits_value 10 (without_leading_plus word) < 2 ^ 64) → ⊥)
      → (n : ℕ) → IsLinkCount word n → ⊥
  unparsed_refused none n h =
      let same = whole_word word plus in
      let small : digits_value 10 word < 2 ^ 64 = omega (arith, h.number, h.within) in
      none (subst (IsNumeral 10) (sym same) h.digits, subst (λ x. digits_value 10 x < 2 ^ 64) (sym same) small)

  -- and what is parsed is one where it is in range
  pub parsed_counts : (count : ℕ)
      → (IsNumeral 10 (without_leading_plus word) × (digits_value 10 (without_leading_plus word) < 2 ^ 64))
      × (count ≡ digits_value 10 (without_leading_plus word)) → (found : Option ℕ) → IsWithin count found
      → MatchOption found ((n : ℕ) → IsLinkCount word n → ⊥) (λ n. IsLinkCount word n)
  parsed_counts count h found within =
      let same = whole_word word plus in
      by_range word count (subst (IsNumeral 10) same h.0.0) (ap (digits_value 10) (sym same) ∙ sym h.1) found within
