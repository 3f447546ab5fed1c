-- Numbers in a model's text: the run that the phases of a number lead along is the longest that begins one, and a text is
-- a number or is none.
use Rattle.std.proofs.Common.{◌≡◌, ℕ, ◌+◌, ◌≤◌, ◌<◌, ◌⊎◌, inl, inr, List, [], ◌∷◌, ◌++◌, length, get_or, take, refl, sym, ap, subst, ◌∙◌}
use Rattle.std.proofs.Common.{append_assoc, arith}
use Rattle.std.specs.Prelude.{Option, Some, None}
use Rattle.std.proofs.lemmas.Grind.{common_steps, not_there}
use Rattle.sm_tree.specs.Numbers.{IsNumber, IsInt, IsDigits, IsSign, IsExponent}
use Rattle.sm_tree.specs.NumberTail.{Then, NumberTail, NumberLeads, NumberStops}
use Rattle.sm_tree.specs.declared.number.Phase.{Phase}
use Rattle.sm_tree.specs.declared.number.Phase.TheVariants.{Start, Minus, Zero, Whole, Point, Fraction, Exponent, ExponentSign}
use Rattle.sm_tree.specs.declared.number.Phase.TheVariants.{ExponentDigits}
use Rattle.sm_tree.proofs.Numbers.{completion, completes, number_starts}
use Rattle.sm_tree.proofs.NumberParts.{no_digits, no_int}
use Rattle.sm_tree.proofs.NumberSteps.{next_of, leads_next, stops_next, comes_from}
use Rattle.sm_lex.specs.Tokens.{LongestNumber}

pub longest_number : (s : List ℕ) (n : ℕ) (p : Phase) → n ≤ length s → NumberLeads Start (take n s) p
    → (n < length s → NumberStops p (get_or s n 0))
    → LongestNumber s n
longest_number s n p within leads longest = record {
  within = within;
  begins = (completion p, leads.back (completion p) (completes p));
  stops = λ lt goes_on.
      let more = goes_on.0 in
      let grown : take (n + 1) s ≡ take n s ++ get_or s n 0 ∷ [] = grind (arith, common_steps) in
      let moved : take (n + 1) s ++ more ≡ take n s ++ (get_or s n 0 ∷ more) = ap (λ t. t ++ more) grown
      ∙ append_assoc (take n s) (get_or s n 0 ∷ []) more in
      longest lt more (leads.onward (get_or s n 0 ∷ more) (subst IsNumber moved goes_on.1));
}

no_start : IsNumber [] → ⊥
no_start n = let first = number_starts [] n in absurd (let wrong : [] ≡ first.0 ∷ first.1 = first.2 in cc)

-- nothing is no text of a kind and one behind it, where it is none of that kind
no_part : (P Q : List ℕ → Type 0) → (P [] → ⊥) → Then P Q [] → ⊥
no_part P Q none t = by_part t.first t.rest t.parts t.is_first
  where
    by_part : (xs ys : List ℕ) → [] ≡ xs ++ ys → P xs → ⊥
    by_part [] ys e h = none h
    by_part (x ∷ xs) ys e h = absurd cc

no_rest : (P Q : List ℕ → Type 0) → (Q [] → ⊥) → Then P Q [] → ⊥
no_rest P Q none t = by_part t.first t.rest t.parts t.is_rest
  where
    by_part : (xs ys : List ℕ) → [] ≡ xs ++ ys → Q ys → ⊥
    by_part [] ys e h = none (subst Q (sym e) h)
    by_part (x ∷ xs) ys e h = absurd cc

-- a number may end in a phase, or may not
ends_or_not : (p : Phase) → NumberTail p [] ⊎ (NumberTail p [] → ⊥)
ends_or_not Start = inr no_start
ends_or_not Minus = inr (no_part IsInt (NumberTail Zero) no_int)
ends_or_not Zero = inl (completes Zero)
ends_or_not Whole = inl (completes Whole)
ends_or_not Point = inr (no_part IsDigits IsExponent no_digits)
ends_or_not Fraction = inl (completes Fraction)
ends_or_not Exponent = inr (no_rest IsSign IsDigits no_digits)
ends_or_not ExponentSign = inr no_digits
ends_or_not ExponentDigits = inl (completes ExponentDigits)

-- behind a byte, too
ends_behind : (p : Phase) (c : ℕ) (u : List ℕ) (r : Option Phase) → next_of p c ≡ r
    → ((q : Phase) → NumberTail q u ⊎ (NumberTail q u → ⊥)) → NumberTail p (c ∷ u) ⊎ (NumberTail p (c ∷ u) → ⊥)
ends_behind p c u None e rest = inr (stops_next p c e u)
ends_behind p c u (Some q) e rest = through (rest q)
  where
    through : NumberTail q u ⊎ (NumberTail q u → ⊥) → NumberTail p (c ∷ u) ⊎ (NumberTail p (c ∷ u) → ⊥)
    through (inl t) = inl (comes_from p c q u e t)
    through (inr none) = inr (λ t. none ((leads_next p c q e).onward u t))

tail_or_not : (p : Phase) (u : List ℕ) → NumberTail p u ⊎ (NumberTail p u → ⊥)
tail_or_not p [] = ends_or_not p
tail_or_not p (c ∷ u) = ends_behind p c u (next_of p c) refl (λ q. tail_or_not q u)

-- a text is a number or is none; so that it can't be none makes it one
pub number_had : (t : List ℕ) → ∥ IsNumber t ∥₁ → IsNumber t
number_had t had = by_cases (tail_or_not Start t)
  where
    by_cases : IsNumber t ⊎ (IsNumber t → ⊥) → IsNumber t
    by_cases (inl n) = n
    by_cases (inr none) = absurd (not_there had none)
