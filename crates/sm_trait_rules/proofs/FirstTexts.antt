-- Texts of selectors that are seen, each with a trait that has it, and one such trait for each number.
use Rattle.std.proofs.Common.{◌≡◌, ◌<◌, ◌+◌, inl, inr, ℕ, Bool, true, false, cond, List, [], ◌∷◌, ◌++◌, Option, Some, get_or, length, refl}
use Rattle.std.proofs.Common.{sym, ap, ◌∙◌, subst, arith, bytes_eq, length-append}
use Rattle.std.proofs.Math.Seq.{get_or-append_seam}
use Rattle.std.proofs.lemmas.Bool.{cases_lt}
use Rattle.std.proofs.lemmas.List.{get_or_append_left}
use Rattle.std.proofs.lemmas.Option.{same_Some}
use Rattle.std.proofs.lemmas.Slice.Eq.{bytes_eq-Decides}
use Rattle.sm_model.specs.declared.graph.Graph.{Graph}
use Rattle.sm_trait_rules.specs.steps.Placing.{AreSeen, IsTextAt}

-- a text that is seen besides
pub seen_more : (g : Graph) (old new : List ℕ → Option ℕ) (text : List ℕ) (k : ℕ) → AreSeen g old → IsTextAt g text k
    → ((q : List ℕ) → new q ≡ cond (bytes_eq text q) (Some k) (old q)) → AreSeen g new
seen_more g old new text k are here changed q first is = by (bytes_eq text q) refl (sym (changed q) ∙ is)
  where
    by : (b : Bool) → bytes_eq text q ≡ b → cond b (Some k) (old q) ≡ Some first → IsTextAt g q first
    by true same h =
        subst (λ t. IsTextAt g t first) ((bytes_eq-Decides text q).0 same) (subst (IsTextAt g text) (same_Some k first h) here)
    by false other h = are q first h

pub long_pushed : {X : Type 0} (xs : List X) (n : ℕ) (x : X) → length xs ≡ n → length (xs ++ x ∷ []) ≡ n + 1
long_pushed xs n x long = let more = length-append xs (x ∷ []) in omega (arith, more, long)

-- what holds of each number and of what is pushed for it
module _ {X : Type 0} (Is : ℕ → X → Type 0) (default : X) where
  pub each_pushed : (xs : List X) (n : ℕ) (x : X) → length xs ≡ n → ((k : ℕ) → k < n → Is k (get_or xs k default)) → Is n x
      → (k : ℕ) → k < n + 1 → Is k (get_or (xs ++ x ∷ []) k default)
  each_pushed xs n x long each here k small = elim (cases_lt k n) [
    | inl less ↦
        subst (Is k) (sym (get_or_append_left xs (x ∷ []) default k (subst (λ m. k < m) (sym long) less))) (each k less)
    | inr more ↦
        let same : k ≡ length xs = omega (arith, small, more, long) in
        subst (Is k) (sym (ap (λ j. get_or (xs ++ x ∷ []) j default) same ∙ get_or-append_seam xs x [] default))
        (subst (λ j. Is j x) (sym long ∙ sym same) here)
  ]
