-- Marks that are taken back, number by number.
use Rattle.std.proofs.Common.{◌≡◌, ◌<◌, ◌+◌, inl, inr, ℕ, suc, Bool, true, false, List, [], ◌∷◌, get_or, length, replicate, take, refl, sym}
use Rattle.std.proofs.Common.{ap, ◌∙◌, subst}
use Rattle.std.specs.Prelude.{set}
use Rattle.std.specs.List.{Contains}
use Rattle.std.proofs.lemmas.Bool.{cases_eq}
use Rattle.std.proofs.lemmas.List.{get_or-set_other, get_or-set_same, take_more}
use Rattle.std.proofs.lemmas.List.Elements.{Contains-push_cases}
use Rattle.sm_model.specs.Reaching.{IsMarked}
use Rattle.sm_model.proofs.Worklist.{apart}

-- marks of which none is set
pub none_set : (marks : List Bool) → ((k : ℕ) → IsMarked marks k → ⊥) → marks ≡ replicate (length marks) false
none_set [] none = refl
none_set (true ∷ marks) none = absurd (none 0 refl)
none_set (false ∷ marks) none = ap (λ ms. false ∷ ms) (none_set marks (λ k h. none (suc k) h))

-- the mark of one more number is taken back
pub left_next : (old now : List Bool) (numbers : List ℕ) (i : ℕ) → i < length numbers → get_or numbers i 0 < length now
    → ((k : ℕ) → IsMarked now k → IsMarked old k × (Contains (take i numbers) k → ⊥))
    → (k : ℕ) → IsMarked (set now (get_or numbers i 0) false) k → IsMarked old k × (Contains (take (i + 1) numbers) k → ⊥)
left_next old now numbers i within lt left k h = elim (cases_eq k n) [
  | inl here ↦ absurd (apart (sym (ap (λ j. get_or (set now n false) j false) here ∙ get_or-set_same now n false false lt) ∙ h))
  | inr other ↦
      let before = left k (sym (get_or-set_other now n k false false other) ∙ h) in (
        before.0,
        λ there. elim (Contains-push_cases (take i numbers) n k (subst (λ xs. Contains xs k) (take_more numbers i 0 within) there)) [
          | inl earlier ↦ before.1 earlier
          | inr same ↦ absurd (other (sym same))
        ],
      )
]
  where
    n : ℕ
    n = get_or numbers i 0
