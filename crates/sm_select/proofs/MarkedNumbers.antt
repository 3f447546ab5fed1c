-- Marks that are pushed one after the other.
use Rattle.std.proofs.Common.{◌≡◌, ◌≢◌, ◌⊎◌, inl, inr, ℕ, ◌+◌, ◌<◌, ◌≤◌, zero, suc, Bool, true, false, List, [], ◌∷◌, ◌++◌, length}
use Rattle.std.proofs.Common.{get_or, refl, sym, ◌∙◌, subst, arith, length-append}
use Rattle.std.specs.Prelude.{◌↔◌, not}
use Rattle.std.proofs.lemmas.Bool.{cases_lt}
use Rattle.sm_model.specs.Reaching.{AreMarks, IsMarked}
use Rattle.sm_model.proofs.Worklist.{apart, marked_within}
use Rattle.sm_select.proofs.StepLists.{same_or_not}

at_push : (marks : List Bool) (m : Bool) (k : ℕ) → k ≡ length marks → get_or (marks ++ m ∷ []) k false ≡ m
at_push [] m zero e = refl
at_push [] m (suc k) e = absurd (omega (arith, e))
at_push (x ∷ xs) m zero e = absurd (omega (arith, e))
at_push (x ∷ xs) m (suc k) e = at_push xs m k (omega (arith, e))

before_push : (marks : List Bool) (m : Bool) (k : ℕ) → k ≢ length marks → get_or (marks ++ m ∷ []) k false ≡ get_or marks k false
before_push [] m zero other = absurd (other refl)
before_push [] m (suc k) other = refl
before_push (x ∷ xs) m zero other = refl
before_push (x ∷ xs) m (suc k) other = before_push xs m k (λ e. other (omega (arith, e)))

pub below_next : (k n : ℕ) → k ≢ n → k < n + 1 → k < n
below_next k n other lt = elim (cases_lt k n) [ inl less ↦ less | inr ge ↦ absurd (other (omega (arith, ge, lt))) ]

pub marks_none : (Holds : ℕ → Type 0) → AreMarks 0 Holds []
marks_none Holds = record { whole = refl; marked = λ k. (λ h. absurd (apart h), λ h. absurd (omega (arith, h.0))) }

pub marks_more : (Holds : ℕ → Type 0) (n : ℕ) (marks : List Bool) (m : Bool) → AreMarks n Holds marks → (m ≡ true) ↔ Holds n
    → AreMarks (n + 1) Holds (marks ++ m ∷ [])
marks_more Holds n marks m are here = record {
  whole = let long = length-append marks (m ∷ []) in omega (arith, long, are.whole);
  marked = λ k. elim (same_or_not k n) [ inl e ↦ last k e | inr other ↦ earlier k other ];
}
  where
    last : (k : ℕ) → k ≡ n → IsMarked (marks ++ m ∷ []) k ↔ ((k < n + 1) × Holds k)
    last k e =
        let is = at_push marks m k (e ∙ sym are.whole) in (
          λ h. (omega (arith, e), subst Holds (sym e) (here.0 (sym is ∙ h))),
          λ h. is ∙ here.1 (subst Holds e h.1),
        )

    earlier : (k : ℕ) → k ≢ n → IsMarked (marks ++ m ∷ []) k ↔ ((k < n + 1) × Holds k)
    earlier k other =
        let same = before_push marks m k (λ e. other (e ∙ are.whole)) in (
          λ h. let old = (are.marked k).0 (sym same ∙ h) in let lt : k < n + 1 = omega (arith, old.0) in (lt, old.1),
          λ h. same ∙ (are.marked k).1 (below_next k n other h.0, h.1),
        )

-- two things that hold of the same numbers have the same marks
pub marks_same : (P Q : ℕ → Type 0) (n : ℕ) (marks : List Bool) → ((k : ℕ) → k < n → P k ↔ Q k) → AreMarks n P marks → AreMarks n Q marks
marks_same P Q n marks same are = record {
  whole = are.whole;
  marked = λ k. (
    λ h. let old = (are.marked k).0 h in (old.0, (same k old.0).0 old.1),
    λ h. (are.marked k).1 (h.0, (same k h.0).1 h.1),
  );
}

-- a mark that isn't set
pub unset : (b : Bool) → (b ≡ true → ⊥) → b ≡ false
unset true never = absurd (never refl)
unset false never = refl

pub not_told : (b m : Bool) → m ≡ not b → (m ≡ true) ↔ (b ≡ false)
not_told true m is = (λ h. absurd (apart (sym is ∙ h)), λ h. absurd (apart (sym h)))
not_told false m is = (λ h. refl, λ h. is)

-- marks that are set too, one number after the other
pub set_more : (old more now next : List Bool) (n : ℕ) → ((k : ℕ) → IsMarked now k ↔ (IsMarked old k ⊎ ((k < n) × IsMarked more k)))
    → ((k : ℕ) → IsMarked next k ↔ (IsMarked now k ⊎ ((get_or more n false ≡ true) × (n ≡ k))))
    → (k : ℕ) → IsMarked next k ↔ (IsMarked old k ⊎ ((k < n + 1) × IsMarked more k))
set_more old more now next n so adds k = (
  λ h. elim ((adds k).0 h) [
    | inl was ↦ elim ((so k).0 was) [ inl o ↦ inl o | inr m ↦ inr (less m.0, m.1) ]
    | inr new ↦ inr (here new.1, subst (IsMarked more) new.1 new.0)
  ],
  λ h. (adds k).1 (elim h [
    | inl o ↦ inl ((so k).1 (inl o))
    | inr m ↦ elim (same_or_not k n) [
      | inl e ↦ inr (subst (IsMarked more) e m.1, sym e)
      | inr other ↦ inl ((so k).1 (inr (below_next k n other m.0, m.1)))
    ]
  ]),
)
  where
    less : k < n → k < n + 1
    less lt = omega (arith, lt)

    here : n ≡ k → k < n + 1
    here e = omega (arith, e)

pub set_all : (old more now : List Bool) (n : ℕ) → length more ≤ n
    → ((k : ℕ) → IsMarked now k ↔ (IsMarked old k ⊎ ((k < n) × IsMarked more k))) → (k : ℕ)
    → IsMarked now k ↔ (IsMarked old k ⊎ IsMarked more k)
set_all old more now n all so k = (
  λ h. elim ((so k).0 h) [ inl o ↦ inl o | inr m ↦ inr m.1 ],
  λ h. (so k).1 (elim h [
    | inl o ↦ inl o
    | inr m ↦ let within = marked_within more k m in let lt : k < n = omega (arith, within, all) in inr (lt, m)
  ]),
)
