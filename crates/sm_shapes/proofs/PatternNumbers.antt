-- A pattern that a table's constraints name is one of the store, under its number and with its text.
use Rattle.std.proofs.Common.{◌≡◌, ℕ, zero, suc, ◌<◌, Bool, true, false, cond, List, [], ◌∷◌, length, refl, sym, ap, ◌∙◌, subst, inl, inr}
use Rattle.std.proofs.Common.{arith, eq-eqb}
use Rattle.std.specs.Prelude.{◌==◌, Option, Some, slice_get}
use Rattle.std.proofs.lemmas.Bool.{cases_Bool, cond-true, cond-false}
use Rattle.std.proofs.lemmas.Option.{same_Some}
use Rattle.sm_shapes.specs.Broken.{pattern_broken, unless, first_broken}
use Rattle.sm_shapes.specs.Fitting.{Test, finder}
use Rattle.sm_shapes.specs.InOrder.{AreStored, NamesPattern}
use Rattle.sm_shapes.specs.Patterns.{pattern_text}
use Rattle.sm_shapes.specs.TableData.{TableData, texts_numbered, first_text, pattern_at}
use Rattle.sm_shapes.specs.declared.fault.FaultKind.TheVariants.{Pattern}

same_number : (m n : ℕ) → (m == n) ≡ true → m ≡ n
same_number m n e = grind (arith, e)

stored_by : (n : ℕ) (p : ℕ × List ℕ) (ps : List (ℕ × List ℕ)) (added : List (List ℕ)) (u : List ℕ) (b : Bool) → (p.0 == n) ≡ b
    → (p.0 < length added) × (pattern_text added p.0 ≡ p.1)
    → (texts_numbered n ps ≡ u ∷ [] → (n < length added) × (pattern_text added n ≡ u))
    → cond b (p.1 ∷ texts_numbered n ps) (texts_numbered n ps) ≡ u ∷ [] → (n < length added) × (pattern_text added n ≡ u)
stored_by n p ps added u true e at more h =
    let same : p.1 ≡ u = cc in
    let number = same_number p.0 n e in
    (subst (λ m. m < length added) number at.0, sym (ap (pattern_text added) number) ∙ at.1 ∙ same)
stored_by n p ps added u false e at more h = more h

stored_in : (n : ℕ) (ps : List (ℕ × List ℕ)) (added : List (List ℕ)) (u : List ℕ) → AreStored ps added → texts_numbered n ps ≡ u ∷ []
    → (n < length added) × (pattern_text added n ≡ u)
stored_in n [] added u h e = absurd cc
stored_in n (p ∷ ps) added u h e = stored_by n p ps added u (p.0 == n) refl (h.0, h.1) (λ g. stored_in n ps added u h.2 g) e

pub stored_at : (t : TableData) (added : List (List ℕ)) (n : ℕ) → AreStored t.patterns added → NamesPattern t (Some n)
    → (n < length added) × (pattern_text added n ≡ pattern_at t n)
stored_at t added n h named =
    let at = stored_in n t.patterns added named.0 h named.1 in (at.0, at.1 ∙ sym (ap first_text named.1))

none_numbered : (n : ℕ) (rows : List (ℕ × List ℕ)) (i : ℕ) (row : ℕ × List ℕ) → slice_get rows i ≡ Some row → row.0 ≡ n
    → texts_numbered n rows ≡ [] → ⊥
none_numbered n [] i row at is none = absurd cc
none_numbered n (p ∷ ps) zero row at is none =
    let same : p.0 ≡ n = ap (λ q. q.0) (same_Some p row at) ∙ is in
    let all : texts_numbered n (p ∷ ps) ≡ p.1 ∷ texts_numbered n ps = cond-true (p.0 == n) _ _ (eq-eqb p.0 n same) in
    absurd (cc (sym all ∙ none))
none_numbered n (p ∷ ps) (suc i) row at is none = elim (cases_Bool (p.0 == n)) [
  | inl t ↦
      let all : texts_numbered n (p ∷ ps) ≡ p.1 ∷ texts_numbered n ps = cond-true (p.0 == n) _ _ t in absurd (cc (sym all ∙ none))
  | inr f ↦ none_numbered n ps i row at is (sym (cond-false (p.0 == n) _ _ f) ∙ none)
]

-- a row with the number has the one text of that number
pub one_text : (n : ℕ) (rows : List (ℕ × List ℕ)) (i : ℕ) (row : ℕ × List ℕ) (u : List ℕ) → slice_get rows i ≡ Some row → row.0 ≡ n
    → texts_numbered n rows ≡ u ∷ [] → row.1 ≡ u
one_text n [] i row u at is one = absurd cc
one_text n (p ∷ ps) zero row u at is one =
    let same = same_Some p row at in
    let all : texts_numbered n (p ∷ ps) ≡ p.1 ∷ texts_numbered n ps =
    cond-true (p.0 == n) _ _ (eq-eqb p.0 n (ap (λ q. q.0) same ∙ is)) in
    let first : p.1 ≡ u = cc (sym all ∙ one) in
    sym (ap (λ q. q.1) same) ∙ first
one_text n (p ∷ ps) (suc i) row u at is one = elim (cases_Bool (p.0 == n)) [
  | inl t ↦
      let all : texts_numbered n (p ∷ ps) ≡ p.1 ∷ texts_numbered n ps = cond-true (p.0 == n) _ _ t in
      let none : texts_numbered n ps ≡ [] = cc (sym all ∙ one) in
      absurd (none_numbered n ps i row at is none)
  | inr f ↦ one_text n ps i row u at is (sym (cond-false (p.0 == n) _ _ f) ∙ one)
]

-- what the store finds is what the test of the table's text does
pub pattern_first : (t : TableData) (test : Test) (added : List (List ℕ)) (o : Option ℕ) (n : ℕ) (u : List ℕ) (b : Bool) → o ≡ Some n
    → AreStored t.patterns added → NamesPattern t o → b ≡ test (pattern_text added n) u
    → first_broken (unless b Pattern) ≡ first_broken (pattern_broken (finder t test) o u)
pattern_first t test added o n u b e h named found =
    let at = stored_at t added n h (subst (λ x. NamesPattern t x) e named) in
    ap (λ x. first_broken (unless x Pattern)) (found ∙ ap (λ w. test w u) at.1)
    ∙ sym (ap (λ x. first_broken (pattern_broken (finder t test) x u)) e)
