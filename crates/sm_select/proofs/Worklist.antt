-- Steps from the starts of a walk, one start after the other, and one step or more as a step from a start and further ones.
use Rattle.std.proofs.Common.{◌≢◌, ◌⊎◌, inl, inr, ℕ, ◌+◌, ◌<◌, Bool, false, List, [], ◌∷◌, ◌++◌, length, refl, subst, arith}
use Rattle.std.specs.Prelude.{◌↔◌, replicate}
use Rattle.std.proofs.lemmas.Bool.{cases_lt, cases_eq}
use Rattle.sm_model.specs.Reaching.{AreLedTo, Finds, IsMarked, LeadsOn}
use Rattle.sm_model.proofs.Worklist.{marked_within}
use Rattle.sm_select.specs.Neighbors.{AreReached, HasStep, StepsBy}
use Rattle.sm_select.specs.steps.Reaching.{StepsFrom, StepsFromStart}

pub starts_more : (rows : List (List ℕ)) (starts : List Bool) (at k : ℕ)
    → (StepsFrom rows starts at k ⊎ StepsFromStart rows starts at k) ↔ StepsFrom rows starts (at + 1) k
starts_more rows starts at k = (
  λ h. elim h [ inl old ↦ (old.0, omega (arith, old.1), old.2, old.3) | inr here ↦ (at, omega arith, here.0, here.1) ],
  λ h. elim (cases_eq h.0 at) [
    | inl here ↦ inr (subst (IsMarked starts) here h.2, subst (λ a. HasStep rows a k) here h.3)
    | inr other ↦ inl (h.0, below h.0 at other h.1, h.2, h.3)
  ],
)
  where
    below : (a b : ℕ) → a ≢ b → a < b + 1 → a < b
    below a b other lt = elim (cases_lt a b) [ inl less ↦ less | inr ge ↦ absurd (other (omega (arith, ge, lt))) ]

pub one_more_step : (rows : List (List ℕ)) (a : ℕ) (between : List ℕ) (k b : ℕ) → StepsBy rows a between k → HasStep rows k b
    → StepsBy rows a (between ++ k ∷ []) b
one_more_step rows a [] k b h step = (h, step)
one_more_step rows a (n ∷ more) k b h step = (h.0, one_more_step rows n more k b h.1 step)

-- a step and no further one or more are one step or more
walked_on : (rows : List (List ℕ)) (a n b : ℕ) (steps : List ℕ) → HasStep rows a n → LeadsOn (HasStep rows) n steps b
    → (between : List ℕ) × StepsBy rows a between b
walked_on rows a n b [] step h = ([], subst (HasStep rows a) h step)
walked_on rows a n b (m ∷ more) step h = let rest = walked_on rows n m b more h.0 h.1 in (n ∷ rest.0, (step, rest.1))

walked_from : (rows : List (List ℕ)) (a b : ℕ) (between : List ℕ) → StepsBy rows a between b
    → (n : ℕ) × HasStep rows a n × ((steps : List ℕ) × LeadsOn (HasStep rows) n steps b)
walked_from rows a b [] h = (b, h, ([], refl))
walked_from rows a b (n ∷ more) h = let rest = walked_from rows n b more h.1 in (n, h.0, (rest.0 ∷ rest.2.0, (rest.1, rest.2.1)))

pub reached_by : (rows : List (List ℕ)) (starts : List Bool) (n : ℕ) (marks : List Bool) (found : List ℕ) (marks_now : List Bool)
    → Finds (StepsFrom rows starts (length starts)) (replicate n false) [] marks found → AreLedTo (HasStep rows) found marks_now
    → AreReached rows starts marks_now
reached_by rows starts n marks found marks_now f led b = (
  λ h.
      let r = (led b).0 h in
      elim ((f.joins r.0).0 r.1) [
        | inl none ↦ absurd (omega (arith, none.1))
        | inr s ↦ (s.0, s.2, walked_on rows s.0 r.0 b r.2.0 s.3 r.2.1)
      ],
  λ h.
      let w = walked_from rows h.0 b h.2.0 h.2.1 in
      (led b).1 (w.0, (f.joins w.0).1 (inr (h.0, marked_within starts h.0 h.1, h.1, w.1)), w.2),
)
