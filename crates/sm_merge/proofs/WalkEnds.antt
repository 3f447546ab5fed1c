-- Where a walk begins and ends, and how many steps are left.
use Rattle.std.proofs.Common.{◌≡◌, ℕ, zero, suc, ◌+◌, ◌<◌, ◌≤◌, Bool, List, [], ◌∷◌, length, get_or}
use Rattle.std.proofs.Common.{Some, refl, sym, ap, subst, arith}
use Rattle.std.specs.Prelude.{◌↔◌, IsTrue}
use Rattle.std.proofs.lemmas.Option.{none-some, same_Some, get_or_from_slice_get}
use Rattle.sm_merge.specs.declared.walk.Status.{Status}
use Rattle.sm_merge.specs.declared.walk.Status.TheVariants.{New, Begun, Finished}
use Rattle.sm_merge.specs.steps.Links.{Links, At, OnRing, IsOrder}
use Rattle.sm_merge.specs.steps.Walking.{IsDone, IsGrounded, IsMet, is_ring, new_steps, steps_ahead}
use Rattle.sm_merge.proofs.Ats.{at_there, at_within}

-- a number that was met is finished, where the row has ended
pub met_done : (links : Links) (status : List Status) (row targets order : List ℕ) → IsGrounded links status row targets order
    → length row ≡ 0 → (v : ℕ) → v < length links → IsMet status v → IsDone status v
met_done links status row targets order g ended v small met = by there.0 there.1
  where
    there : (s : Status) × At status v s
    there = let size : length status ≡ length links = g.size in at_there status v (omega (arith, size, small))

    by : (s : Status) → At status v s → IsDone status v
    by New h = absurd (met h)
    by (Begun k) h = let none : k < length row = at_within row k v (g.begun k v h) in absurd (omega (arith, none, ended))
    by (Finished ring) h = record { ring = ring; there = h }

pub order_told : (links : Links) (status : List Status) (row targets order : List ℕ) → IsGrounded links status row targets order
    → length row ≡ 0 → ((v : ℕ) → v < length links → IsMet status v) → IsOrder links order
order_told links status row targets order g ended met = record {
  all = λ v small. g.placed v (met_done links status row targets order g ended v small (met v small));
  within = λ k v there.
      let done = g.listed k v there in
      let size : length status ≡ length links = g.size in
      let small : v < length status = at_within status v (Finished done.ring) done.there in
      omega (arith, size, small);
  once = g.once;
  behind = g.behind;
}

pub rings_told : (links : Links) (status : List Status) (row targets order : List ℕ) → IsGrounded links status row targets order
    → length row ≡ 0 → ((v : ℕ) → v < length links → IsMet status v) → (v : ℕ) → v < length links
    → IsTrue (is_ring (get_or status v New)) ↔ OnRing links v
rings_told links status row targets order g ended met v small =
    let done = met_done links status row targets order g ended v small (met v small) in
    subst (λ s. IsTrue (is_ring s) ↔ OnRing links v) (sym (get_or_from_slice_get status v (Finished done.ring) New done.there))
    (g.told v done.ring done.there)

old_begun : (k : ℕ) → Some (Begun k) ≡ Some New → ⊥
old_begun k e = cc

old_finished : (ring : Bool) → Some (Finished ring) ≡ Some New → ⊥
old_finished ring e = cc

no_more : (n : ℕ) (s t : Status) → ((Some s ≡ Some New → ⊥) → Some t ≡ Some New → ⊥) → new_steps t n ≤ new_steps s n
no_more n New New h = omega arith
no_more n New (Begun k) h = omega arith
no_more n New (Finished ring) h = omega arith
no_more n (Begun j) New h = absurd (h (old_begun j) refl)
no_more n (Begun j) (Begun k) h = omega arith
no_more n (Begun j) (Finished ring) h = omega arith
no_more n (Finished r) New h = absurd (h (old_finished r) refl)
no_more n (Finished r) (Begun k) h = omega arith
no_more n (Finished r) (Finished ring) h = omega arith

none_more : (n : ℕ) (t : Status) → (Some t ≡ Some New → ⊥) → new_steps t n ≡ 0
none_more n New h = absurd (h refl)
none_more n (Begun k) h = refl
none_more n (Finished ring) h = refl

-- fewer numbers that weren't met: no more steps
pub fewer_steps : (links : Links) (before now : List Status) → length now ≡ length before
    → ((v : ℕ) → IsMet before v → IsMet now v) → steps_ahead links now ≤ steps_ahead links before
fewer_steps [] before now size met = omega arith
fewer_steps (targets ∷ links) [] [] size met = omega arith
fewer_steps (targets ∷ links) [] (s ∷ now) size met = absurd (omega (arith, size))
fewer_steps (targets ∷ links) (s ∷ before) [] size met = omega arith
fewer_steps (targets ∷ links) (s ∷ before) (t ∷ now) size met =
    let rest : steps_ahead links now ≤ steps_ahead links before = fewer_steps links before now (omega (arith, size))
    (λ v h. met (suc v) h) in
    let here : new_steps t (length targets) ≤ new_steps s (length targets) = no_more (length targets) s t (λ h. met 0 h) in
    omega (arith, rest, here)

-- and one that is met now
pub one_fewer : (links : Links) (before now : List Status) (w : ℕ) → length now ≡ length before → length before ≡ length links
    → ((v : ℕ) → IsMet before v → IsMet now v) → At before w New → IsMet now w
    → steps_ahead links now + (length (get_or links w []) + 2) ≤ steps_ahead links before
one_fewer [] [] now w size sized met fresh gone = absurd (none-some New fresh)
one_fewer [] (s ∷ before) now w size sized met fresh gone = absurd (omega (arith, sized))
one_fewer (targets ∷ links) [] now w size sized met fresh gone = absurd (none-some New fresh)
one_fewer (targets ∷ links) (s ∷ before) [] w size sized met fresh gone = absurd (omega (arith, size))
one_fewer (targets ∷ links) (s ∷ before) (t ∷ now) zero size sized met fresh gone =
    let rest : steps_ahead links now ≤ steps_ahead links before = fewer_steps links before now (omega (arith, size))
    (λ v h. met (suc v) h) in
    let was : new_steps s (length targets) ≡ length targets + 2 = ap (λ x. new_steps x (length targets)) (same_Some s New fresh) in
    let is : new_steps t (length targets) ≡ 0 = none_more (length targets) t gone in
    omega (arith, rest, was, is)
one_fewer (targets ∷ links) (s ∷ before) (t ∷ now) (suc w) size sized met fresh gone =
    let rest : steps_ahead links now + (length (get_or links w []) + 2) ≤ steps_ahead links before =
    one_fewer links before now w (omega (arith, size)) (omega (arith, sized)) (λ v h. met (suc v) h) fresh gone in
    let here : new_steps t (length targets) ≤ new_steps s (length targets) = no_more (length targets) s t (λ h. met 0 h) in
    omega (arith, rest, here)
