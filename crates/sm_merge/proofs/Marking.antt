-- Numbers are marked as finished, one after the other.
use Rattle.std.proofs.Common.{◌≡◌, inl, inr, ℕ, ◌<◌, Bool, List, [], ◌∷◌, ◌++◌, length, set, sym, subst, arith}
use Rattle.sm_merge.specs.declared.walk.Status.{Status}
use Rattle.sm_merge.specs.declared.walk.Status.TheVariants.{Finished}
use Rattle.sm_merge.specs.steps.Links.{At}
use Rattle.sm_merge.specs.steps.Walking.{AreMarked, StandsFrom}
use Rattle.sm_merge.proofs.Ats.{at_front, at_last, at_either_one, at_stored, at_was, at_set, at_kept}

pub one_marked : (numbers : List ℕ) (ring : Bool) (before now : List Status) (w : ℕ) → w < length now
    → AreMarked numbers ring before now → AreMarked (numbers ++ w ∷ []) ring before (set now w (Finished ring))
one_marked numbers ring before now w small h = record {
  marked = λ k v there. elim (at_either_one numbers w k v there) [
    | inl here ↦ at_kept now w (Finished ring) v (h.marked k v here)
    | inr (is, same) ↦ subst (λ x. At (set now w (Finished ring)) x (Finished ring)) (sym same) (at_stored now w (Finished ring) small)
  ];
  kept = λ v s there. elim (h.kept v s there) [
    | inl here ↦ elim (at_set now w (Finished ring) v s here) [
      | inl still ↦ inl still
      | inr same ↦ inr (last v same)
    ]
    | inr stands ↦ inr (more v stands)
  ];
  only = λ v s there. elim (at_was now w (Finished ring) v s there) [
    | inl (same, is) ↦ inr (is, last v same)
    | inr (other, was) ↦ elim (h.only v s was) [
      | inl old ↦ inl old
      | inr (is, stands) ↦ inr (is, more v stands)
    ]
  ];
}
  where
    last : (v : ℕ) → v ≡ w → StandsFrom (numbers ++ w ∷ []) 0 v
    last v same = record {
      place = length numbers;
      behind = omega arith;
      there = subst (λ x. At (numbers ++ w ∷ []) (length numbers) x) (sym same) (at_last numbers w);
    }

    more : (v : ℕ) → StandsFrom numbers 0 v → StandsFrom (numbers ++ w ∷ []) 0 v
    more v s = record { place = s.place; behind = s.behind; there = at_front numbers (w ∷ []) s.place v s.there }
