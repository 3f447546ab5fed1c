-- A list that is read element by element: where an element, or what stands behind one, leads to or is refused.
use Rattle.std.proofs.Common.{◌≡◌, ℕ, List, [], ◌∷◌, ◌++◌, subst}
use Rattle.sm_select.specs.declared.refusal.SelectorRefusal.{SelectorRefusal}
use Rattle.sm_select.specs.steps.Places.{Place}
use Rattle.sm_select.specs.steps.Standing.{Passes}
use Rattle.sm_select.specs.steps.Reader.{Refuses}
use Rattle.sm_select.proofs.Passing.{passes_joined}
use Rattle.sm_select.proofs.Stopped.{refused_behind}

module _ {X : Type 0} (wanted : List X → Place) {first here : List ℕ} {xs : List X} (before : Passes (wanted []) first (wanted xs) here) where
  pub element_refused : (len n : ℕ) (e : SelectorRefusal) → n ≡ len → Refuses n (wanted xs) here e → Refuses len (wanted []) first e
  element_refused len n e same refused =
      refused_behind len (wanted []) (wanted xs) first here e before (subst (λ k. Refuses k (wanted xs) here e) same refused)

  module _ (behind : List X → Place) (x : X) {read : List ℕ} (now : Passes (wanted xs) here (behind (xs ++ x ∷ [])) read) where
    one_more : Passes (wanted []) first (behind (xs ++ x ∷ [])) read
    one_more = passes_joined (wanted []) (wanted xs) (behind (xs ++ x ∷ [])) first here read before now

    pub behind_passed : (q : Place) (after : List ℕ) → Passes (behind (xs ++ x ∷ [])) read q after → Passes (wanted []) first q after
    behind_passed q after passes = passes_joined (wanted []) (behind (xs ++ x ∷ [])) q first read after one_more passes

    pub behind_refused : (len n : ℕ) (e : SelectorRefusal) → n ≡ len → Refuses n (behind (xs ++ x ∷ [])) read e
        → Refuses len (wanted []) first e
    behind_refused len n e same refused =
        refused_behind len (wanted []) (behind (xs ++ x ∷ [])) first read e one_more
        (subst (λ k. Refuses k (behind (xs ++ x ∷ [])) read e) same refused)
