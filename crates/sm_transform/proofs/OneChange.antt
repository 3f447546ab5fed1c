-- A change makes one graph.
use Rattle.std.proofs.Common.{◌≡◌, ℕ, Bool, true, false, List, refl, sym, subst, ◌∙◌}
use Rattle.std.specs.Prelude.{◌↔◌}
use Rattle.sm_model.specs.Graphs.{Entry, GraphMaps}
use Rattle.sm_transform.specs.Changed.{IsMadeOf, exclude, include, rename, unless}
use Rattle.sm_transform.specs.IdChanges.{entry_after}
use Rattle.sm_transform.specs.Laws.{OneChanged}
use Rattle.sm_transform.proofs.FoundEntries.{same_told}

one_made : (Stays : List ℕ → Type 0) (moved : List ℕ → List ℕ) (after : Entry → Entry) (g h k : GraphMaps)
    → IsMadeOf Stays moved after g h → IsMadeOf Stays moved after g k → Path GraphMaps h k
one_made Stays moved after g h k is also =
    let shapes = same_told h.shapes k.shapes (λ id e. (
      λ x. (also.shapes id e).1 ((is.shapes id e).0 x),
      λ x. (is.shapes id e).1 ((also.shapes id e).0 x),
    )) in
    let metadata = is.metadata ∙ sym also.metadata in
    λ i. record { shapes = shapes i; metadata = metadata i }

-- tests of one thing are one
same_test : (a b : Bool) → ((a ≡ true) ↔ (b ≡ true)) → a ≡ b
same_test true b h = sym (h.0 refl)
same_test false true h = h.1 refl
same_test false false h = refl

one_test : (a b : List ℕ → Bool) (P : List ℕ → Type 0) → ((id : List ℕ) → (a id ≡ true) ↔ P id)
    → ((id : List ℕ) → (b id ≡ true) ↔ P id) → a ≡ b
one_test a b P told also i id =
    same_test (a id) (b id) (λ h. (also id).1 ((told id).0 h), λ h. (told id).1 ((also id).0 h)) i

pub one_changed : OneChanged
one_changed g h k (include steps) is also = one_made _ (λ id. id) (λ e. e) g h k is also
one_changed g h k (exclude steps) is also =
    let same = one_test also.out is.out _ also.told is.told in
    one_made (λ id. is.out id ≡ false) (λ id. id) (entry_after (unless is.out)) g h k is.made
    (subst (λ (out : List ℕ → Bool). IsMadeOf (λ id. out id ≡ false) (λ id. id) (entry_after (unless out)) g k) same also.made)
one_changed g h k (rename from to) is also = one_made _ _ _ g h k is also
