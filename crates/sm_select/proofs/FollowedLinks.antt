-- Marks that links add, one link after the other.
use Rattle.std.proofs.Common.{◌≡◌, ◌⊎◌, inl, inr, ℕ, ◌<◌, Bool, true, false, List, [], ◌∷◌, length, get_or, sym, ap, ◌∙◌, subst}
use Rattle.std.specs.Prelude.{◌↔◌, replicate, set}
use Rattle.std.proofs.lemmas.List.{get_or-set_other, get_or-set_same}
use Rattle.sm_model.specs.declared.link.Link.{Link}
use Rattle.sm_model.specs.declared.relation.Relation.{Relation}
use Rattle.sm_model.specs.Reaching.{IsMarked}
use Rattle.sm_model.proofs.Worklist.{none_marked}
use Rattle.sm_select.specs.Followed.{AreFollowed, Follows}
use Rattle.sm_select.specs.steps.Reaching.{AnyOf}
use Rattle.sm_select.proofs.StepLists.{any_in, in_any, same_or_not}

pub marked_more : (marks : List Bool) (e : ℕ) → e < length marks → (b : ℕ) → IsMarked (set marks e true) b ↔ (IsMarked marks b ⊎ (e ≡ b))
marked_more marks e lt b = elim (same_or_not b e) [
  | inl here ↦ (λ h. inr (sym here), λ h. ap (λ i. get_or (set marks e true) i false) here ∙ get_or-set_same marks e true false lt)
  | inr other ↦
      let same : get_or (set marks e true) b false ≡ get_or marks b false = get_or-set_other marks e b true false other in
      (λ h. inl (sym same ∙ h), λ h. elim h [ inl old ↦ same ∙ old | inr is ↦ absurd (other (sym is)) ])
]

pub follows_more : (relations : List Relation) (back : Bool) (starts marks now : List Bool) (l : Link) (rest all : List Link)
    → ((b : ℕ) → IsMarked now b ↔ (IsMarked marks b ⊎ Follows relations back starts l b))
    → ((b : ℕ) → (IsMarked marks b ⊎ AnyOf (λ k. Follows relations back starts k b) (l ∷ rest)) ↔ AnyOf
    (λ k. Follows relations back starts k b) all)
    → (b : ℕ) → (IsMarked now b ⊎ AnyOf (λ k. Follows relations back starts k b) rest) ↔ AnyOf (λ k. Follows relations back starts k b) all
follows_more relations back starts marks now l rest all adds so b = (
  λ h. (so b).0 (elim h [
    | inl n ↦ elim ((adds b).0 n) [ inl o ↦ inl o | inr f ↦ inr (inl f) ]
    | inr later ↦ inr (inr later)
  ]),
  λ h. elim ((so b).1 h) [
    | inl o ↦ inl ((adds b).1 (inl o))
    | inr f ↦ elim f [ inl here ↦ inl ((adds b).1 (inr here)) | inr later ↦ inr later ]
  ],
)

pub follows_begun : (relations : List Relation) (back : Bool) (starts : List Bool) (n : ℕ) (marks : List Bool) (all : List Link)
    → marks ≡ replicate n false
    → (b : ℕ) → (IsMarked marks b ⊎ AnyOf (λ k. Follows relations back starts k b) all) ↔ AnyOf (λ k. Follows relations back starts k b) all
follows_begun relations back starts n marks all none b = (
  λ h. elim h [ inl o ↦ absurd (none_marked n b (subst (λ xs. IsMarked xs b) none o)) | inr f ↦ f ],
  λ h. inr h,
)

pub follows_ended : (relations : List Relation) (back : Bool) (starts marks : List Bool) (all : List Link)
    → ((b : ℕ) → (IsMarked marks b ⊎ AnyOf (λ k. Follows relations back starts k b) []) ↔ AnyOf
    (λ k. Follows relations back starts k b) all)
    → AreFollowed all relations back starts marks
follows_ended relations back starts marks all so b = (
  λ h. any_in (λ k. Follows relations back starts k b) all ((so b).0 (inl h)),
  λ h. elim ((so b).1 (in_any (λ k. Follows relations back starts k b) all h.0 h.1 h.2)) [ inl m ↦ m | inr none ↦ absurd none ],
)
