-- Controls one after the other: whether one says a version, and what one says of a suffix.
use Rattle.std.proofs.Common.{◌≡◌, ◌↔◌, ◌<◌, ◌+◌, inl, inr, ℕ, Bool, true, if◌then◌else◌}
use Rattle.std.proofs.Common.{List, ◌∷◌, drop, length, IsTrue, slice_index_or, sym, ap, subst, ◌∙◌}
use Rattle.std.proofs.lemmas.List.{drop_more}
use Rattle.sm_tree.proofs.Equal.{bytes_equal_is}
use Rattle.sm_model.specs.RawView.{raw_view, raw_members_view}
use Rattle.sm_model.specs.declared.raw.RawNode.{RawNode}
use Rattle.sm_idl.specs.Bodies.{suffix_said, suffix_under}
use Rattle.sm_idl.specs.Idl.{IsVersion, HaveVersion}
use Rattle.sm_idl.specs.steps.ReaderView.{raw_pair}
use Rattle.sm_idl.proofs.PairsAhead.{differ}

module _ (xs : List (List ℕ × RawNode)) (i : ℕ) (x : List ℕ × RawNode) (inside : i < length xs) (is : x ≡ slice_index_or xs i x) where
  rest_at : drop i xs ≡ x ∷ drop (i + 1) xs
  rest_at = drop_more xs i x inside ∙ ap (λ y. y ∷ drop (i + 1) xs) (sym is)

  abbrev pub VersionLater : ℕ → Type 0
  VersionLater n = HaveVersion (raw_members_view (drop n xs)) ↔ HaveVersion (raw_members_view xs)

  pub version_found : IsVersion (raw_pair x) → VersionLater i → (b : Bool) → b ≡ true → IsTrue b ↔ HaveVersion (raw_members_view xs)
  version_found v told b e =
      ((λ _. told.0 (subst (λ l. HaveVersion (raw_members_view l)) (sym rest_at) (inl v))), (λ _. e))

  pub version_next : (IsVersion (raw_pair x) → ⊥) → VersionLater i → VersionLater (i + 1)
  version_next none told = (
    (λ h. told.0 (subst (λ l. HaveVersion (raw_members_view l)) (sym rest_at) (inr h))),
    (λ h. elim (subst (λ l. HaveVersion (raw_members_view l)) rest_at (told.1 h)) [ inl v ↦ absurd (none v) | inr k ↦ k ]),
  )

  module _ (name otherwise : List ℕ) where
    pub suffix_here : x.0 ≡ name → suffix_under name otherwise (raw_members_view (drop i xs)) ≡ suffix_under name otherwise
        (raw_members_view xs)
        → suffix_said otherwise (raw_view x.1) ≡ suffix_under name otherwise (raw_members_view xs)
    suffix_here e told =
        sym (ap (λ b. if b then suffix_said otherwise (raw_view x.1) else suffix_under name otherwise (raw_members_view (drop (i + 1) xs)))
        ((bytes_equal_is x.0 name).1 e)) ∙ sym (ap (λ l. suffix_under name otherwise (raw_members_view l)) rest_at) ∙ told

    pub suffix_next : (x.0 ≡ name → ⊥)
        → suffix_under name otherwise (raw_members_view (drop i xs)) ≡ suffix_under name otherwise (raw_members_view xs)
        → suffix_under name otherwise (raw_members_view (drop (i + 1) xs)) ≡ suffix_under name otherwise (raw_members_view xs)
    suffix_next n told =
        sym (ap (λ b. if b then suffix_said otherwise (raw_view x.1) else suffix_under name otherwise (raw_members_view (drop (i + 1) xs)))
        (differ x.0 name n)) ∙ sym (ap (λ l. suffix_under name otherwise (raw_members_view l)) rest_at) ∙ told
