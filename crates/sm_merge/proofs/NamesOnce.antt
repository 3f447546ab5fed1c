-- Names each of which stands once: they differ, and where they repeat what begins them they are that beginning.
use Rattle.std.proofs.Common.{◌≡◌, ◌⊎◌, inl, inr, ℕ, Bool, true, false, cond, List, [], ◌∷◌, ◌++◌, filter, refl, sym, ap, subst, ◌∙◌}
use Rattle.std.proofs.Common.{bytes_eq}
use Rattle.std.specs.Prelude.{◌&&◌, not}
use Rattle.std.proofs.lemmas.Bool.{cases_Bool, true≢false}
use Rattle.std.proofs.lemmas.Slice.Eq.{bytes_eq-Decides}
use Rattle.sm_model.specs.Formed.{StandsAmong, DifferInNames}
use Rattle.sm_merge.specs.Mixins.{each_once}

abbrev Names : Type 0
Names = List (List ℕ)

-- names in front, and names behind
pub stands_either : (k : List ℕ) (ks js : Names) → StandsAmong k (ks ++ js) → StandsAmong k ks ⊎ StandsAmong k js
stands_either k [] js h = inr h
stands_either k (i ∷ ks) js (inl same) = inl (inl same)
stands_either k (i ∷ ks) js (inr h) = elim (stands_either k ks js h) [
  | inl before ↦ inl (inr before)
  | inr behind ↦ inr behind
]

pub stands_behind : (k : List ℕ) (ks js : Names) → StandsAmong k js → StandsAmong k (ks ++ js)
stands_behind k [] js h = h
stands_behind k (i ∷ ks) js h = inr (stands_behind k ks js h)

pub stands_before : (k : List ℕ) (ks js : Names) → StandsAmong k ks → StandsAmong k (ks ++ js)
stands_before k [] js h = absurd h
stands_before k (i ∷ ks) js (inl same) = inl same
stands_before k (i ∷ ks) js (inr h) = inr (stands_before k ks js h)

pub differ_joined : (ks js : Names) → DifferInNames ks → DifferInNames js
    → ((k : List ℕ) → StandsAmong k ks → StandsAmong k js → ⊥) → DifferInNames (ks ++ js)
differ_joined [] js d c apart = c
differ_joined (k ∷ ks) js d c apart = (
  λ s. elim (stands_either k ks js s) [
    | inl before ↦ d.0 before
    | inr behind ↦ apart k (inl refl) behind
  ],
  differ_joined ks js d.1 c (λ i before behind. apart i (inr before) behind),
)

pub names_apart : (ks js : Names) → DifferInNames (ks ++ js) → (k : List ℕ) → StandsAmong k ks → StandsAmong k js → ⊥
names_apart [] js d k before behind = before
names_apart (i ∷ ks) js d k (inl same) behind =
    d.0 (subst (λ j. StandsAmong j (ks ++ js)) same (stands_behind k ks js behind))
names_apart (i ∷ ks) js d k (inr before) behind = names_apart ks js d.1 k before behind

abbrev other_than : List ℕ → List ℕ → Bool
other_than name other = not (bytes_eq name other)

itself : (name : List ℕ) → other_than name name ≡ false
itself name = ap not ((bytes_eq-Decides name name).1 refl)

-- what passes a test
filtered : (p : List ℕ → Bool) (k : List ℕ) (ks : Names) → StandsAmong k (filter p ks) → (p k ≡ true) × StandsAmong k ks
filtered p k [] h = absurd h
filtered p k (j ∷ js) h = by_test (λ rest. filtered p k js rest) (p j) refl h
  where
    by_test : (StandsAmong k (filter p js) → (p k ≡ true) × StandsAmong k js) → (b : Bool) → p j ≡ b
        → StandsAmong k (cond b (j ∷ filter p js) (filter p js)) → (p k ≡ true) × StandsAmong k (j ∷ js)
    by_test later true is (inl same) = (subst (λ i. p i ≡ true) (sym same) is, inl same)
    by_test later true is (inr h) = let rest = later h in (rest.0, inr rest.1)
    by_test later false is h = let rest = later h in (rest.0, inr rest.1)

differ_filtered : (p : List ℕ → Bool) (ks : Names) → DifferInNames ks → DifferInNames (filter p ks)
differ_filtered p [] d = tt
differ_filtered p (k ∷ ks) d = by_test (differ_filtered p ks d.1) (p k)
  where
    by_test : DifferInNames (filter p ks) → (b : Bool) → DifferInNames (cond b (k ∷ filter p ks) (filter p ks))
    by_test rest true = (λ s. d.0 (filtered p k ks s).1, rest)
    by_test rest false = rest

-- each once: they differ, and are among them all
pub once_differ : (ks : Names) → DifferInNames (each_once ks)
once_differ [] = tt
once_differ (k ∷ ks) = (
  λ s. true≢false (sym (filtered (other_than k) k (each_once ks) s).0 ∙ itself k),
  differ_filtered (other_than k) (each_once ks) (once_differ ks),
)

pub once_among : (ks : Names) (k : List ℕ) → StandsAmong k (each_once ks) → StandsAmong k ks
once_among [] k h = h
once_among (j ∷ js) k (inl same) = inl same
once_among (j ∷ js) k (inr h) = inr (once_among js k (filtered (other_than j) k (each_once js) h).1)

-- what two tests keep, one test keeps that asks both
abbrev both : (p q : List ℕ → Bool) → List ℕ → Bool
both p q k = q k && p k

both_tests : (p q : List ℕ → Bool) (ks : Names) → filter p (filter q ks) ≡ filter (both p q) ks
both_tests p q [] = refl
both_tests p q (k ∷ ks) = by_test (both_tests p q ks) (q k)
  where
    by_test : filter p (filter q ks) ≡ filter (both p q) ks → (b : Bool)
        → filter p (cond b (k ∷ filter q ks) (filter q ks)) ≡ cond (b && p k) (k ∷ filter (both p q) ks) (filter (both p q) ks)
    by_test rest true = ap (λ l. cond (p k) (k ∷ l) l) rest
    by_test rest false = rest

none_passes : (p : List ℕ → Bool) (ks : Names) → ((k : List ℕ) → StandsAmong k ks → p k ≡ false) → filter p ks ≡ []
none_passes p [] h = refl
none_passes p (k ∷ ks) h =
    ap (λ b. cond b (k ∷ filter p ks) (filter p ks)) (h k (inl refl)) ∙ none_passes p ks (λ j s. h j (inr s))

-- the rest is among what begins them, or doesn't pass
begun_by : (p : List ℕ → Bool) (ks more : Names) → DifferInNames ks → ((k : List ℕ) → StandsAmong k ks → p k ≡ true)
    → ((k : List ℕ) → StandsAmong k more → (p k ≡ false) ⊎ StandsAmong k ks) → filter p (each_once (ks ++ more)) ≡ ks
begun_by p [] more d keeps rest = none_passes p (each_once more) (λ k s. elim (rest k (once_among more k s)) [
  | inl out ↦ out
  | inr never ↦ absurd never
])
begun_by p (k ∷ ks) more d keeps rest =
    let others = filter (other_than k) (each_once (ks ++ more)) in
    ap (λ b. cond b (k ∷ filter p others) (filter p others)) (keeps k (inl refl))
    ∙ ap (λ l. k ∷ l) (both_tests p (other_than k) (each_once (ks ++ more)) ∙ begun_by (both p (other_than k)) ks more d.1 still out)
  where
    still : (j : List ℕ) → StandsAmong j ks → both p (other_than k) j ≡ true
    still j s = elim (cases_Bool (bytes_eq k j)) [
      | inl same ↦ absurd (d.0 (subst (λ i. StandsAmong i ks) (sym ((bytes_eq-Decides k j).0 same)) s))
      | inr apart ↦ ap (λ b. not b && p j) apart ∙ keeps j (inr s)
    ]

    is_out : (j : List ℕ) → k ≡ j → both p (other_than k) j ≡ false
    is_out j same = ap (λ b. not b && p j) ((bytes_eq-Decides k j).1 same)

    with_none : (b c : Bool) → c ≡ false → (b && c) ≡ false
    with_none true c h = h
    with_none false c h = refl

    out : (j : List ℕ) → StandsAmong j more → (both p (other_than k) j ≡ false) ⊎ StandsAmong j ks
    out j s = elim (rest j s) [
      | inl not_kept ↦ inl (with_none (other_than k j) (p j) not_kept)
      | inr (inl same) ↦ inl (is_out j (sym same))
      | inr (inr later) ↦ inr later
    ]

all_pass : (ks : Names) → filter (λ k. true) ks ≡ ks
all_pass [] = refl
all_pass (k ∷ ks) = ap (λ l. k ∷ l) (all_pass ks)

pub once_again : (ks more : Names) → DifferInNames ks → ((k : List ℕ) → StandsAmong k more → StandsAmong k ks) → each_once (ks ++ more) ≡ ks
once_again ks more d rest =
    sym (all_pass (each_once (ks ++ more))) ∙ begun_by (λ k. true) ks more d (λ k s. refl) (λ k s. inr (rest k s))
