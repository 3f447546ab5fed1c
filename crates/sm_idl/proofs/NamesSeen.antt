-- A set of the names that came, as one name comes.
use Rattle.std.proofs.Common.{◌≡◌, ◌⊎◌, ◌↔◌, inl, inr, ℕ, Bool, true, false, cond, List, [], ◌∷◌, ◌++◌, not, refl, sym, ap, ◌∙◌, bytes_eq}
use Rattle.std.proofs.Common.{true≢false}
use Rattle.std.specs.BTreeSet.{BTreeSet, contains_text}
use Rattle.std.specs.declared.alloc.Global.{Global}
use Rattle.std.specs.declared.string.String.{String}
use Rattle.sm_tree.proofs.Equal.{bytes_equal_is}
use Rattle.sm_model.specs.Formed.{StandsAmong}
use Rattle.sm_idl.specs.Words.{IsNew}
use Rattle.sm_idl.specs.steps.Names.{Remembers}

pub among_last : (k name : List ℕ) (before : List (List ℕ)) → StandsAmong k (before ++ name ∷ []) → StandsAmong k before ⊎ (k ≡ name)
among_last k name [] (inl e) = inr e
among_last k name [] (inr h) = absurd h
among_last k name (j ∷ js) (inl e) = inl (inl e)
among_last k name (j ∷ js) (inr h) = elim (among_last k name js h) [ inl m ↦ inl (inr m) | inr e ↦ inr e ]

among_more : (k name : List ℕ) (before : List (List ℕ)) → StandsAmong k before → StandsAmong k (before ++ name ∷ [])
among_more k name [] h = absurd h
among_more k name (j ∷ js) (inl e) = inl e
among_more k name (j ∷ js) (inr h) = inr (among_more k name js h)

last_among : (k name : List ℕ) (before : List (List ℕ)) → k ≡ name → StandsAmong k (before ++ name ∷ [])
last_among k name [] e = inl e
last_among k name (j ∷ js) e = inr (last_among k name js e)

cond_cases : (b c : Bool) → cond b true c ≡ true → (b ≡ true) ⊎ (c ≡ true)
cond_cases true c e = inl refl
cond_cases false c e = inr e

cond_second : (b c : Bool) → c ≡ true → cond b true c ≡ true
cond_second true c e = refl
cond_second false c e = e

is_true_not : (b : Bool) → not b ≡ true → b ≡ true → ⊥
is_true_not b e f = true≢false (sym e ∙ ap not f)

not_is_true : (b : Bool) → (b ≡ true → ⊥) → not b ≡ true
not_is_true true n = absurd (n refl)
not_is_true false n = refl

-- what is in the set after the name was put
remembers_more : (old new : BTreeSet (String Global)) (name : List ℕ) (before : List (List ℕ))
    → ((k : List ℕ) → contains_text new k ≡ cond (bytes_eq name k) true (contains_text old k)) → Remembers old before
    → Remembers new (before ++ name ∷ [])
remembers_more old new name before more h k = (
  (λ e. elim (cond_cases (bytes_eq name k) (contains_text old k) (sym (more k) ∙ e)) [
    | inl same ↦ last_among k name before (sym ((bytes_equal_is name k).0 same))
    | inr had ↦ among_more k name before ((h k).0 had)
  ]),
  (λ m. more k ∙ elim (among_last k name before m) [
    | inl among ↦ cond_second (bytes_eq name k) (contains_text old k) ((h k).1 among)
    | inr same ↦ ap (λ b. cond b true (contains_text old k)) ((bytes_equal_is name k).1 (sym same))
  ]),
)

-- whether a name is new is whether the set has it not
new_where_absent : (old : BTreeSet (String Global)) (name : List ℕ) (before : List (List ℕ)) (new : Bool)
    → new ≡ not (contains_text old name) → Remembers old before → (new ≡ true) ↔ IsNew name before
new_where_absent old name before new e h = (
  (λ t m. is_true_not (contains_text old name) (sym e ∙ t) ((h name).1 m)),
  (λ n. e ∙ not_is_true (contains_text old name) (λ t. n ((h name).0 t))),
)

-- a name is put, whose text is the key's
pub name_put : (old new : BTreeSet (String Global)) (name key : List ℕ) (before : List (List ℕ)) (fresh : Bool) → key ≡ name
    → fresh ≡ not (contains_text old key)
    → ((k : List ℕ) → contains_text new k ≡ cond (bytes_eq key k) true (contains_text old k)) → Remembers old before
    → ((fresh ≡ true) ↔ IsNew name before) × Remembers new (before ++ name ∷ [])
name_put old new name key before fresh same added more h = (
  new_where_absent old name before fresh (added ∙ ap (λ n. not (contains_text old n)) same) h,
  remembers_more old new name before (λ k. more k ∙ ap (λ n. cond (bytes_eq n k) true (contains_text old k)) same) h,
)
