-- Examples have one first of an operation with an input, or none.
use Rattle.std.proofs.Common.{◌≡◌, ◌⊎◌, inl, inr, ℕ, zero, suc, ◌<◌, Bool, true, false, List, [], ◌∷◌, Some, refl, sym, ap, ◌∙◌, subst, arith}
use Rattle.std.specs.Prelude.{slice_get}
use Rattle.std.proofs.lemmas.Bool.{cases_eq, cases_lt}
use Rattle.std.proofs.lemmas.Option.{same_Some}
use Rattle.sm_shapes.specs.Values.{Val, same_val}
use Rattle.sm_shapes.proofs.SameVals.{same_is, same_itself}
use Rattle.sm_examples.specs.ExampleData.{ExampleData}
use Rattle.sm_examples.specs.FirstExamples.{IsFirstFor, IsFor, NoneIsFor}

-- two firsts are one
pub first_once : (es : List ExampleData) (o : ℕ) (v : Val) (a b : ExampleData) → IsFirstFor es o v a → IsFirstFor es o v b → a ≡ b
first_once es o v a b x y = elim (cases_lt x.place y.place) [
  | inl less ↦ absurd (y.first x.place a less x.there x.is)
  | inr ge ↦ elim (cases_lt y.place x.place) [
    | inl less ↦ absurd (x.first y.place b less y.there y.is)
    | inr le ↦
        let same : x.place ≡ y.place = omega (arith, ge, le) in
        same_Some a b (sym x.there ∙ ap (slice_get es) same ∙ y.there)
  ]
]

-- where none is, there is no first
pub none_first : (es : List ExampleData) (o : ℕ) (v : Val) (e : ExampleData) → NoneIsFor es o v → IsFirstFor es o v e → ⊥
none_first es o v e none x = none x.place e x.there x.is

-- an example is one, or it isn't
is_or_not : (o : ℕ) (v : Val) (e : ExampleData) → IsFor o v e ⊎ (IsFor o v e → ⊥)
is_or_not o v e = elim (cases_eq e.operation o) [
  | inr other ↦ inr (λ is. other is.operation)
  | inl same ↦ by (same_val e.input v) refl same
]
  where
    apart : (b : Bool) → b ≡ true → b ≡ false → ⊥
    apart true h g = cc
    apart false h g = cc

    by : (b : Bool) → same_val e.input v ≡ b → e.operation ≡ o → IsFor o v e ⊎ (IsFor o v e → ⊥)
    by true is same = inl (record { operation = same; input = same_is e.input v is })
    by false is same = inr (λ x.
        apart (same_val e.input v) (subst (λ w. same_val e.input w ≡ true) x.input (same_itself e.input)) is)

-- so there is a first, or none
pub first_or_none : (es : List ExampleData) (o : ℕ) (v : Val) → ((e : ExampleData) × IsFirstFor es o v e) ⊎ NoneIsFor es o v
first_or_none [] o v = inr (λ k e there is. absurd cc)
first_or_none (e ∷ es) o v = elim (is_or_not o v e) [
  | inl is ↦ inl (e, record { place = 0; there = refl; is = is; first = λ k other lt. absurd (omega (arith, lt)) })
  | inr isnt ↦ elim (first_or_none es o v) [
    | inr none ↦ inr (none_more none isnt)
    | inl first ↦ inl (
      first.0,
      record {
        place = suc first.1.place;
        there = first.1.there;
        is = first.1.is;
        first = none_before first.1.place first.1.first isnt;
      },
    )
  ]
]
  where
    none_more : NoneIsFor es o v → (IsFor o v e → ⊥) → NoneIsFor (e ∷ es) o v
    none_more none isnt zero other there is = isnt (subst (IsFor o v) (sym (same_Some e other there)) is)
    none_more none isnt (suc k) other there is = none k other there is

    none_before : (place : ℕ)
        → ((k : ℕ) (other : ExampleData) → k < place → slice_get es k ≡ Some other → IsFor o v other → ⊥) → (IsFor o v e → ⊥)
        → (k : ℕ) (other : ExampleData) → k < suc place → slice_get (e ∷ es) k ≡ Some other → IsFor o v other → ⊥
    none_before place none isnt zero other lt there is = isnt (subst (IsFor o v) (sym (same_Some e other there)) is)
    none_before place none isnt (suc k) other lt there is = none k other (omega (arith, lt)) there is
