-- The first of several examples of an operation with one input: the one that answers.
use Rattle.std.specs.Prelude.{◌≡◌, ◌<◌, ℕ, List, Some, slice_get}
use Rattle.sm_shapes.specs.Values.{Val}
use Rattle.sm_examples.specs.ExampleData.{ExampleData}

-- the example is one of the operation, with this input
pub record IsFor (o : ℕ) (v : Val) (e : ExampleData) : Type 0 where
  pub operation : e.operation ≡ o
  pub input : e.input ≡ v

-- and the first such one: it stands at a place before which none is
pub record IsFirstFor (es : List ExampleData) (o : ℕ) (v : Val) (e : ExampleData) : Type 0 where
  pub place : ℕ
  pub there : slice_get es place ≡ Some e
  pub is : IsFor o v e
  pub first : (k : ℕ) (other : ExampleData) → k < place → slice_get es k ≡ Some other → IsFor o v other → ⊥

abbrev pub NoneIsFor : List ExampleData → ℕ → Val → Type 0
NoneIsFor es o v = (k : ℕ) (e : ExampleData) → slice_get es k ≡ Some e → IsFor o v e → ⊥
