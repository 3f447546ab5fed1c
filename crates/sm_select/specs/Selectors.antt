-- Selectors as data, without memory (Smithy 2.0, "Selectors").
use Rattle.std.specs.Prelude.{ℕ, Bool, List, [], ◌∷◌, Option}
use Rattle.sm_model.specs.declared.kind.Kind.{Kind}
use Rattle.sm_model.specs.declared.relation.Relation.{Relation}
use Rattle.sm_select.specs.declared.selector.SelectorOp.{SelectorOp}

-- what an attribute looks at: parts of the id, or a trait's value and the fields within it
pub data Attribute : Type 0 where
  id_of : Attribute
  namespace_of : Attribute
  name_of : Attribute
  member_of : Attribute
  trait_of : List ℕ → List (List ℕ) → Attribute

mutual
  pub data Step : Type 0 where
    any_shape : Step
    -- a type, or members
    of_kind : Option Kind → Step
    has : Attribute → Step
    -- compared with these texts, whose case doesn't count or does
    compares : Attribute → SelectorOp → List (List ℕ) → Bool → Step
    forward : Step
    back : Step
    walk : Step
    along : List Relation → Step
    picked_by : Alternatives → Step
    picks_none : Steps → Step
    picks_some : Alternatives → Step

  pub data Steps : Type 0 where
    no_steps : Steps
    then : Step → Steps → Steps

  pub data Alternatives : Type 0 where
    no_selectors : Alternatives
    or_by : Steps → Alternatives → Alternatives

-- lists of steps and of selectors as data
abbrev pub steps_of : List Step → Steps
steps_of [] = no_steps
steps_of (s ∷ ss) = then s (steps_of ss)

abbrev pub alternatives_of : List Steps → Alternatives
alternatives_of [] = no_selectors
alternatives_of (s ∷ ss) = or_by s (alternatives_of ss)
