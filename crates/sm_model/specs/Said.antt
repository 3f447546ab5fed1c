-- Statements as data, without memory: what a model file says (Smithy 2.0, "The Smithy model").
use Rattle.std.specs.Prelude.{ℕ, List}
use Rattle.sm_model.specs.Raw.{Raw}
use Rattle.sm_model.specs.declared.kind.Kind.{Kind}
use Rattle.sm_model.specs.declared.reference.Ref.{Ref}

-- a trait with its value
pub record TraitSaid : Type 0 where
  pub id : Ref
  pub value : Raw

-- a member of a shape
pub record MemberSaid : Type 0 where
  pub name : List ℕ
  pub target : Ref
  pub traits : List TraitSaid

-- a shape: its id, its type, its own members, what it mixes in, the body of an operation, service or resource, its traits
pub record ShapeSaid : Type 0 where
  pub id : List ℕ
  pub kind : Kind
  pub members : List MemberSaid
  pub mixins : List Ref
  pub properties : Raw
  pub traits : List TraitSaid

-- a statement
pub data Said : Type 0 where
  metadata_said : List ℕ → Raw → Said
  shape_said : ShapeSaid → Said
  apply_said : Ref → List TraitSaid → Said
