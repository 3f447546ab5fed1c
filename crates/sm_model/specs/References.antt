-- References as a file writes them: Smithy 2.0 ("Shape ID", relative shape ids).
use Rattle.std.specs.Prelude.{◌⊎◌, ℕ, List, [], ◌∷◌, Bool, Option, Some, None}
use Rattle.sm_ids.specs.Identifier.{IsNamespace}
use Rattle.sm_ids.specs.IdText.{IsIdText}
pub use Rattle.sm_ids.specs.IdText.{IsRelativeId, IsShapeId}
use Rattle.sm_model.specs.declared.reference.Ref.{Ref}

-- an absolute reference, as the AST has them: a reference of no file
abbrev pub absolute : List ℕ → Bool → Ref
absolute text in_trait = record { text = text; namespace = None; uses = []; in_trait = in_trait }

abbrev pub AreIds : List (List ℕ) → Type 0
AreIds [] = Unit {0}
AreIds (t ∷ ts) = IsIdText t × AreIds ts

-- a reference without a namespace is an absolute id; one with a namespace may be relative too
abbrev pub IsWritten : Option (List ℕ) → List ℕ → Type 0
IsWritten None text = IsIdText text
IsWritten (Some namespace) text = IsNamespace namespace × (IsIdText text ⊎ IsRelativeId text)

pub record IsReference (r : Ref) : Type 0 where
  pub text : IsWritten r.namespace r.text
  pub uses : AreIds r.uses

abbrev pub AreReferences : List Ref → Type 0
AreReferences [] = Unit {0}
AreReferences (r ∷ rs) = IsReference r × AreReferences rs
