-- Statements of shapes that a graph may be made of, but for their traits.
use Rattle.std.specs.Prelude.{List, [], ◌∷◌}
use Rattle.sm_ids.specs.Identifier.{IsIdentifier}
use Rattle.sm_ids.specs.IdText.{IsIdText}
use Rattle.sm_model.specs.Formed.{HaveForm}
use Rattle.sm_model.specs.Given.{HasShapeBody, given_names}
use Rattle.sm_model.specs.Graphs.{MemberGiven, ShapeGiven}
use Rattle.sm_model.specs.Kinds.{member_form}
use Rattle.sm_model.specs.References.{IsShapeId}
use Rattle.sm_merge.specs.Stated.{Stated, apply_stated, metadata_stated, shape_stated}

abbrev pub AreNamedTargets : List MemberGiven → Type 0
AreNamedTargets [] = Unit {0}
AreNamedTargets (m ∷ ms) = IsIdentifier m.name × IsIdText m.target × AreNamedTargets ms

pub record IsSoundShape (s : ShapeGiven) : Type 0 where
  pub id : IsShapeId s.id
  pub names : HaveForm (member_form s.kind) (given_names s.members)
  pub members : AreNamedTargets s.members
  pub body : HasShapeBody s.kind s.properties

abbrev pub IsSoundStated : Stated → Type 0
IsSoundStated (metadata_stated key value) = Unit {0}
IsSoundStated (shape_stated s) = IsSoundShape s.shape
IsSoundStated (apply_stated id ts) = Unit {0}

abbrev pub AreSoundStated : List Stated → Type 0
AreSoundStated [] = Unit {0}
AreSoundStated (s ∷ ss) = IsSoundStated s × AreSoundStated ss
