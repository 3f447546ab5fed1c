-- What may be targeted and referred to, as tests.
use Rattle.std.specs.Prelude.{◌&&◌, ℕ, Bool, true, not, List, Option, Some, None}
use Rattle.std.specs.FinMap as fin
use Rattle.std.specs.Str.{bytes_eq}
use Rattle.sm_model.specs.EventView.{EventTold}
use Rattle.sm_model.specs.Graphs.{Entry, GraphMaps}
use Rattle.sm_model.specs.GraphView.{maps_of}
use Rattle.sm_model.specs.PreludeShapes.{unit_id}
use Rattle.sm_model.specs.Reaching.{id_of_number}
use Rattle.sm_model.specs.declared.graph.Graph.{Graph}
use Rattle.sm_model.specs.declared.kind.Kind.{Kind}
use Rattle.sm_model.specs.declared.kind.Kind.TheVariants as model
use Rattle.sm_model.specs.declared.relation.Relation.{Relation}
use Rattle.sm_model.specs.declared.relation.Relation.TheVariants.{Member, Container, Target, Input, Output, Error, Operation, Resource}
use Rattle.sm_model.specs.declared.relation.Relation.TheVariants.{Identifier, Property}
use Rattle.sm_compile.specs.Kinds.{has_values}
use Rattle.sm_compile.specs.Looked.{target_under}
use Rattle.sm_rules.specs.TraitRows.{is_kind}
use Rattle.sm_rules.specs.Targets.{is_key, may_be_in_body, may_be_targeted}
use Rattle.sm_rules.specs.RuleEvents.{rule_event}
use Rattle.sm_rules.specs.declared.rule.Rule.TheVariants.{TargetKind}
use Rattle.sm_passes.specs.Putting.{IsWhere}

-- what isn't there may stand anywhere
abbrev pub may_stand_where : Kind → Bool → Bool → Option Entry → Bool
may_stand_where home key is_unit None = true
may_stand_where home key is_unit (Some e) = may_be_targeted home key is_unit e

abbrev pub may_be_where : Relation → Option Entry → Bool
may_be_where relation None = true
may_be_where relation (Some e) = may_be_in_body relation e

-- by its type, and whether it is an error
abbrev pub may_be_of : Relation → Kind → Bool → Bool
may_be_of Input kind error = is_kind model.Structure kind && not error
may_be_of Output kind error = is_kind model.Structure kind && not error
may_be_of Error kind error = is_kind model.Structure kind && error
may_be_of Operation kind error = is_kind model.Operation kind
may_be_of Resource kind error = is_kind model.Resource kind
may_be_of Identifier kind error = is_kind model.Text kind
may_be_of Property kind error = has_values kind
may_be_of Member kind error = true
may_be_of Container kind error = true
may_be_of Target kind error = true

-- what is told of a member of a shape of this type; a shape that is listed as one targets nothing
abbrev pub ToldTarget : GraphMaps → Kind → List ℕ → List ℕ → Option (List ℕ) → EventTold → Type 0
ToldTarget g home shape member None e = ⊥
ToldTarget g home shape member (Some target) e =
    IsWhere (not (may_stand_where home (is_key shape member) (bytes_eq target unit_id) (fin.get g.shapes target)))
    (rule_event TargetKind member target) e

abbrev pub ToldMember : Graph → Kind → ℕ → ℕ → EventTold → Type 0
ToldMember g home shape n e =
    ToldTarget (maps_of g) home (id_of_number g shape) (id_of_number g n) (target_under (maps_of g) (id_of_number g n)) e

-- what is told of a reference of a body
abbrev pub ToldReferred : GraphMaps → List ℕ → Relation → List ℕ → EventTold → Type 0
ToldReferred g from relation id e = IsWhere (not (may_be_where relation (fin.get g.shapes id))) (rule_event TargetKind from id) e
