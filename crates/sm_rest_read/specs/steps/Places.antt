-- Where parts may be joined.
use Rattle.std.specs.Prelude.{◌≡◌, ◌<◌}
use Rattle.sm_shapes.specs.InOrder.{Shaped}
use Rattle.sm_shapes.specs.TableData.{kind_at, shape_count}
use Rattle.sm_shapes.specs.declared.kinds.ShapeKind.TheVariants.{Structure}
use Rattle.sm_rest.specs.service.HttpServable.{HaveOwnParts, HaveTargets}
use Rattle.sm_rest.specs.service.WireMembers.{wire_members}
use Rattle.sm_rest.specs.bind.BindingsView.{AreBindingsOf, BindingsData}
use Rattle.sm_rest.specs.bind.Roles.{Bound}

-- a structure of a table in order, of which these are the bindings, where each part of a message is one member's
pub record IsJoinable (b : Bound) (d : BindingsData) : Type 0 where
  pub shaped : Shaped b.table
  pub bindings : AreBindingsOf b.table d
  pub shape : b.shape < shape_count b.table
  pub structure : kind_at b.table b.shape ≡ Structure
  pub own : HaveOwnParts b.side (wire_members b.table b.shape)
  pub targets : HaveTargets b.side (wire_members b.table b.shape)
