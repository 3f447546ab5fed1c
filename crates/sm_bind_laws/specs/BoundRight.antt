-- A structure on a side of a service whose operation HTTP bindings serve: what the rules on bindings say of its members.
use Rattle.std.specs.Prelude.{◌≡◌, ◌<◌, ℕ, true, false, List, Some}
use Rattle.std.specs.List.{Contains}
use Rattle.std.specs.Str.{str_to_ascii_lowercase}
use Rattle.sm_rules.specs.Bindings.{an_input}
use Rattle.sm_shapes.specs.Fitting.{Test}
use Rattle.sm_shapes.specs.InOrder.{DefaultsPass, Shaped}
use Rattle.sm_shapes.specs.Names.{AllDiffer}
use Rattle.sm_shapes.specs.TableData.{header, kind_at, label, name_at, required_at, shape_count}
use Rattle.sm_shapes.specs.declared.kinds.ShapeKind.TheVariants.{Structure}
use Rattle.sm_bind_read.specs.service.HttpServable.{HaveOwnParts, HaveOwnQueries, HaveTargets}
use Rattle.sm_bind_read.specs.service.WireMembers.{wire_members}
use Rattle.sm_bind_read.specs.bind.Roles.{Bound, binding_on, bound_members, is_among, reserved_names}

-- Its parts are one member's each, and its targets may be bound. Of an input the labels of these names are its required members', and the
-- names of its queries differ. No header has a name that means something else
pub record IsBoundRight (b : Bound) (test : Test) (labels : List (List ℕ)) : Type 0 where
  pub shaped : Shaped b.table
  pub defaults : DefaultsPass b.table test
  pub within : b.shape < shape_count b.table
  pub kind : kind_at b.table b.shape ≡ Structure
  pub parts : HaveOwnParts b.side (wire_members b.table b.shape)
  pub queries : b.side ≡ an_input → HaveOwnQueries (wire_members b.table b.shape)
  pub targets : HaveTargets b.side (wire_members b.table b.shape)
  pub names : AllDiffer labels
  pub labelled : (k : ℕ) → Contains (bound_members b) k → binding_on b k ≡ Some label
      → Contains labels (name_at b.table k) × (required_at b.table k ≡ true)
  pub headers : (k : ℕ) (name : List ℕ) → Contains (bound_members b) k → binding_on b k ≡ Some (header name)
      → is_among reserved_names (str_to_ascii_lowercase name) ≡ false
