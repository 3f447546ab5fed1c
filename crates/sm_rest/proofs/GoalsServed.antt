-- What HTTP bindings ask of a service, of the goals of an operation that restJson1 serves.
use Rattle.std.proofs.Common.{◌≡◌, ℕ, refl}
use Rattle.std.specs.Prelude.{List, None, Option, Some}
use Rattle.std.proofs.lemmas.List.Elements.{Contains-get_or}
use Rattle.sm_shapes.specs.TableData.{TableData}
use Rattle.sm_compile.specs.declared.compiled.Served.{Served}
use Rattle.sm_compile.specs.declared.compiled.Served.TheVariants.{Yes, Unserved}
use Rattle.sm_bind_read.specs.service.HttpServable.{AreBoundRight, HaveOwnParts, HaveTargets, HttpServable, IsHttpServable}
use Rattle.sm_bind_read.specs.service.ServiceData.{HttpData, OperationData, ServiceData}
use Rattle.sm_bind_read.specs.service.WireMembers.{wire_members}
use Rattle.sm_bind_read.specs.messages.Goals.{Goal, HasRole, Role, error_at, goal_shape, no_error, no_operation, operation_at, role_shape}
use Rattle.sm_bind_read.specs.messages.Goals.{the_error, the_input, the_output}
use Rattle.sm_bind_read.specs.messages.HeadAnswers.{path_unserved}
use Rattle.sm_bind_read.specs.messages.IsForm.{ServesGoal, ServesOperation}
use Rattle.sm_bind_read.specs.BoundGoals.{side_of}
use Rattle.sm_bind_bodies.specs.bind_write.Restrictions.{restriction, restriction_by}
use Rattle.sm_rest.specs.RestForm.{rest_form}

-- its model serves it, and nothing restricts it
neither : (served : Served) (path : Option (List ℕ)) → path_unserved served path ≡ None → (served ≡ Yes) × (path ≡ None)
neither Yes path e = (refl, e)
neither (Unserved told) path e = absurd cc

some_rule : (http : Option HttpData) (t : TableData) (o : OperationData) → restriction_by http t o ≡ None → (h : HttpData) × (http ≡ Some h)
some_rule None t o e = absurd cc
some_rule (Some h) t o e = (h, refl)

-- it has `http`, and its members are bound as that asks
pub record IsBoundOperation (s : ServiceData) (o : ℕ) : Type 0 where
  pub rule : HttpData
  pub has_rule : (operation_at s o).http ≡ Some rule
  pub http : IsHttpServable s.table (operation_at s o) rule
  pub targets : AreBoundRight s.table (operation_at s o)

pub bound_operation : (s : ServiceData) (o : ℕ) → HttpServable s → ServesOperation rest_form s o → IsBoundOperation s o
bound_operation s o asks serves =
    let both = neither (operation_at s o).served (restriction s o) serves.served in
    let found = some_rule (operation_at s o).http s.table (operation_at s o) both.1 in
    let is = asks (operation_at s o) found.0 (Contains-get_or s.operations o no_operation serves.within) found.1 in
    record { rule = found.0; has_rule = found.1; http = is; targets = is.targets both.0 }

role_targets : (s : ServiceData) (o : ℕ) (r : Role) → HasRole (operation_at s o) r → AreBoundRight s.table (operation_at s o)
    → HaveTargets (side_of r) (wire_members s.table (role_shape (operation_at s o) r))
role_targets s o the_input has is = is.input
role_targets s o the_output has is = is.output
role_targets s o (the_error e) has is =
    is.errors (error_at (operation_at s o) e) (Contains-get_or (operation_at s o).errors e no_error has)

role_parts : (s : ServiceData) (o : ℕ) (r : Role) (h : HttpData) → HasRole (operation_at s o) r
    → IsHttpServable s.table (operation_at s o) h → HaveOwnParts (side_of r) (wire_members s.table (role_shape (operation_at s o) r))
role_parts s o the_input h has is = is.input
role_parts s o the_output h has is = is.output
role_parts s o (the_error e) h has is =
    is.errors (error_at (operation_at s o) e) (Contains-get_or (operation_at s o).errors e no_error has)

-- each binding of a goal has a target that it may have
pub goal_targets : (s : ServiceData) (g : Goal) → HttpServable s → ServesGoal rest_form s g
    → HaveTargets (side_of g.role) (wire_members s.table (goal_shape s g))
goal_targets s g asks serves =
    role_targets s g.operation g.role serves.goal.1 (bound_operation s g.operation asks serves.operation).targets

-- and each part of a message is one member's
pub goal_parts : (s : ServiceData) (g : Goal) → HttpServable s → ServesGoal rest_form s g
    → HaveOwnParts (side_of g.role) (wire_members s.table (goal_shape s g))
goal_parts s g asks serves =
    let bound = bound_operation s g.operation asks serves.operation in role_parts s g.operation g.role bound.rule serves.goal.1 bound.http
