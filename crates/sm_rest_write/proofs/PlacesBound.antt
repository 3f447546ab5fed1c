-- What holds of the value of a goal holds where it stands.
use Rattle.std.proofs.Common.{◌≡◌, ◌<◌, [], sym, subst}
use Rattle.sm_shapes.specs.Fitting.{Fits, any_text}
use Rattle.sm_shapes.specs.InOrder.{Shaped}
use Rattle.sm_shapes.specs.Places.{root_place}
use Rattle.sm_shapes.specs.TableData.{kind_at, shape_count}
use Rattle.sm_shapes.specs.Values.{Val}
use Rattle.sm_shapes.specs.declared.kinds.ShapeKind.TheVariants.{Structure}
use Rattle.sm_rest.specs.service.Servable.{Servable}
use Rattle.sm_rest.specs.service.ServiceData.{ServiceData}
use Rattle.sm_rest.specs.messages.Goals.{Goal, HasGoal}
use Rattle.sm_rest.specs.messages.TreeBodies.{goal_place}
use Rattle.sm_rest.proofs.messages.TreeBodies.{goal_structure}
use Rattle.sm_rest.specs.bind.Roles.{Bound}
use Rattle.sm_rest.specs.bind_read.BoundGoals.{bound_at}
use Rattle.sm_rest.specs.bind_write.CarriedParts.{uncarried_parts}

pub shaped_there : (s : ServiceData) (g : Goal) (b : Bound) → b ≡ bound_at s g → Servable s → Shaped b.table
shaped_there s g b e servable = subst (λ a. Shaped a.table) (sym e) servable.shaped

pub shape_there : (s : ServiceData) (g : Goal) (b : Bound) → b ≡ bound_at s g → Servable s → HasGoal s g → b.shape < shape_count b.table
shape_there s g b e servable h = subst (λ a. a.shape < shape_count a.table) (sym e) (goal_structure s g servable h).0

pub structure_there : (s : ServiceData) (g : Goal) (b : Bound) → b ≡ bound_at s g → Servable s → HasGoal s g
    → kind_at b.table b.shape ≡ Structure
structure_there s g b e servable h = subst (λ a. kind_at a.table a.shape ≡ Structure) (sym e) (goal_structure s g servable h).1

pub fits_there : (s : ServiceData) (g : Goal) (b : Bound) (v : Val) → b ≡ bound_at s g → Fits s.table any_text (goal_place s g) v
    → Fits b.table any_text (root_place b.shape) v
fits_there s g b v e fits = subst (λ a. Fits a.table any_text (root_place a.shape) v) (sym e) fits

pub carried_there : (s : ServiceData) (g : Goal) (b : Bound) (v : Val) → b ≡ bound_at s g → uncarried_parts (bound_at s g) v ≡ []
    → uncarried_parts b v ≡ []
carried_there s g b v e carried = subst (λ a. uncarried_parts a v ≡ []) (sym e) carried
