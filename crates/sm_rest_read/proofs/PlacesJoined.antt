-- Where parts are joined, and the store by which documents are read.
use Rattle.std.proofs.Common.{◌≡◌, ◌<◌, ℕ, Bool, true, false, cond, List, refl, sym, subst}
use Rattle.std.specs.Prelude.{None, Option, Result, Some}
use Rattle.sm_shapes.specs.Fitting.{Test}
use Rattle.sm_shapes.specs.InOrder.{AreStored, DefaultsPass}
use Rattle.sm_shapes.specs.TableData.{TableData, shape_count}
use Rattle.sm_shapes.specs.declared.values.Value.{Value}
use Rattle.sm_codec.specs.CodecLaws.{IsCodec}
use Rattle.sm_codec.proofs.JsonLaws.{json_laws}
use Rattle.sm_rest.specs.service.HttpServable.{HttpServable}
use Rattle.sm_rest.specs.service.Servable.{Servable}
use Rattle.sm_rest.specs.service.ServiceData.{ServiceData}
use Rattle.sm_rest.specs.messages.Goals.{Goal, HasGoal}
use Rattle.sm_rest.specs.messages.HeadAnswers.{to_goal}
use Rattle.sm_rest.specs.messages.IsForm.{ServesGoal}
use Rattle.sm_rest.specs.messages.declared.refusal.MessageRefusal.{MessageRefusal}
use Rattle.sm_rest.proofs.messages.TreeBodies.{goal_structure}
use Rattle.sm_rest.specs.bind.BindingsView.{AreBindingsOf, BindingsData, body_at}
use Rattle.sm_rest.specs.bind.PartsData.{PartsData}
use Rattle.sm_rest.specs.bind.Roles.{Bound}
use Rattle.sm_rest.specs.bind_read.BoundGoals.{bound_at, goal_body}
use Rattle.sm_rest.specs.rest_heads.BodyParts.{part_of}
use Rattle.sm_rest.specs.rest_heads.declared.bodies.BodyPart.TheVariants.{Nothing}
use Rattle.sm_rest.specs.RestForm.{rest_form}
use Rattle.sm_rest.proofs.GoalsServed.{goal_parts, goal_targets}
use Rattle.sm_rest_read.specs.Begun.{IsUnread, bindings_codec}
use Rattle.sm_rest_read.specs.steps.Contents.{JoinsAt}
use Rattle.sm_rest_read.specs.steps.Places.{IsJoinable}
use Rattle.sm_rest_read.proofs.BodyShapes.{shape_within}

pub joinable : (s : ServiceData) (g : Goal) (d : BindingsData) (b : Bound) → Servable s → HttpServable s → AreBindingsOf s.table d
    → ServesGoal rest_form s g → b ≡ bound_at s g → IsJoinable b d
joinable s g d b servable http are serves e =
    let there = goal_structure s g servable serves.goal in
    subst (λ a. IsJoinable a d) (sym e) (record {
      shaped = servable.shaped;
      bindings = are;
      shape = there.0;
      structure = there.1;
      own = goal_parts s g http serves;
      targets = goal_targets s g http serves;
    })

pub stored_there : (t : TableData) (d : BindingsData) (added : List (List ℕ)) → AreBindingsOf t d → AreStored t.patterns added
    → AreStored d.documents.patterns added
stored_there t d added are stored = subst (λ ps. AreStored ps added) (sym are.extends.patterns) stored

pub pass_there : (t : TableData) (d : BindingsData) (added : List (List ℕ)) (test : Test) → AreBindingsOf t d → AreStored t.patterns added
    → DefaultsPass t test → DefaultsPass d.documents test
pass_there t d added test are stored pass = (are.built added test (record { stored = stored; defaults = pass })).defaults

pub lawful_there : (t : TableData) (d : BindingsData) (test : Test) → AreBindingsOf t d → DefaultsPass d.documents test
    → IsCodec (bindings_codec d test)
lawful_there t d test are pass = record { convention = json_laws true; table = are.shaped; defaults = pass }

-- what is said of a goal is said of where it stands, and back
pub stored_at : (s : ServiceData) (g : Goal) (b : Bound) (added : List (List ℕ)) → b ≡ bound_at s g → AreStored s.table.patterns added
    → AreStored b.table.patterns added
stored_at s g b added e stored = subst (λ a. AreStored a.table.patterns added) (sym e) stored

pub pass_at : (s : ServiceData) (g : Goal) (b : Bound) (test : Test) → b ≡ bound_at s g → DefaultsPass s.table test
    → DefaultsPass b.table test
pass_at s g b test e pass = subst (λ a. DefaultsPass a.table test) (sym e) pass

pub joins_there : (s : ServiceData) (g : Goal) (b : Bound) (test : Test) (parts : PartsData) (bytes : List ℕ)
    (r : Result Value MessageRefusal) → b ≡ bound_at s g → JoinsAt b test parts bytes r → JoinsAt (bound_at s g) test parts bytes r
joins_there s g b test parts bytes r e joins = subst (λ a. JoinsAt a test parts bytes r) e joins

pub body_there : (s : ServiceData) (g : Goal) (d : BindingsData) (b : Bound) (shape : ℕ) → b ≡ bound_at s g
    → goal_body s d g ≡ Some shape → body_at d b.side b.shape ≡ Some shape
body_there s g d b shape e at = subst (λ a. body_at d a.side a.shape ≡ Some shape) (sym e) at

pub shape_at : (s : ServiceData) (g : Goal) (b : Bound) → Servable s → HasGoal s g → b ≡ bound_at s g → b.shape < shape_count b.table
shape_at s g b servable has e = subst (λ a. a.shape < shape_count a.table) (sym e) (goal_structure s g servable has).0

-- the shape by which a body is fed that isn't empty
fed_full : (empty : Bool) (o : Option ℕ) (shape : ℕ) → cond empty None o ≡ Some shape → (empty ≡ false) × (o ≡ Some shape)
fed_full true o shape e = absurd cc
fed_full false o shape e = (refl, e)

pub fed_at : (s : ServiceData) (g : Goal) (d : BindingsData) (b : Bound) (empty : Bool) (shape : ℕ) → b ≡ bound_at s g
    → cond empty None (body_at d b.side b.shape) ≡ Some shape → (empty ≡ false) × (goal_body s d g ≡ Some shape)
fed_at s g d b empty shape e at =
    fed_full empty (goal_body s d g) shape (subst (λ a. cond empty None (body_at d a.side a.shape) ≡ Some shape) e at)

pub number_at : (s : ServiceData) (g : Goal) (d : BindingsData) (b : Bound) (empty : Bool) (shape : ℕ) → Servable s
    → AreBindingsOf s.table d → HasGoal s g → b ≡ bound_at s g → cond empty None (body_at d b.side b.shape) ≡ Some shape
    → shape < shape_count d.documents
number_at s g d b empty shape servable are has e at =
    let there = goal_structure s g servable has in
    shape_within (bound_at s g) d shape servable.shaped are there.0 there.1 (fed_at s g d b empty shape e at).1

pub unread_at : (s : ServiceData) (g : Goal) (b : Bound) → b ≡ bound_at s g → part_of b ≡ Nothing → IsUnread s (to_goal g)
unread_at s g b e nothing = subst (λ a. part_of a ≡ Nothing) e nothing
