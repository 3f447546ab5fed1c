-- The structure of which a value is, by its first field; and that a value without fields is carried.
use Rattle.std.proofs.Common.{◌≡◌, ◌↔◌, ℕ, ◌<◌, Bool, true, false, List, [], ◌∷◌, ◌++◌, Option, None, Some, refl, subst, sym, ap, ◌∙◌}
use Rattle.std.specs.Prelude.{IsTrue, MatchOption}
use Rattle.sm_shapes.specs.Fitting.{Fits, Test, any_text}
use Rattle.sm_shapes.specs.InOrder.{AreMembersOf, Shaped}
use Rattle.sm_shapes.specs.Places.{Place, kind_of, root_place}
use Rattle.sm_shapes.specs.TableData.{TableData, home_at, member_count}
use Rattle.sm_shapes.specs.Values.{FieldVals, Val, field, no_fields, structure_val}
use Rattle.sm_shapes.specs.declared.kinds.ShapeKind.TheVariants.{Structure}
use Rattle.sm_codec.specs.Convention.{Convention}
use Rattle.sm_codec.specs.Written.{uncarried}
use Rattle.sm_http.specs.declared.message.MessageSide.{MessageSide}
use Rattle.sm_http.specs.declared.message.MessageSide.TheVariants.{Request}
use Rattle.sm_service.specs.Servable.{IsStructureIn, Servable}
use Rattle.sm_service.specs.ServiceData.{ServiceData}
use Rattle.sm_messages.specs.Carrying.{IsValueOf, first_member}
use Rattle.sm_messages.specs.Goals.{Role, goal_of, goal_shape, is_input, the_error, the_input, the_output}
use Rattle.sm_messages.specs.TreeBodies.{fields_in}
use Rattle.sm_messages.proofs.TreeBodies.{fields_back, goal_structure}

member_among : (t : TableData) (s : ℕ) (skipped : List ℕ) (k : ℕ) (rest : List ℕ) → AreMembersOf t s (skipped ++ k ∷ rest)
    → (k < member_count t) × (home_at t k ≡ s)
member_among t s [] k rest h = (h.0, h.1)
member_among t s (j ∷ js) k rest h = member_among t s js k rest h.2

same_member : (j k : ℕ) → Path (Option ℕ) (Some j) (Some k) → j ≡ k
same_member j k e = cc

fields_home : (t : TableData) (shape k : ℕ) (fs : FieldVals) → Shaped t → IsStructureIn t shape
    → Fits t any_text (root_place shape) (structure_val fs) → first_member fs ≡ Some k → (k < member_count t) × (home_at t k ≡ shape)
fields_home t shape k no_fields shaped at fits e = absurd cc
fields_home t shape k (field j v fs) shaped at fits e =
    let there = fits.1 in
    subst (λ n. (n < member_count t) × (home_at t n ≡ shape)) (same_member j k e)
    (member_among t shape there.0 j there.1 (subst (λ ks. AreMembersOf t shape ks) there.2 (shaped.members shape at.0)))

-- the first field's member stands in the structure of the value
pub first_home : (t : TableData) (shape k : ℕ) (v : Val) → Shaped t → IsStructureIn t shape → Fits t any_text (root_place shape) v
    → first_member (fields_in v) ≡ Some k → (k < member_count t) × (home_at t k ≡ shape)
first_home t shape k v shaped at fits e =
    fields_home t shape k (fields_in v) shaped at
    (subst (λ w. Fits t any_text (root_place shape) w) (sym (fields_back t any_text (root_place shape) v at.1 fits)) fits) e

pub none_first : (fs : FieldVals) → first_member fs ≡ None → fs ≡ no_fields
none_first no_fields e = refl
none_first (field k v fs) e = absurd cc

-- a value without fields is carried
pub nothing_uncarried : (t : TableData) (test : Test) (l : Convention) (p : Place) (v : Val) → kind_of t p ≡ Structure → Fits t test p v
    → fields_in v ≡ no_fields → uncarried t l p v ≡ []
nothing_uncarried t test l p v is fits none =
    ap (λ w. uncarried t l p w) (sym (ap structure_val (sym none) ∙ fields_back t test p v is fits))

-- a value of a request is an input
pub input_alone : (s : ServiceData) (o : ℕ) (v : Val) (role : Role) → IsValueOf s o Request v role → goal_of o role ≡ goal_of o the_input
input_alone s o v the_input is = refl
input_alone s o v the_output is = let bad : false ≡ true = is.on_side in absurd cc
input_alone s o v (the_error e) is = let bad : false ≡ true = is.on_side in absurd cc

-- the structure that is told for each goal's is that of the goal
pub home_on : (s : ServiceData) (o : ℕ) (side : MessageSide) (v : Val) (r : Option ℕ) → Servable s
    → MatchOption r (fields_in v ≡ no_fields)
    (λ home. (shape : ℕ) → IsStructureIn s.table shape → Fits s.table any_text (root_place shape) v → home ≡ shape)
    → MatchOption r (fields_in v ≡ no_fields) (λ shape. (role : Role) → IsValueOf s o side v role → shape ≡ goal_shape s (goal_of o role))
home_on s o side v None servable h = h
home_on s o side v (Some home) servable h =
    λ role is. h (goal_shape s (goal_of o role)) (goal_structure s (goal_of o role) servable is.goal) is.fits
