-- What is told of members that are bound to parts of messages, by number.
use Rattle.std.specs.Prelude.{◌≡◌, ◌⊎◌, ◌&&◌, ℕ, Bool, true, false, not, List, get_or}
use Rattle.std.specs.FinMap as fin
use Rattle.std.specs.List.{Contains, list_any}
use Rattle.sm_model.specs.EventView.{EventTold}
use Rattle.sm_model.specs.Graphs.{GraphMaps, MemberEntry, ShapeEntry}
use Rattle.sm_model.specs.GraphView.{maps_of}
use Rattle.sm_model.specs.Reaching.{id_of_number}
use Rattle.sm_model.specs.declared.graph.Graph.{Graph}
use Rattle.sm_compile.specs.TraitIds.{http_payload_id}
use Rattle.sm_rules.specs.Bindings.{BindingTrait, BoundSide, a_payload, allows_target, binding_id, bindings_of, has_binding, is_in_document}
use Rattle.sm_rules.specs.Bindings.{targets}
use Rattle.sm_rules.specs.Http.{IsBoundWrongly, ReachesLeftOutValue, StandsOn, beside_payload, wrong_target}
use Rattle.sm_rules.specs.Words.{IsMemberOf}
use Rattle.sm_rules.specs.RuleEvents.{rule_event}
use Rattle.sm_rules.specs.declared.rule.Rule.TheVariants.{HttpTarget}
use Rattle.sm_http_traits.specs.declared.bindings.BindingKind.{BindingKind}
use Rattle.sm_http_traits.specs.declared.bindings.BindingKind.TheVariants.{Payload}
use Rattle.sm_http_traits.specs.declared.bindings.BindingSide.{BindingSide}
use Rattle.sm_http_traits.specs.declared.bindings.BindingSide.TheVariants.{Input, Output, Error}
use Rattle.sm_http_traits.specs.Bindings.{binding_said, bindings_in, carries_binding}
use Rattle.sm_passes.specs.Owned.{is_member_in}
use Rattle.sm_passes.specs.Putting.{IsWhere, ToldOf}
use Rattle.sm_http_rules.specs.declared.sides.Sides.{Sides}

-- the shape whose member it is
abbrev pub home_of_binding : (g : GraphMaps) (id detail : List ℕ) → IsBoundWrongly g id detail → List ℕ
home_of_binding g id detail (wrong_target b h is) = h.shape
home_of_binding g id detail (beside_payload h is) = h.shape

-- what is told of a member on a side
abbrev pub IsTargetTold : GraphMaps → BoundSide → List ℕ → MemberEntry → EventTold → Type 0
IsTargetTold g side id m e =
    (b : BindingTrait) × Contains (bindings_of side) b × (has_binding m.traits b ≡ true) × (ReachesLeftOutValue g m.target → ⊥)
    × (allows_target g b (fin.get g.shapes m.target) ≡ false) × (e ≡ rule_event HttpTarget id (binding_id b))

abbrev pub HasPayload : GraphMaps → List ℕ → ShapeEntry → Type 0
HasPayload g shape s = (id : List ℕ) × (m : MemberEntry) × IsMemberOf g shape s id m × (has_binding m.traits a_payload ≡ true)

abbrev pub IsBesideTold : GraphMaps → BoundSide → List ℕ → ShapeEntry → List ℕ → MemberEntry → EventTold → Type 0
IsBesideTold g side shape s id m e =
    (is_in_document side m.traits ≡ true) × HasPayload g shape s × (e ≡ rule_event HttpTarget id http_payload_id)

abbrev pub ToldOnSide : GraphMaps → BoundSide → List ℕ → EventTold → Type 0
ToldOnSide g side shape e =
    (id : List ℕ) × (s : ShapeEntry) × (m : MemberEntry) × StandsOn g side id shape s m
    × (IsTargetTold g side id m e ⊎ IsBesideTold g side shape s id m e)

-- by marks, and as tests
abbrev pub marks_of : Sides → BindingSide → List Bool
marks_of sides Input = sides.inputs.items
marks_of sides Output = sides.outputs.items
marks_of sides Error = sides.errors.items

abbrev pub is_bound_by : GraphMaps → BindingKind → List ℕ → Bool
is_bound_by g b id = is_member_in (fin.get g.shapes id) && carries_binding g id b

abbrev pub has_payload : GraphMaps → List (List ℕ) → Bool
has_payload g ids = list_any (is_bound_by g Payload) ids

abbrev pub is_wrong_target : Graph → List Bool → ℕ → BindingKind → Bool
is_wrong_target g leading k b =
    is_bound_by (maps_of g) b (id_of_number g k)
    && (not (get_or leading k false) && not (targets (allows_target (maps_of g) (binding_said b)) (maps_of g) (id_of_number g k)))

abbrev pub is_in_document_at : GraphMaps → BindingSide → List ℕ → Bool
is_in_document_at g side id = is_member_in (fin.get g.shapes id) && not (list_any (carries_binding g id) (bindings_in side))

abbrev pub ToldBinding : Graph → List Bool → ℕ → BindingKind → EventTold → Type 0
ToldBinding g leading k b e =
    IsWhere (is_wrong_target g leading k b) (rule_event HttpTarget (id_of_number g k) (binding_id (binding_said b))) e

abbrev pub ToldBeside : Graph → BindingSide → Bool → ℕ → EventTold → Type 0
ToldBeside g side payload k e =
    IsWhere (payload && is_in_document_at (maps_of g) side (id_of_number g k)) (rule_event HttpTarget (id_of_number g k) http_payload_id) e

abbrev pub ToldBoundMember : Graph → List Bool → BindingSide → Bool → ℕ → EventTold → Type 0
ToldBoundMember g leading side payload k e =
    ToldOf (ToldBinding g leading k) (bindings_in side) e ⊎ ToldBeside g side payload k e
