-- Labels of patterns, and members that are bound to them, as rows of names; and what is told of them.
use Rattle.std.specs.Prelude.{◌≡◌, ◌⊎◌, ◌&&◌, ◌||◌, ◌↔◌, ◌<◌, ℕ, Bool, true, false, not, List, [], ◌∷◌, Option, cond, get_or, is_none}
use Rattle.std.specs.Prelude.{is_some, length}
use Rattle.std.specs.FinMap as fin
use Rattle.std.specs.List.{Contains, flat_map}
use Rattle.sm_model.specs.EventView.{EventTold}
use Rattle.sm_model.specs.Graphs.{GraphMaps, member_id, text_cmp}
use Rattle.sm_model.specs.GraphView.{IsShapeNumber, maps_of}
use Rattle.sm_model.specs.Reaching.{id_of_number}
use Rattle.sm_model.specs.declared.graph.Graph.{Graph}
use Rattle.sm_model.specs.declared.link.Link.{Link}
use Rattle.sm_model.specs.declared.relation.Relation.{Relation}
use Rattle.sm_model.specs.declared.relation.Relation.TheVariants.{Input}
use Rattle.sm_compile.specs.Looked.{listed_under}
use Rattle.sm_compile.specs.TraitIds.{http_label_id, required_id}
use Rattle.sm_uri.specs.UriPattern.{UriSaid, greedy_names, label_names}
use Rattle.sm_uri.specs.declared.pattern.Segment.{Segment}
use Rattle.sm_uri.specs.declared.pattern.Segment.TheVariants.{Literal, Label, Greedy}
use Rattle.sm_rules.specs.Bindings.{is_string, passes, targets}
use Rattle.sm_rules.specs.Http.{HasLabelled, HasUri, IsLabelled}
use Rattle.sm_rules.specs.Words.{has_trait}
use Rattle.sm_rules.specs.RuleEvents.{rule_event}
use Rattle.sm_rules.specs.declared.rule.Rule.TheVariants.{HttpLabels}
use Rattle.sm_passes.specs.Carrying.{carries}
use Rattle.sm_passes.specs.Owned.{is_own_shape, is_member_in}
use Rattle.sm_passes.specs.Putting.{IsWhere, ToldOf}

-- the names of labels with a number, which says nothing: of all, or of the greedy ones alone
abbrev pub label_row : Bool → Segment → List (List ℕ × ℕ)
label_row greedy (Literal text) = []
label_row greedy (Label name) = cond greedy [] ((name, 0) ∷ [])
label_row greedy (Greedy name) = (name, 0) ∷ []

abbrev pub rows_of_labels : Bool → List Segment → List (List ℕ × ℕ)
rows_of_labels greedy segments = flat_map (label_row greedy) segments

-- a member that is bound to a label
abbrev pub is_bound : GraphMaps → List ℕ → Bool
is_bound g id = is_member_in (fin.get g.shapes id) && carries g http_label_id id

-- the row of one that a shape has under its name
abbrev pub BoundRow : Graph → ℕ → ℕ → List ℕ × ℕ → Type 0
BoundRow g input member r =
    (r.1 ≡ member) × (is_bound (maps_of g) (id_of_number g member) ≡ true)
    × (id_of_number g member ≡ member_id (id_of_number g input) r.0)

-- those of these numbers
abbrev pub AreBound : Graph → ℕ → List ℕ → List (List ℕ × ℕ) → Type 0
AreBound g input members rows =
    (r : List ℕ × ℕ) → Contains rows r ↔ ((member : ℕ) × Contains members member × BoundRow g input member r)

-- those of an input: of what is no shape outside of the prelude there are none
abbrev pub AreBoundOf : Graph → ℕ → List (List ℕ × ℕ) → Type 0
AreBoundOf g input rows =
    (r : List ℕ × ℕ) → Contains rows r
    ↔ ((is_own_shape (maps_of g) (id_of_number g input) ≡ true)
    × (Contains (listed_under (maps_of g) (id_of_number g input)) (id_of_number g r.1))
    × IsShapeNumber g r.1 × BoundRow g input r.1 r)

-- what holds of the element of each number below this one
pub record AreEach {X : Type 0} (Is : ℕ → X → Type 0) (default : X) (n : ℕ) (xs : List X) : Type 0 where
  pub whole : length xs ≡ n
  pub each : (k : ℕ) → k < n → Is k (get_or xs k default)

-- a label is wrong
pub data IsWrongLabel (g : GraphMaps) (input : List ℕ) (segments : List Segment) (name : List ℕ) : Type 0 where
  unbound : Contains (label_names segments) name → (HasLabelled g input name → ⊥) → IsWrongLabel g input segments name
  unnamed : HasLabelled g input name → (Contains (label_names segments) name → ⊥) → IsWrongLabel g input segments name
  free : (m : _) → IsLabelled g input name m → has_trait required_id m.traits ≡ false → IsWrongLabel g input segments name
  other_shape : (m : _) → IsLabelled g input name m → Contains (greedy_names segments) name
      → passes is_string (fin.get g.shapes m.target) ≡ false
      → IsWrongLabel g input segments name

-- what is told of an operation, by a pattern's segments, by its pattern, and by a link
abbrev pub ToldOfUri : GraphMaps → List ℕ → List ℕ → List Segment → EventTold → Type 0
ToldOfUri g operation input segments e =
    (name : List ℕ) × IsWrongLabel g input segments name × (e ≡ rule_event HttpLabels operation name)

abbrev pub ToldLabels : GraphMaps → List ℕ → List ℕ → EventTold → Type 0
ToldLabels g operation input e = (u : UriSaid) × HasUri g operation u × ToldOfUri g operation input u.segments e

abbrev pub is_input : Relation → Bool
is_input Input = true
is_input other = false

abbrev pub ToldByLink : Graph → Link → EventTold → Type 0
ToldByLink g l e = (l.relation ≡ Input) × ToldLabels (maps_of g) (id_of_number g l.from) (id_of_number g l.to) e

-- by rows: of a label to which nothing is bound, and of a member
abbrev pub ToldLabel : List ℕ → (List ℕ → Option ℕ) → List ℕ × ℕ → EventTold → Type 0
ToldLabel operation bound r e = IsWhere (is_none (bound r.0)) (rule_event HttpLabels operation r.0) e

abbrev pub is_wrong_member : GraphMaps → List ℕ → Option ℕ → Option ℕ → Bool
is_wrong_member g id label greedy =
    is_none label || (not (carries g required_id id) || (is_some greedy && not (targets (passes is_string) g id)))

abbrev pub ToldMember : Graph → List ℕ → (List ℕ → Option ℕ) → (List ℕ → Option ℕ) → List ℕ × ℕ → EventTold → Type 0
ToldMember g operation labels greedy r e =
    IsWhere (is_wrong_member (maps_of g) (id_of_number g r.1) (labels r.0) (greedy r.0)) (rule_event HttpLabels operation r.0) e

-- by the rows of all labels, of the greedy ones, and of members
abbrev pub ToldByRows : Graph → List ℕ → (labels greedy bound : List (List ℕ × ℕ)) → EventTold → Type 0
ToldByRows g operation labels greedy bound e =
    ToldOf (ToldLabel operation (λ q. fin.find text_cmp q bound)) labels e
    ⊎ ToldOf (ToldMember g operation (λ q. fin.find text_cmp q labels) (λ q. fin.find text_cmp q greedy)) bound e
