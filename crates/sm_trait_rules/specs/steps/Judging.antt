-- What is told of the traits of shapes and members by whoever judges them by the table.
use Rattle.std.specs.Prelude.{◌≡◌, ◌⊎◌, ◌&&◌, ℕ, Bool, true, not, List, Option, Some, None}
use Rattle.std.specs.FinMap as fin
use Rattle.sm_tree.specs.Node.{Node}
use Rattle.sm_tree.specs.View.{node_of}
use Rattle.sm_tree.specs.declared.tree.Tree.{Tree}
use Rattle.sm_model.specs.EventView.{EventTold}
use Rattle.sm_model.specs.Graphs.{Entry, GraphMaps}
use Rattle.sm_model.specs.PreludeShapes.{is_prelude_id}
use Rattle.sm_model.specs.declared.kind.Kind.{Kind}
use Rattle.sm_compile.specs.Looked.{kind_under, listed_under, target_under}
use Rattle.sm_compile.specs.Sound.{trait_of}
use Rattle.sm_rules.specs.RuleEvents.{rule_event}
use Rattle.sm_rules.specs.declared.rule.Rule.{Rule}
use Rattle.sm_passes.specs.declared.rows.place.Behind.{Behind}
use Rattle.sm_passes.specs.declared.rows.place.Stand.{Stand}
use Rattle.sm_passes.specs.declared.rows.place.Stand.TheVariants as stand
use Rattle.sm_passes.specs.Owned.{is_member_in}
use Rattle.sm_passes.specs.Places.{entry_behind}
use Rattle.sm_passes.specs.Putting.{IsWhere, ToldOf}

-- a trait with this value that stands there is wrong
abbrev pub Judgement : Type 0
Judgement = List ℕ → Stand → Node → Bool

abbrev pub ToldTrait : Rule → Judgement → List ℕ → Stand → List ℕ × Tree → EventTold → Type 0
ToldTrait rule wrong id at t e = IsWhere (wrong t.0 at (node_of t.1)) (rule_event rule id t.0) e

-- of all traits of a shape or member
abbrev pub ToldTraits : Rule → Judgement → GraphMaps → List ℕ → Stand → EventTold → Type 0
ToldTraits rule wrong g id at e =
    (trait : List ℕ) × (n : Node) × (trait_of g id trait ≡ Some n) × IsWhere (wrong trait at n) (rule_event rule id trait) e

-- what stands behind the target of a member
abbrev pub entry_where : GraphMaps → Option (List ℕ) → Option Entry
entry_where g None = None
entry_where g (Some id) = fin.get g.shapes id

abbrev pub behind_of : GraphMaps → List ℕ → Behind
behind_of g id = entry_behind (entry_where g (target_under g id))

-- of a member that a shape of this type lists
abbrev pub is_own_member : GraphMaps → List ℕ → Bool
is_own_member g id = is_member_in (fin.get g.shapes id) && not (is_prelude_id id)

abbrev pub ToldMember : Rule → Judgement → GraphMaps → Kind → List ℕ → EventTold → Type 0
ToldMember rule wrong g home id e =
    (is_own_member g id ≡ true) × ToldTraits rule wrong g id (stand.Member home (behind_of g id)) e

-- of a shape of this type, and of its members
abbrev pub ToldShape : Rule → Judgement → GraphMaps → List ℕ → Kind → EventTold → Type 0
ToldShape rule wrong g id kind e =
    ToldTraits rule wrong g id (stand.Shape kind) e ⊎ ToldOf (ToldMember rule wrong g kind) (listed_under g id) e

abbrev pub ToldJudged : Rule → Judgement → GraphMaps → List ℕ → EventTold → Type 0
ToldJudged rule wrong g id e =
    (kind : Kind) × (kind_under g id ≡ Some kind) × (not (is_prelude_id id) ≡ true) × ToldShape rule wrong g id kind e
