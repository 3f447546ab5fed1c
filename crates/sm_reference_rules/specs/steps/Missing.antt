-- References that name no shape.
use Rattle.std.specs.Prelude.{◌≡◌, ℕ, List, None}
use Rattle.std.specs.FinMap as fin
use Rattle.sm_model.specs.EventView.{EventTold}
use Rattle.sm_model.specs.Graphs.{member_entry, MemberEntry, GraphMaps}
use Rattle.sm_model.specs.Relations.{IsInGraph}
use Rattle.sm_rules.specs.Words.{IsOwn}
use Rattle.sm_rules.specs.RuleEvents.{rule_event}
use Rattle.sm_rules.specs.declared.rule.Rule.TheVariants.{TargetMissing}

-- a member targets nothing
abbrev pub TargetsNothing : GraphMaps → List ℕ → List ℕ → Type 0
TargetsNothing g from id = (m : MemberEntry) × IsOwn g from (member_entry m) × (m.target ≡ id) × (IsInGraph g id → ⊥)

-- an id is told where the graph doesn't have it
abbrev pub ToldMissing : GraphMaps → List ℕ → List ℕ → EventTold → Type 0
ToldMissing g from id e = (fin.get g.shapes id ≡ None) × (e ≡ rule_event TargetMissing from id)
