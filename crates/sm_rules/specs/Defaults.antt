-- Defaults are values of what their members target (Smithy 2.0, "default trait").
use Rattle.std.specs.Prelude.{◌≡◌, ℕ, List, Some}
use Rattle.std.specs.FinMap as fin
use Rattle.sm_tree.specs.Node.{Node, null}
use Rattle.sm_tree.specs.declared.path.Step.{Step}
use Rattle.sm_model.specs.Graphs.{ShapeEntry, MemberEntry, GraphMaps}
use Rattle.sm_shapes.specs.FaultWords.{fault_word}
use Rattle.sm_shapes.specs.declared.fault.FaultKind.{FaultKind}
use Rattle.sm_codec.specs.FaultLists.{FaultAt, first_fault}
use Rattle.sm_compile.specs.TraitIds.{default_id}
use Rattle.sm_rules.specs.Words.{IsMemberOf}
use Rattle.sm_rules.specs.NodeChecks.{HasNodeFaults}

-- Default.Value: a default, which isn't null, has faults for the member's target; told is the kind of the first. The member's own
-- constraints aren't looked at
pub record HasWrongDefault (g : GraphMaps) (id detail : List ℕ) : Type 0 where
  pub shape : List ℕ
  pub s : ShapeEntry
  pub m : MemberEntry
  pub member : IsMemberOf g shape s id m
  pub n : Node
  pub has_default : fin.get m.traits default_id ≡ Some n
  pub some : n ≡ null → ⊥
  pub faults : List FaultAt
  pub faulty : HasNodeFaults g m.target n faults
  pub path : List Step
  pub kind_of_first : FaultKind
  pub first : first_fault faults ≡ Some (path, kind_of_first)
  pub detail_is : detail ≡ fault_word kind_of_first
