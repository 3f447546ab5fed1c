-- The parts of a JSON tree are JSON.
use Rattle.std.proofs.Common.{◌≡◌, ℕ, inl, inr, List, Some, sym, ap, subst, ◌∙◌, if◌then◌else◌, bytes_eq}
use Rattle.sm_tree.specs.Node.{Node, Members, null, bool, int, number, text, bytes, tag, opaque, list, object, no_members, member}
use Rattle.sm_tree.specs.Json.{IsJson, AreJsonMembers}
use Rattle.sm_tree.specs.Parts.{tree_named}
use Rattle.sm_ast.specs.PartsSaid.{pairs_said}
use Rattle.sm_ast.proofs.Judged.{either_way, some_is_none, some_same}

pub json_named : (name : List ℕ) (ms : Members) (n : Node) → AreJsonMembers ms → tree_named name ms ≡ Some n → IsJson n
json_named name no_members n json e = some_is_none n (sym e)
json_named name (member k m ms) n json e = elim (either_way (bytes_eq k name)) [
  | inl same ↦ subst IsJson (some_same m n (ap (λ b. if b then Some m else tree_named name ms) (sym same) ∙ e)) json.1
  | inr other ↦ json_named name ms n json.2 (ap (λ b. if b then Some m else tree_named name ms) (sym other) ∙ e)
]

pub json_pairs : (n : Node) → IsJson n → AreJsonMembers (pairs_said n)
json_pairs null json = tt
json_pairs (bool b) json = tt
json_pairs (int z) json = tt
json_pairs (number t) json = tt
json_pairs (text t) json = tt
json_pairs (bytes t) json = tt
json_pairs (tag k n) json = tt
json_pairs (opaque b) json = tt
json_pairs (list ns) json = tt
json_pairs (object ms) json = json

-- of what stands under a name, as a reader has it
pub json_under : (name : List ℕ) (ms : Members) (n : Node) → AreJsonMembers ms → tree_named name ms ≡ Some n
    → (there : Members) → there ≡ pairs_said n → AreJsonMembers there
json_under name ms n json e there same = subst AreJsonMembers (sym same) (json_pairs n (json_named name ms n json e))
