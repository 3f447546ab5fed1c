-- Values of enums that were seen.
use Rattle.std.specs.Prelude.{◌≡◌, ℕ, ℤ, Bool, true, false, List}
use denote.Ref.{Bor}
use Rattle.std.specs.BTreeSet.{BTreeSet, contains_by}
use Rattle.std.specs.Cmp.Lexicographic.{slice_cmp}
use Rattle.std.specs.Ordering.{int_cmp, nat_cmp}
use Rattle.sm_tree.specs.Node.{Node, null, bool, int, number, text, bytes, tag, opaque, list, object}
use Rattle.sm_value_rules.specs.declared.seen_values.EnumValue.{EnumValue}
use Rattle.sm_value_rules.specs.declared.seen_values.EnumValue.TheVariants as value
use Rattle.sm_value_rules.specs.declared.seen_values.SeenValues.{SeenValues}

-- what a value of the code stands for
abbrev pub value_node : EnumValue → Node
value_node (value.Text t) = text t.now
value_node (value.Number z) = int z

abbrev pub has_text : BTreeSet (Bor (List ℕ)) → List ℕ → Bool
has_text set t = contains_by (λ k. slice_cmp nat_cmp t k.now) set

abbrev pub has_number : BTreeSet ℤ → ℤ → Bool
has_number set z = contains_by (int_cmp z) set

abbrev pub holds : SeenValues → Node → Bool
holds seen (text t) = has_text seen.texts t
holds seen (int z) = has_number seen.numbers z
holds seen null = false
holds seen (bool b) = false
holds seen (number t) = false
holds seen (bytes t) = false
holds seen (tag k n) = false
holds seen (opaque b) = false
holds seen (list ns) = false
holds seen (object ms) = false

abbrev pub Holds : SeenValues → Node → Type 0
Holds seen n = holds seen n ≡ true
