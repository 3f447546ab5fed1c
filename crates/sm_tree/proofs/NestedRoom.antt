-- What is open in a reader: how much, and what is left where the innermost ends.
use Rattle.std.proofs.Common.{◌≡◌, ◌≤◌, List, drop, length, Option, None, Some, ap, sym, ◌∙◌, arith}
use Rattle.std.proofs.lemmas.List.{length-drop}
use Rattle.sm_tree.specs.Limits.{most_levels}
use Rattle.sm_tree.specs.Nested.{nested_in, LosesInnermost}
use Rattle.sm_tree.specs.declared.nested.Nested.{Nested}

pub nested_room : {T : Type 0} (n : Nested T) → length (nested_in n) ≤ most_levels
nested_room n = omega (arith, length-drop n.first n.held, n.size)

pub left_behind : {T : Type 0} (before behind : List T) (o : Option T) → LosesInnermost before behind o → behind ≡ drop 1 before
left_behind before behind None (none, left) = left ∙ ap (drop 1) (sym none)
left_behind before behind (Some t) is = ap (drop 1) (sym is)
