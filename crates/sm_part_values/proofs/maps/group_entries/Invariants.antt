use Rattle.std.proofs.Common.{◌≡◌, ◌++◌, ◌∷◌, drop, map}
use Rattle.sm_parts.specs.declared.list_entry.ListEntry.TheVariants.{Text as some_text}
use Rattle.sm_part_values.proofs.maps.group_entries.Given as goal

abbrev pub invariant-loop-text : goal.invariant-loop-text
invariant-loop-text l =
    l.entries.items ++ map some_text (drop l.text-index l.group.more.items) ≡ map some_text (l.group.first ∷ l.group.more.items)
