use Rattle.std.proofs.Common.{ℕ, ◌+◌, ◌-◌, ◌*◌, ◌≤◌, List, ◌++◌}
use Rattle.sm_tree.specs.Node.{Node, nodes_of, members_of}
use Rattle.sm_tree.specs.Levels.{nodes_levels, members_levels}
use Rattle.sm_tree.specs.View.{nodes_view, members_view}
use Rattle.sm_cbor.specs.CborItem.{TextString, CountedEntries, EntriesToBreak, CountedPairs, PairsToBreak}
use Rattle.sm_cbor.proofs.descent.Descent.+descent.Given as goal

-- each level inside has less room; entries are measured above each entry, and that above its item
abbrev pub decreases-item : goal.decreases-item
decreases-item l = 4 * l.levels + 1

abbrev pub decreases-tagged : goal.decreases-tagged
decreases-tagged l = 4 * l.levels

abbrev pub decreases-list : goal.decreases-list
decreases-list l = 4 * l.levels

abbrev pub decreases-map : goal.decreases-map
decreases-map l = 4 * l.levels

abbrev pub decreases-put_entry : goal.decreases-put_entry
decreases-put_entry l = 4 * l.levels + 2

abbrev pub decreases-put_pair : goal.decreases-put_pair
decreases-put_pair l = 4 * l.levels + 2

abbrev pub decreases-entries : goal.decreases-entries
decreases-entries l = 4 * l.levels + 3

abbrev pub decreases-entries_to_break : goal.decreases-entries_to_break
decreases-entries_to_break l = 4 * l.levels + 3

abbrev pub decreases-pairs : goal.decreases-pairs
decreases-pairs l = 4 * l.levels + 3

abbrev pub decreases-pairs_to_break : goal.decreases-pairs_to_break
decreases-pairs_to_break l = 4 * l.levels + 3

-- whatever the rest says completes what has come
abbrev pub invariant-entries-loop : goal.invariant-entries-loop
invariant-entries-loop l = record {
  read : (ns : List Node) (r : List ℕ) → CountedEntries TextString (l.count - l.counter) (nodes_of ns) l.self.rest.now r
      → CountedEntries TextString l.count (nodes_of (nodes_view l.items.items ++ ns)) l.fn.self.rest.now r;
  levels : nodes_levels (nodes_of (nodes_view l.items.items)) ≤ l.levels;
}

abbrev pub invariant-entries_to_break-loop : goal.invariant-entries_to_break-loop
invariant-entries_to_break-loop l = record {
  read : (ns : List Node) (r : List ℕ) → EntriesToBreak TextString (nodes_of ns) l.self.rest.now r
      → EntriesToBreak TextString (nodes_of (nodes_view l.items.items ++ ns)) l.fn.self.rest.now r;
  levels : nodes_levels (nodes_of (nodes_view l.items.items)) ≤ l.levels;
}

abbrev pub invariant-pairs-loop : goal.invariant-pairs-loop
invariant-pairs-loop l = record {
  read : (ms : List (List ℕ × Node)) (r : List ℕ) → CountedPairs TextString (l.count - l.counter) (members_of ms) l.self.rest.now r
      → CountedPairs TextString l.count (members_of (members_view l.pairs.items ++ ms)) l.fn.self.rest.now r;
  levels : members_levels (members_of (members_view l.pairs.items)) ≤ l.levels;
}

abbrev pub invariant-pairs_to_break-loop : goal.invariant-pairs_to_break-loop
invariant-pairs_to_break-loop l = record {
  read : (ms : List (List ℕ × Node)) (r : List ℕ) → PairsToBreak TextString (members_of ms) l.self.rest.now r
      → PairsToBreak TextString (members_of (members_view l.pairs.items ++ ms)) l.fn.self.rest.now r;
  levels : members_levels (members_of (members_view l.pairs.items)) ≤ l.levels;
}
