use Rattle.std.proofs.Common.{◌≡◌, ◌+◌, ◌++◌, ℕ, true, List, [], map, length, get_or, drop}
use Rattle.sm_model.specs.Graphs.{member_id}
use Rattle.sm_model.specs.GraphRows.{are_below, ids_of}
use Rattle.sm_model.specs.steps.Blocks.{AreNamesIn}
use Rattle.sm_model.proofs.graph.numbers.numbers_of.Given as goal

abbrev pub invariant-loop-name : goal.invariant-loop-name
invariant-loop-name l = record {
  mean : (before : List (List ℕ)) → length before ≡ l.first
      → map (λ k. get_or (before ++ ids_of l.rows) k []) l.numbers.items ++ map (member_id l.shape) (drop l.name-index l.names)
      ≡ map (member_id l.shape) l.names;
  below : are_below (l.first + length l.rows) l.numbers.items ≡ true;
  names : AreNamesIn (ids_of l.rows) l.shape (drop l.name-index l.names);
}
