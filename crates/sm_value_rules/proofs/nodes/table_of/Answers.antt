use Rattle.sm_value_rules.proofs.NodesTold.{are_numbers, are_sound}
use Rattle.sm_value_rules.proofs.nodes.table_of.Goals as goal

pub compile_roots-requires-clause-numbers : goal.compile_roots-requires-clause-numbers
compile_roots-requires-clause-numbers c = are_numbers c.args.graph.now c.args.roots.now c.requires

pub compile_roots-requires-clause-sound : goal.compile_roots-requires-clause-sound
compile_roots-requires-clause-sound c = are_sound c.args.graph.now c.args.roots.now c.requires
