use Rattle.std.proofs.Common.{arith}
use Rattle.std.proofs.lemmas.Grind.{common_steps}
use Rattle.sm_tree.specs.View.{node_of}
use Rattle.sm_json.proofs.WrittenTrees.{read_again}
use Rattle.sm_json.proofs.write.write_tree.Goals as goal

pub returns-clause-read_again : goal.returns-clause-read_again
returns-clause-read_again c = read_again c.args.out.now.items _ (node_of c.args.tree.now) c.requires.json (grind (arith, common_steps))
