use Rattle.std.proofs.Common.{arith}
use Rattle.std.proofs.lemmas.Grind.{common_steps}
use Rattle.sm_tree.specs.View.{node_of}
use Rattle.sm_cbor.proofs.WrittenItems.{appended_is_read}
use Rattle.sm_cbor.proofs.write.write_tree.Goals as goal

pub returns-clause-read_again : goal.returns-clause-read_again
returns-clause-read_again c = appended_is_read (node_of c.args.tree.now) c.args.out.now.items _ (grind (arith, common_steps))
    c.requires.cbor (omega (arith, c.place_tree.ensures.next, c.place_tree.type_inv))
