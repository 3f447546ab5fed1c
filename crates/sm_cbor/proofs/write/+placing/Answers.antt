use Rattle.std.proofs.Common.{◌++◌, take, sym, ap, ◌∙◌}
use Rattle.sm_tree.specs.View.{node_of}
use Rattle.sm_tree.proofs.Views.{node_tag}
use Rattle.sm_cbor.specs.Written.{written_item, written_head}
use Rattle.sm_tree.proofs.ListEnds.{placed_twice}
use Rattle.sm_cbor.proofs.write.+placing.Goals as goal

pub place_tree-returns-in-Tag-clause-bytes : goal.place_tree-returns-in-Tag-clause-bytes
place_tree-returns-in-Tag-clause-bytes t c =
    placed_twice _ _ _ _ _ c.place_head-at.ensures.bytes c.place_tree.ensures.bytes
    ∙ ap (λ m. take c.args.at c.args.buf.now ++ (written_head 6 c.in-Tag.number ++ written_item m)) (ap node_of c.deref.ensures)
    ∙ ap (λ n. take c.args.at c.args.buf.now ++ written_item n) (sym (ap node_of c.in-Tag.is ∙ node_tag c.in-Tag.number _))
