use Rattle.std.proofs.Common.{◌≡◌, true, ap, sym, ◌∙◌, subst}
use Rattle.sm_shapes.specs.ValueView.{val_of}
use Rattle.sm_shapes.specs.Values.{blob_val}
use Rattle.sm_shapes.proofs.ValueViews.{blob_value}
use Rattle.sm_codec.specs.Conventions.{node_carries}
use Rattle.sm_codec.proofs.PlainLeaves.{carried_raw}
use Rattle.sm_codec.proofs.node_leaves.NodeLeavesLeaves.write.Goals as goal

pub write_blob-requires : goal.write_blob-requires
write_blob-requires c = λ raw. carried_raw c.args._simple c.in-Blob.bytes
    (subst (λ b. node_carries b c.args._simple (blob_val c.in-Blob.bytes) ≡ true) raw
    (ap (node_carries c.args.self.now.raw_blobs c.args._simple) (sym (ap val_of c.in-Blob.is ∙ blob_value c.in-Blob.bytes)) ∙ c.requires))
