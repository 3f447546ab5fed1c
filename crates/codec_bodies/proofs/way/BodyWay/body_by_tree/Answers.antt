use Rattle.codec_bodies.proofs.way.BodyWay.body_by_tree.Goals as goal

pub bytes_by_tree-requires-in-Node-clause-writes : goal.bytes_by_tree-requires-in-Node-clause-writes
bytes_by_tree-requires-in-Node-clause-writes c = c.node_leaves_written.ensures c.in-Node.raw_blobs
