use Rattle.codec_bodies.proofs.way.BodyWay.body.Goals as goal

pub write_body-requires-in-Node-clause-writes : goal.write_body-requires-in-Node-clause-writes
write_body-requires-in-Node-clause-writes c = c.node_leaves_written.ensures c.in-Node.raw_blobs
