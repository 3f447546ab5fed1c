use Rattle.sm_cbor.proofs.length.tag_head_len.Goals as goal

pub returns : goal.returns
returns c = c.head_len.ensures 6
