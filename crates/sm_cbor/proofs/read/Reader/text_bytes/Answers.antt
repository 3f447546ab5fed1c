use Rattle.sm_cbor.proofs.RunSteps.{text_prefix_fits}
use Rattle.sm_cbor.proofs.read.Reader.text_bytes.Goals as goal

pub take_run-requires-clause-fits : goal.take_run-requires-clause-fits
take_run-requires-clause-fits g c =
    text_prefix_fits c.args.self.now.place c.args.left c.args.utf8 c.args.bytes.now c.first_bytes.result.now c.characters-whole.result
    c.requires.place (c.characters-whole.ensures.between c.if-whole-gt0.true) c.first_bytes.ensures c.characters-whole.ensures.within
    c.characters-whole.ensures.utf8
