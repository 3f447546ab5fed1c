use Rattle.sm_cbor.proofs.RunSteps.{bytes_fit, all_bytes}
use Rattle.sm_cbor.proofs.read.Reader.string_bytes.Goals as goal

pub take_run-requires-clause-fits : goal.take_run-requires-clause-fits
take_run-requires-clause-fits g c =
    bytes_fit c.args.self.now.place c.args.left c.args.utf8 c.first_bytes-run.result.now c.requires.place c.first_bytes-run.ensures.2
    (all_bytes c.first_bytes-run.result.now (λ i. (c.type_inv.run i).fits))
