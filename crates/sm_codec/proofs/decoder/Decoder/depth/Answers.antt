use Rattle.sm_codec.specs.DecodingView.{decoding_of}
use Rattle.sm_codec.proofs.decoder.Decoder.depth.Goals as goal

pub returns-in-Ok-clause-bounded : goal.returns-in-Ok-clause-bounded
returns-in-Ok-clause-bounded c = c.kept_is_bounded.ensures (decoding_of c.args.self.now)

pub returns-in-Err-clause-bounded : goal.returns-in-Err-clause-bounded
returns-in-Err-clause-bounded c = c.kept_is_bounded.ensures (decoding_of c.args.self.now)
