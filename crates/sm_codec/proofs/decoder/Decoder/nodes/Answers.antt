use Rattle.sm_codec.specs.DecodingView.{decoding_of}
use Rattle.sm_codec.proofs.decoder.Decoder.nodes.Goals as goal

pub returns-clause-bounded : goal.returns-clause-bounded
returns-clause-bounded c = c.kept_is_bounded.ensures (decoding_of c.args.self.now)
