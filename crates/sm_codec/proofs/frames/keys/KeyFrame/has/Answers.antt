use Rattle.std.proofs.Common.{◌∙◌}
use Rattle.sm_codec.proofs.KeptKeys.{found_same}
use Rattle.sm_codec.proofs.frames.keys.KeyFrame.has.Goals as goal

pub returns : goal.returns
returns c = c.contains_key.ensures ∙ found_same c.args.key.now c.args.self.now.keys.entries
