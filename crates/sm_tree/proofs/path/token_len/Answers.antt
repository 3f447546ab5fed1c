use Rattle.std.proofs.Common.{arith}
use Rattle.sm_tree.proofs.Tokens.{length-token}
use Rattle.sm_tree.proofs.path.token_len.Goals as goal

pub returns : goal.returns
returns c = grind (arith, length-token c.args.name.now)
