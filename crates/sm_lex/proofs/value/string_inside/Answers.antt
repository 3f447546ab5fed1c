use Rattle.std.proofs.Common.{arith}
use Rattle.sm_lex.proofs.Insides.{quotes_cut}
use Rattle.sm_lex.proofs.value.string_inside.Goals as goal

pub split_at-requires : goal.split_at-requires
split_at-requires c = quotes_cut 1 1 c.args.text.now c.utf8.text c.requires (omega arith) (omega arith)
