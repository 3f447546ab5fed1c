use Rattle.std.proofs.Common.{arith}
use Rattle.sm_lex.specs.Values.{opener_len}
use Rattle.sm_lex.proofs.Insides.{quotes_cut, opener_cut}
use Rattle.sm_lex.proofs.value.block_inside.Goals as goal

pub split_at-requires : goal.split_at-requires
split_at-requires c = quotes_cut (opener_len c.args.text.now) 3 c.args.text.now c.utf8.text c.requires.quoted (omega arith) (omega arith)

pub split_at-requires-2 : goal.split_at-requires-2
split_at-requires-2 c = opener_cut c.args.text.now c.split_at.result.1.now c.args.line_end c.utf8.text c.requires.quoted
    c.split_at.ensures.back c.requires.line_end
