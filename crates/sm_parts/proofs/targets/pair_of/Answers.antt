use Rattle.sm_parts.proofs.MarkCuts.{pair_is}
use Rattle.sm_parts.proofs.targets.pair_of.Goals as goal

pub returns : goal.returns
returns c =
    pair_is c.args.piece.now c.cut_at-cut.result.taken.now c.in_ok-key.key c.in_ok-value.value c.cut_at-cut.result.behind
    c.cut_at-cut.ensures c.in_ok-key.ensures c.in_ok-value.ensures
