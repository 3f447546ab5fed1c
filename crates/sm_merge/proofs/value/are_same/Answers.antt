use Rattle.std.proofs.Common.{arith}
use Rattle.sm_tree.specs.View.{node_of}
use Rattle.sm_merge.proofs.Folds.{sizes_apart}
use Rattle.sm_merge.proofs.value.are_same.Goals as goal

pub returns-then-a_size-b_size : goal.returns-then-a_size-b_size
returns-then-a_size-b_size c =
    sizes_apart (node_of c.args.a.now)
    (node_of c.args.b.now) c.args.a_size c.args.b_size c.requires.a c.requires.b c.requires.a_size c.requires.b_size
    (λ e. omega (arith, e, c.if-a_size-b_size.true))
