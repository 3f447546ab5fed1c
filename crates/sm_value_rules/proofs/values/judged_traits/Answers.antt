use Rattle.std.proofs.Common.{◌≤◌, length, subst, sym, arith}
use Rattle.sm_model.specs.GraphView.{entries_of}
use Rattle.sm_value_rules.specs.steps.Valuing.{WantsTrait}
use Rattle.sm_value_rules.specs.steps.Nodes.{AreRoots}
use Rattle.sm_value_rules.proofs.NodesTold.{no_roots, roots_all, roots_next}
use Rattle.sm_value_rules.proofs.values.judged_traits.Goals as goal

pub loop-number-init : goal.loop-number-init
loop-number-init c =
    subst (AreRoots c.args.graph.now (WantsTrait c.args.graph.now) 0) (sym c.new-roots.ensures.items)
    (no_roots c.args.graph.now (WantsTrait c.args.graph.now))

pub loop-number-preserved : goal.loop-number-preserved
loop-number-preserved c =
    let at = c.loop-number in
    roots_next c.args.graph.now (WantsTrait c.args.graph.now) at.number at.roots.items c.put_root.new.roots.items at.invariant
    c.in_ok-put_root.ensures

pub returns : goal.returns
returns c =
    let at = c.loop-number in
    let all : length (entries_of c.args.graph.now) ≤ at.number = omega
    (arith, c.loop-number-test.false, c.count-number-end.ensures) in
    roots_all c.args.graph.now (WantsTrait c.args.graph.now) at.number (length (entries_of c.args.graph.now)) at.roots.items all
    at.invariant
