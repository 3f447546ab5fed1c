use Rattle.std.proofs.Common.{◌+◌, [], arith, subst, sym}
use Rattle.std.specs.List.{Contains}
use Rattle.sm_model.specs.steps.Linking.{Adds, EntryLinks, LinksBelow}
use Rattle.sm_model.proofs.Linking.{joins_none, joins_both, joins_same}
use Rattle.sm_model.proofs.LinkedGraphs.{below_none, below_more, all_linked}
use Rattle.sm_model.proofs.graph.Graph.links.Goals as goal

pub loop-shape-init : goal.loop-shape-init
loop-shape-init c =
    subst (λ xs. Adds (LinksBelow c.args.self.now 0) [] xs) (sym c.new-links.ensures.items)
    (joins_none (Contains []) (LinksBelow c.args.self.now 0) (below_none c.args.self.now))

pub loop-shape-preserved : goal.loop-shape-preserved
loop-shape-preserved c =
    let g = c.args.self.now in
    let k = c.loop-shape.shape in
    joins_same (Contains []) _ (LinksBelow g (k + 1)) _ (below_more g k)
    (joins_both (Contains []) (LinksBelow g k) (Contains c.loop-shape.links.items)
    (EntryLinks g k) _ c.loop-shape.invariant c.in_ok-put_links.ensures)

pub returns : goal.returns
returns c = all_linked c.args.self.now c.loop-shape.shape (omega
    (arith, c.count-shape-end.ensures, c.loop-shape-test.false)) _ c.loop-shape.invariant
