use Rattle.std.proofs.Common.{◌≡◌, ◌+◌, ◌∷◌, [], ℕ, List, ap, arith, drop, subst, sym, ◌∙◌}
use Rattle.std.specs.List.{Contains}
use Rattle.std.proofs.lemmas.List.{drop_all, drop_more}
use Rattle.sm_tree.specs.Node.{nodes_of, text}
use Rattle.sm_tree.specs.View.{nodes_view, node_of}
use Rattle.sm_tree.specs.declared.tree.Tree.{Tree}
use Rattle.sm_model.specs.Relations.{IsEntryText}
use Rattle.sm_model.specs.steps.Linking.{AddsUpTo, RunsTo}
use Rattle.sm_model.proofs.Linking.{up_to_more, up_to_same, up_to_end}
use Rattle.sm_model.proofs.LinkFacts.{runs_either, runs_none}
use Rattle.sm_model.proofs.graph.Graph.put_entries.Goals as goal

pub loop-item-preserved : goal.loop-item-preserved
loop-item-preserved c =
    let at = c.loop-item in
    let i = at.item-index in
    let items = c.args.items.now in
    let pair : Tree = c.item-item.result in
    let g = c.args.self.now in
    let Says : List Tree → List ℕ → Type 0 = λ ps id. IsEntryText id (nodes_of (nodes_view ps)) in
    let Here : List ℕ → Type 0 = λ id. node_of pair ≡ text id in
    let Runs = RunsTo g c.args.relation c.args.from in
    let next : drop i items ≡ pair ∷ drop (i + 1) items = drop_more items i pair (omega arith)
    ∙ ap (λ y. y ∷ drop (i + 1) items) (sym c.item-item.is) in
    up_to_more (Runs (Says items)) (Runs Here) (Runs (Says (drop (i + 1) items))) (Contains c.args.links.now.items)
    (Contains at.links.items) _
    c.in_ok-put_text.ensures
    (up_to_same (Runs (Says items)) (Runs (Says (pair ∷ drop (i + 1) items))) _ (Contains c.args.links.now.items) (Contains at.links.items)
    (runs_either g c.args.relation c.args.from Here (Says (drop (i + 1) items)))
    (subst (λ ps. AddsUpTo (Runs (Says items)) (Runs (Says ps)) c.args.links.now.items at.links.items) next at.invariant))

pub returns : goal.returns
returns c =
    let at = c.loop-item in
    let items = c.args.items.now in
    let g = c.args.self.now in
    let Says : List Tree → List ℕ → Type 0 = λ ps id. IsEntryText id (nodes_of (nodes_view ps)) in
    let Runs = RunsTo g c.args.relation c.args.from in
    let none : drop at.item-index items ≡ [] = drop_all at.item-index items (omega (arith, c.loop-item-test.false)) in
    up_to_end (Runs (Says items)) (Runs (Says [])) (Contains c.args.links.now.items) (Contains at.links.items)
    (runs_none g c.args.relation c.args.from (Says []) (λ id h. h))
    (subst (λ ps. AddsUpTo (Runs (Says items)) (Runs (Says ps)) c.args.links.now.items at.links.items) none at.invariant)
