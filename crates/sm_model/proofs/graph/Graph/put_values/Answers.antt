use Rattle.std.proofs.Common.{◌≡◌, ◌+◌, ◌∷◌, [], ℕ, List, ap, arith, drop, subst, sym, ◌∙◌}
use Rattle.std.specs.List.{Contains}
use Rattle.std.proofs.lemmas.List.{drop_all, drop_more}
use Rattle.sm_tree.specs.Node.{members_of, text}
use Rattle.sm_tree.specs.View.{members_view, node_of}
use Rattle.sm_tree.specs.declared.tree.Tree.{Tree}
use Rattle.sm_model.specs.Relations.{IsValueText}
use Rattle.sm_model.specs.steps.Linking.{AddsUpTo, RunsTo}
use Rattle.sm_model.proofs.Linking.{up_to_more, up_to_same, up_to_end}
use Rattle.sm_model.proofs.LinkFacts.{runs_either, runs_none}
use Rattle.sm_model.proofs.graph.Graph.put_values.Goals as goal

pub loop-pair-preserved : goal.loop-pair-preserved
loop-pair-preserved c =
    let at = c.loop-pair in
    let i = at.pair-index in
    let pairs = c.args.pairs.now in
    let pair : List ℕ × Tree = c.pair-item.result in
    let g = c.args.self.now in
    let Says : List (List ℕ × Tree) → List ℕ → Type 0 = λ ps id. IsValueText id (members_of (members_view ps)) in
    let Here : List ℕ → Type 0 = λ id. node_of pair.1 ≡ text id in
    let Runs = RunsTo g c.args.relation c.args.from in
    let next : drop i pairs ≡ pair ∷ drop (i + 1) pairs = drop_more pairs i pair (omega arith)
    ∙ ap (λ y. y ∷ drop (i + 1) pairs) (sym c.pair-item.is) in
    up_to_more (Runs (Says pairs)) (Runs Here) (Runs (Says (drop (i + 1) pairs))) (Contains c.args.links.now.items)
    (Contains at.links.items) _
    c.in_ok-put_text.ensures
    (up_to_same (Runs (Says pairs)) (Runs (Says (pair ∷ drop (i + 1) pairs))) _ (Contains c.args.links.now.items) (Contains at.links.items)
    (runs_either g c.args.relation c.args.from Here (Says (drop (i + 1) pairs)))
    (subst (λ ps. AddsUpTo (Runs (Says pairs)) (Runs (Says ps)) c.args.links.now.items at.links.items) next at.invariant))

pub returns : goal.returns
returns c =
    let at = c.loop-pair in
    let pairs = c.args.pairs.now in
    let g = c.args.self.now in
    let Says : List (List ℕ × Tree) → List ℕ → Type 0 = λ ps id. IsValueText id (members_of (members_view ps)) in
    let Runs = RunsTo g c.args.relation c.args.from in
    let none : drop at.pair-index pairs ≡ [] = drop_all at.pair-index pairs (omega (arith, c.loop-pair-test.false)) in
    up_to_end (Runs (Says pairs)) (Runs (Says [])) (Contains c.args.links.now.items) (Contains at.links.items)
    (runs_none g c.args.relation c.args.from (Says []) (λ id h. h))
    (subst (λ ps. AddsUpTo (Runs (Says pairs)) (Runs (Says ps)) c.args.links.now.items at.links.items) none at.invariant)
