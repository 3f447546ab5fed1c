use Rattle.std.proofs.Common.{◌≡◌, ◌+◌, ◌++◌, ◌∷◌, ℕ, List, ap, arith, drop, sym, ◌∙◌}
use Rattle.std.specs.List.{filter_map}
use Rattle.std.proofs.lemmas.List.{drop_more}
use Rattle.sm_tree.specs.Node.{Node}
use Rattle.sm_tree.specs.View.{members_view, node_of}
use Rattle.sm_tree.specs.declared.tree.Tree.{Tree}
use Rattle.sm_transform.specs.steps.Changing.{named_reference}
use Rattle.sm_transform.proofs.ChangedParts.{one_more}
use Rattle.sm_transform.proofs.changed_body.changed_values.Goals as goal

pub loop-pair-preserved : goal.loop-pair-preserved
loop-pair-preserved g c =
    let at = c.loop-pair in
    let i = at.pair-index in
    let pairs = c.args.pairs.now in
    let pair : List ℕ × Tree = c.pair-item.result in
    let h = named_reference (g.C.ChangesIds.after c.args.change.now) in
    let rest = drop (i + 1) pairs in
    let next : drop i pairs ≡ pair ∷ rest = drop_more pairs i pair (omega arith) ∙ ap (λ y. y ∷ rest) (sym c.pair-item.is) in
    ap (λ (xs : List (List ℕ × Node)). xs ++ filter_map h (members_view rest)) c.in_ok-put_value.ensures
    ∙ one_more h (members_view at.left.items) (pair.0, node_of pair.1) (members_view rest)
    ∙ ap (λ (ts : List (List ℕ × Tree)). members_view at.left.items ++ filter_map h (members_view ts)) (sym next) ∙ at.invariant
