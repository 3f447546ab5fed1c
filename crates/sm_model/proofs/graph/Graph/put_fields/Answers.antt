use Rattle.std.proofs.Common.{◌≡◌, ◌+◌, ◌∷◌, [], ℕ, List, ap, arith, drop, subst, sym, ◌∙◌}
use Rattle.std.specs.List.{Contains}
use Rattle.std.proofs.lemmas.List.{drop_all, drop_more}
use Rattle.sm_tree.specs.View.{members_view, node_of}
use Rattle.sm_tree.specs.declared.tree.Tree.{Tree}
use Rattle.sm_model.specs.Relations.{field_relations, relation_under}
use Rattle.sm_model.specs.steps.Linking.{Adds, AddsUpTo, FieldLinks, FieldsLinks}
use Rattle.sm_model.proofs.Linking.{up_to_more, up_to_end}
use Rattle.sm_model.proofs.graph.Graph.put_fields.Goals as goal

pub loop-pair-preserved : goal.loop-pair-preserved
loop-pair-preserved c =
    let at = c.loop-pair in
    let i = at.pair-index in
    let pairs = c.args.pairs.now in
    let pair : List ℕ × Tree = c.pair-item.result in
    let g = c.args.self.now in
    let kind = c.args.kind in
    let s = c.args.shape in
    let next : drop i pairs ≡ pair ∷ drop (i + 1) pairs = drop_more pairs i pair (omega arith)
    ∙ ap (λ y. y ∷ drop (i + 1) pairs) (sym c.pair-item.is) in
    up_to_more (FieldsLinks g kind s (members_view pairs)) (FieldLinks g s (node_of pair.1) (relation_under pair.0 (field_relations kind)))
    (FieldsLinks g kind s (members_view (drop (i + 1) pairs))) (Contains c.args.links.now.items) (Contains at.links.items) _
    (subst (λ r. Adds (FieldLinks g s (node_of pair.1) r) at.links.items c.put_field.new.links.items)
    (c.of_field.ensures ∙ ap (λ n. relation_under n (field_relations kind)) c.as_str.ensures.bytes) c.in_ok-put_field.ensures)
    (subst (λ ps. AddsUpTo (FieldsLinks g kind s (members_view pairs)) (FieldsLinks g kind s
    (members_view ps)) c.args.links.now.items at.links.items) next
    at.invariant)

pub returns : goal.returns
returns c =
    let at = c.loop-pair in
    let pairs = c.args.pairs.now in
    let g = c.args.self.now in
    let kind = c.args.kind in
    let s = c.args.shape in
    let none : drop at.pair-index pairs ≡ [] = drop_all at.pair-index pairs (omega (arith, c.loop-pair-test.false)) in
    up_to_end (FieldsLinks g kind s (members_view pairs)) (FieldsLinks g kind s []) (Contains c.args.links.now.items)
    (Contains at.links.items) (λ l h. h)
    (subst (λ ps. AddsUpTo (FieldsLinks g kind s (members_view pairs)) (FieldsLinks g kind s
    (members_view ps)) c.args.links.now.items at.links.items) none
    at.invariant)
