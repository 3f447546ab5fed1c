use Rattle.std.proofs.Common.{◌≡◌, ℕ, List, Option, None, Some, ap, rules}
use Rattle.std.specs.Prelude.{IsSomeAnd, slice_get}
use Rattle.sm_tree.specs.declared.tree.Tree.{Tree}
use Rattle.std.proofs.lemmas.Fn.{always_returns_same}
use Rattle.sm_model.specs.Graphs.{text_cmp}
use Rattle.sm_tree.specs.View.{node_of}
use Rattle.sm_model.proofs.Searching.{value_found, found_nowhere, rises}
use Rattle.sm_model.proofs.graph.ordered.value_under.Goals as goal

pub returns-in-Ok : goal.returns-in-Ok
returns-in-Ok c =
    let q = c.args.name.now in
    let held = c.in-Ok.ensures.position (λ p. text_cmp p.0 q) (always_returns_same _ _ _ (λ a r g called. search rules)) in
    value_found (λ p. (p.0, node_of p.1)) c.args.pairs.now c.requires q c.in-Ok.place c.in-Ok.ensures.bound held
    (node_of c.tree_at.result.now)
    (same (slice_get c.args.pairs.now c.in-Ok.place) c.tree_at.ensures)
  where
    same : (o : Option (List ℕ × Tree)) → IsSomeAnd o (λ p. c.tree_at.result.now ≡ p.1)
        → IsSomeAnd o (λ p. node_of c.tree_at.result.now ≡ node_of p.1)
    same None h = h
    same (Some p) h = ap node_of h

pub returns-in-Err : goal.returns-in-Err
returns-in-Err c =
    let q = c.args.name.now in
    let parted = c.in-Err.ensures.position (λ p. text_cmp p.0 q) (always_returns_same _ _ _ (λ a r g called. search rules)) in
    found_nowhere (λ p. (p.0, node_of p.1)) c.args.pairs.now q c.in-Err.field-0
    (parted (rises (λ p. (p.0, node_of p.1)) c.args.pairs.now c.requires q))
