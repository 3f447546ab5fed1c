use Rattle.std.proofs.Common.{ℕ, List, [], map, take, Some, sym, ap, ◌∙◌, arith}
use Rattle.sm_tree.specs.View.{node_of}
use Rattle.sm_ast.specs.Faults.{field, node_fault, stands_in}
use Rattle.sm_ast.proofs.Telling.{node_entry_told, node_pair_told, told_again, told_fresh}
use Rattle.sm_ast.proofs.check.node.+check.Goals as goal

pub check_nodes-returns-in-Err : goal.check_nodes-returns-in-Err
check_nodes-returns-in-Err t c =
    node_entry_told c.args.items.now c.loop-item.item-index c.item-item.result (omega arith) c.item-item.is c.loop-item.at _
    c.loop-item.invariant.fault _ (c.under_index.ensures (node_fault (node_of c.item-item.result)) c.in-Err.ensures)

pub check_members-returns-then-branch : goal.check_members-returns-then-branch
check_members-returns-then-branch t c =
    let xs = c.args.pairs.now in
    let i = c.loop-pair.pair-index in
    let x = c.pair-item.result in
    let before : List (List ℕ) = map (λ p. p.0) (take i xs) in
    let same = (c.in_ok-stands_again.ensures before c.loop-pair.invariant.seen).0 in
    node_pair_told xs i x (omega arith) c.pair-item.is before _ c.loop-pair.invariant.fault _
    (told_again before x.0 _ _ (ap (λ k. stands_in k before) (sym c.as_str.ensures.bytes) ∙ sym same ∙ c.if-branch.true)
    (c.under_key.ensures (Some (field [])) c.field.ensures))

pub check_members-returns-in-Err : goal.check_members-returns-in-Err
check_members-returns-in-Err t c =
    let xs = c.args.pairs.now in
    let i = c.loop-pair.pair-index in
    let x = c.pair-item.result in
    let before : List (List ℕ) = map (λ p. p.0) (take i xs) in
    let same = (c.in_ok-stands_again.ensures before c.loop-pair.invariant.seen).0 in
    node_pair_told xs i x (omega arith) c.pair-item.is before _ c.loop-pair.invariant.fault _
    (told_fresh before x.0 _ _ (ap (λ k. stands_in k before) (sym c.as_str.ensures.bytes) ∙ sym same ∙ c.if-branch.false)
    (c.under_key-in-Err.ensures (node_fault (node_of x.1)) c.in-Err.ensures))
