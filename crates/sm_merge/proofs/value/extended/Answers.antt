use Rattle.std.proofs.Common.{◌≡◌, ◌⊎◌, ◌+◌, inr, inl, refl, sym, ap, subst, ◌∙◌}
use Rattle.std.specs.Prelude.{IsTrue, ◌↔◌}
use Rattle.sm_tree.specs.Node.{list, nodes_of}
use Rattle.sm_tree.specs.Same.{IsNode}
use Rattle.sm_tree.specs.Size.{node_size, nodes_size}
use Rattle.sm_tree.specs.View.{items_view, node_of}
use Rattle.sm_tree.specs.declared.tree.Tree.TheVariants.{List as Array}
use Rattle.sm_tree.proofs.Views.{node_list_items}
use Rattle.sm_bytes.specs.Lengths.{length_word}
use Rattle.sm_merge.specs.Values.{joined, AreInConflict}
use Rattle.sm_merge.proofs.Folds.{entries_joined, node_joined, size_joined, sizes_added, told_joined}
use Rattle.sm_merge.proofs.value.extended.Goals as goal

pub returns : goal.returns
returns c =
    let xs = nodes_of (items_view c.args.items) in
    let ys = nodes_of (items_view c.in-Ok.more) in
    let is_next : node_of c.args.next ≡ list ys = c.in-Ok.ensures in
    let made : node_of (Array c.in_ok-joined-in-Ok.field-0) ≡ list (joined xs ys) =
    node_list_items c.in_ok-joined-in-Ok.field-0 ∙ ap (λ ns. list (nodes_of ns)) c.in_ok-joined-in-Ok.ensures
    ∙ ap list (entries_joined (items_view c.args.items) (items_view c.in-Ok.more)) in
    record {
      running = record {
        is_node = subst IsNode (sym made) (node_joined xs ys c.requires.items (subst IsNode is_next c.requires.next));
        size =
            sizes_added c.args.size c.args.next_size c.saturating_add.result (nodes_size xs) (nodes_size ys) c.requires.size
            (c.requires.next_size ∙ ap (λ n. length_word (node_size n)) is_next) c.saturating_add.ensures
            ∙ ap (λ k. length_word (1 + k)) (sym (size_joined xs ys)) ∙ ap (λ n. length_word (node_size n)) (sym made);
      };
      came = inr (inl (xs, ys, refl, is_next, c.requires.differ, made));
      told = subst (λ n. IsTrue c.args.conflict ↔ (IsTrue c.args.conflict ⊎ AreInConflict (list xs) n)) (sym is_next)
          (told_joined c.args.conflict xs ys);
    }
