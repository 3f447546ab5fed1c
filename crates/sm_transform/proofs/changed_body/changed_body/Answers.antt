use Rattle.std.proofs.Common.{ℕ, List, ap, sym, ◌∙◌}
use Rattle.sm_tree.specs.Node.{Node, members_of, object}
use Rattle.sm_tree.specs.View.{members_view, node_of}
use Rattle.sm_tree.proofs.Views.{node_object_pairs}
use Rattle.sm_transform.specs.IdChanges.{pairs_after}
use Rattle.sm_transform.proofs.ChangedParts.{fields_listed}
use Rattle.sm_transform.proofs.changed_body.changed_body.Goals as goal

pub returns-in_ok-left-in-Some : goal.returns-in_ok-left-in-Some
returns-in_ok-left-in-Some g c =
    let change = g.C.ChangesIds.after c.args.change.now in
    let pairs = members_view c.in-Some.pairs.now in
    node_object_pairs c.new.result ∙ ap (λ (ps : List (List ℕ × Node)). object (members_of ps)) (c.new.ensures
    ∙ c.in_ok-left-in-Some.ensures)
    ∙ ap object (sym (fields_listed change c.args.kind pairs))
    ∙ ap (pairs_after change c.args.kind (node_of c.args.tree.now)) (sym c.in-Some.ensures.part)
