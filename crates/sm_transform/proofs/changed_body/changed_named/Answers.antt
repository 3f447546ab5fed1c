use Rattle.std.proofs.Common.{ℕ, List, ap, sym, ◌∙◌}
use Rattle.sm_tree.specs.Node.{Node, members_of}
use Rattle.sm_tree.specs.View.{members_view, node_of}
use Rattle.sm_transform.specs.IdChanges.{named_after, object_left}
use Rattle.sm_transform.proofs.ChangedParts.{values_listed}
use Rattle.sm_transform.proofs.changed_body.changed_named.Goals as goal

pub returns-in_ok-left-in-Some : goal.returns-in_ok-left-in-Some
returns-in_ok-left-in-Some g c =
    let change = g.C.ChangesIds.after c.args.change.now in
    let pairs = members_view c.in-Some.pairs.now in
    c.left_object.ensures
    ∙ ap (λ (ns : List (List ℕ × Node)). object_left (members_of pairs) (members_of ns)) c.in_ok-left-in-Some.ensures
    ∙ ap (object_left (members_of pairs)) (sym (values_listed change pairs))
    ∙ ap (named_after change (node_of c.args.tree.now)) (sym c.in-Some.ensures.part)
