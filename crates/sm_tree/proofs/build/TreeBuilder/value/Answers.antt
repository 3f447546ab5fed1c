use Rattle.std.proofs.Common.{◌≡◌, ◌++◌, true, [], ap, sym, subst, ◌∙◌}
use Rattle.std.proofs.lemmas.Result.{on_ok_weaker}
use Rattle.sm_tree.specs.View.{node_of}
use Rattle.sm_tree.specs.Events.{events}
use Rattle.sm_tree.specs.Building.{so_far, awaits_value, inner_awaits_content, within}
use Rattle.sm_tree.specs.BuilderView.{inner_of, open_of, state_of, outer_of}
use Rattle.sm_tree.specs.declared.build.State.{State}
use Rattle.sm_tree.proofs.Building.{value_taken, tagged_events, with_tree_content}
use Rattle.sm_tree.proofs.build.TreeBuilder.value.Goals as goal

pub returns-in-Within-clause-taken : goal.returns-in-Within-clause-taken
returns-in-Within-clause-taken c =
    let awaits : awaits_value (open_of c.in-Within.open) ≡ true =
    subst (λ (s : State). awaits_value (state_of s) ≡ true) c.in-Within.is c.requires in
    on_ok_weaker c.put.result
    (λ put. ap (λ i. so_far (within c.in-Within.open.tags.items i (outer_of c.in-Within.open))) put
    ∙ value_taken (open_of c.in-Within.open) (node_of c.args.tree) awaits
    ∙ ap (λ (s : State). so_far (state_of s) ++ events (node_of c.args.tree) []) (sym c.in-Within.is))
    c.put.ensures

pub returns-in_ok-whole-in-Empty-clause-taken : goal.returns-in_ok-whole-in-Empty-clause-taken
returns-in_ok-whole-in-Empty-clause-taken c =
    ap (λ n. events n []) c.in_ok-whole-in-Empty.ensures.tree ∙ tagged_events c.in-Empty.tags.items (node_of c.args.tree) []
    ∙ ap (λ (s : State). so_far (state_of s) ++ events (node_of c.args.tree) []) (sym c.in-Empty.is)

pub returns-in-Within-clause-content : goal.returns-in-Within-clause-content
returns-in-Within-clause-content c =
    on_ok_weaker c.put.result
    (λ put. ap inner_awaits_content put ∙ with_tree_content (inner_of c.in-Within.open.inner) (node_of c.args.tree))
    c.put.ensures
