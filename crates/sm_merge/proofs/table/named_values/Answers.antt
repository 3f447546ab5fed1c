use Rattle.std.proofs.Common.{arith, ◌≡◌, ◌++◌, [], sym, subst, rules}
use Rattle.std.proofs.lemmas.Grind.{common_steps}
use Rattle.std.proofs.lemmas.List.{nil_from_length}
use Rattle.std.specs.Vec.Iter.{into_iter_items}
use Rattle.sm_tree.specs.View.{nodes_view}
use Rattle.sm_merge.specs.steps.Folding.{AreNodes, IsFolded}
use Rattle.sm_groups.specs.Groups.{AreGroupsOf, groups_view}
use Rattle.sm_merge.specs.steps.Tables.{ComeToRows, HoldGroups, named_view}
use Rattle.sm_merge.proofs.TablesMade.{groups_of_nodes, values_made}
use Rattle.sm_merge.proofs.table.named_values.Goals as goal

pub loop-group-init : goal.loop-group-init
loop-group-init c =
    let groups = c.in_ok-groups.groups.items in
    let all : into_iter_items c.into_iter-group-iterator.result ≡ groups = search rules in
    record {
      nodes = subst (λ gs. HoldGroups (λ key ts. AreNodes (nodes_view ts)) (groups_view gs)) (sym all)
          (groups_of_nodes c.args.pairs.items (groups_view groups) c.in_ok-groups.ensures c.requires);
      rows = λ more h.
          subst (λ vs. ComeToRows (λ ts f. IsFolded (nodes_view ts) f) (groups_view (into_iter_items c.into_iter-group-iterator.result))
          (named_view vs ++ more)) (sym c.in_ok-values.ensures.items) h;
    }

pub returns : goal.returns
returns c =
    let groups = c.in_ok-groups.groups.items in
    let all : into_iter_items c.into_iter-group-iterator.result ≡ groups = search rules in
    let ended : into_iter_items c.loop-group.group-iterator ≡ [] =
    first_of (grind (arith, common_steps), search (rules, nil_from_length)) in
    values_made c.args.pairs.items (into_iter_items c.into_iter-group-iterator.result) (into_iter_items c.loop-group.group-iterator)
    c.loop-group.values.items ended
    (subst (λ gs. AreGroupsOf c.args.pairs.items (groups_view gs)) (sym all) c.in_ok-groups.ensures) c.loop-group.invariant.rows
