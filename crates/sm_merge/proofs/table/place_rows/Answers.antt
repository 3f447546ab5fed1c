use Rattle.std.proofs.Common.{arith, ◌≡◌, ◌++◌, [], sym, subst, rules}
use Rattle.std.proofs.lemmas.Grind.{common_steps}
use Rattle.std.proofs.lemmas.List.{nil_from_length}
use Rattle.std.specs.Vec.Iter.{into_iter_items}
use Rattle.sm_groups.specs.Groups.{AreGroupsOf, groups_view}
use Rattle.sm_merge.specs.steps.Tables.{AreListsOfNodes, ComeToRows, ComeToTraits, HoldGroups, pairs_views, places_view}
use Rattle.sm_merge.proofs.TablesMade.{groups_of_lists, places_made}
use Rattle.sm_merge.proofs.table.place_rows.Goals as goal

pub loop-group-init : goal.loop-group-init
loop-group-init c =
    let groups = c.in_ok-groups.groups.items in
    let all : into_iter_items c.into_iter-group-iterator.result ≡ groups = search rules in
    record {
      nodes = subst (λ gs. HoldGroups (λ key ps. AreListsOfNodes (pairs_views ps)) (groups_view gs)) (sym all)
          (groups_of_lists c.args.lists.items (groups_view groups) c.in_ok-groups.ensures c.requires);
      rows = λ more h.
          subst (λ rs. ComeToRows (λ ps vs. ComeToTraits (pairs_views ps) vs)
          (groups_view (into_iter_items c.into_iter-group-iterator.result)) (places_view rs ++ more)) (sym c.in_ok-rows.ensures.items) h;
    }

pub returns : goal.returns
returns c =
    let groups = c.in_ok-groups.groups.items in
    let all : into_iter_items c.into_iter-group-iterator.result ≡ groups = search rules in
    let ended : into_iter_items c.loop-group.group-iterator ≡ [] =
    first_of (grind (arith, common_steps), search (rules, nil_from_length)) in
    places_made c.args.lists.items (into_iter_items c.into_iter-group-iterator.result) (into_iter_items c.loop-group.group-iterator)
    c.loop-group.rows.items ended
    (subst (λ gs. AreGroupsOf c.args.lists.items (groups_view gs)) (sym all) c.in_ok-groups.ensures) c.loop-group.invariant.rows
