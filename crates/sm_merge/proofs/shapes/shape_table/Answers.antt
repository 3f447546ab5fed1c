use Rattle.std.proofs.Common.{arith, ◌≡◌, ◌++◌, [], ℕ, List, ap, sym, subst, rules, append-nil, refl, ◌∙◌}
use Rattle.std.specs.List.{flat_map}
use Rattle.std.proofs.lemmas.Grind.{common_steps}
use Rattle.std.proofs.lemmas.List.{nil_from_length}
use Rattle.std.specs.Vec.Iter.{into_iter_items}
use Rattle.sm_groups.specs.Groups.{AreGroupsOf, group_view, groups_view}
use Rattle.sm_merge.specs.steps.ShapeTables.{ArePicked, AreSoundUnder, kept_of}
use Rattle.sm_merge.specs.steps.Tables.{HoldGroups}
use Rattle.sm_merge.proofs.ShapesFound.{groups_sound, rows_step, wrong_step}
use Rattle.sm_merge.proofs.shapes.shape_table.Goals as goal

pub loop-group-init : goal.loop-group-init
loop-group-init c =
    let groups = c.in_ok-groups.groups.items in
    let all : into_iter_items c.into_iter-group-iterator.result ≡ groups = search rules in
    record {
      sound = subst (λ gs. HoldGroups AreSoundUnder (groups_view gs)) (sym all)
          (groups_sound c.args.rows.items (groups_view groups) c.in_ok-groups.ensures c.requires);
      rows = search rules;
      wrong = λ more h. search rules;
    }

pub loop-group-preserved : goal.loop-group-preserved
loop-group-preserved c =
    let parts = ap groups_view c.in-Some.ensures.steps.0 in
    let left = groups_view (into_iter_items c.next.new.self) in
    let all = groups_view (into_iter_items c.into_iter-group-iterator.result) in
    let g = group_view c.in-Some.group in
    let before = c.loop-group.shapes in
    let after = c.put_group.new.shapes in
    record {
      sound = (subst (HoldGroups AreSoundUnder) parts c.loop-group.invariant.sound).1;
      rows = rows_step g left all before.rows.items after.rows.items c.in_ok-put_group.ensures.rows
          (subst (λ gs. before.rows.items ++ flat_map kept_of gs ≡ flat_map kept_of all) parts c.loop-group.invariant.rows);
      wrong = wrong_step g left all before.wrong.items after.wrong.items c.in_ok-put_group.ensures.wrong
          (subst (λ gs. (more : List (List ℕ)) → ArePicked gs more → ArePicked all (before.wrong.items ++ more)) parts
          c.loop-group.invariant.wrong);
    }

pub returns : goal.returns
returns c =
    let groups = c.in_ok-groups.groups.items in
    let all : into_iter_items c.into_iter-group-iterator.result ≡ groups = search rules in
    let ended : into_iter_items c.loop-group.group-iterator ≡ [] =
    first_of (grind (arith, common_steps), search (rules, nil_from_length)) in
    record {
      groups = groups_view (into_iter_items c.into_iter-group-iterator.result);
      are = subst (λ gs. AreGroupsOf c.args.rows.items (groups_view gs)) (sym all) c.in_ok-groups.ensures;
      rows =
          sym (append-nil c.loop-group.shapes.rows.items)
          ∙ sym (ap (λ gs. c.loop-group.shapes.rows.items ++ flat_map kept_of (groups_view gs)) ended) ∙ c.loop-group.invariant.rows;
      wrong =
          subst (ArePicked (groups_view (into_iter_items c.into_iter-group-iterator.result))) (append-nil c.loop-group.shapes.wrong.items)
          (c.loop-group.invariant.wrong [] (subst (λ gs. ArePicked (groups_view gs) []) (sym ended) refl));
    }
