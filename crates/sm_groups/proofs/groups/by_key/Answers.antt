use Rattle.std.proofs.Common.{◌≡◌, sym, subst}
use Rattle.std.proofs.lemmas.Result.{IfOk-weaker}
use Rattle.sm_groups.specs.Groups.{AreGroupsOf, grouped, groups_view}
use Rattle.sm_groups.proofs.GroupsMade.{groups_of}
use Rattle.sm_groups.proofs.groups.by_key.Goals as goal

pub returns : goal.returns
returns g c =
    let rows = c.in_ok-in_order.field-0.items in
    IfOk-weaker c.gathered.result (λ gs. groups_view gs.items ≡ grouped rows) (λ gs. AreGroupsOf c.args.rows.items (groups_view gs.items))
    (λ gs are. subst (AreGroupsOf c.args.rows.items) (sym are)
    (groups_of c.args.rows.items rows c.in_ok-in_order.ensures.sorted c.in_ok-in_order.ensures.stable))
    c.gathered.ensures
