use Rattle.std.proofs.Common.{◌+◌, map, refl, ◌∙◌}
use Rattle.sm_shapes.specs.InOrder.{is_needed}
use Rattle.sm_shapes.specs.TableView.{member_data}
use Rattle.sm_compile.specs.steps.Numbered.{only_members}
use Rattle.sm_compile.proofs.OrderedMembers.{kept_more}
use Rattle.sm_compile.proofs.orders.needed.Goals as goal

pub loop-place-preserved : goal.loop-place-preserved
loop-place-preserved c =
    let p = is_needed (only_members (map member_data c.args.rows.now)) in
    let first = c.args.first in
    let place = c.loop-place.place in
    c.in_ok-put_needed.ensures ∙ kept_more p first place (p (first + place)) c.loop-place.numbers.items refl c.loop-place.invariant
