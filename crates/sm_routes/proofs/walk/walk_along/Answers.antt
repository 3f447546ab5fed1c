use Rattle.std.proofs.Common.{◌≡◌, ◌+◌, false, sym, subst}
use Rattle.std.specs.Option.{option_copied}
use Rattle.sm_routes.specs.steps.Matching.{pieces_left}
use Rattle.sm_routes.specs.steps.Passing.{first_piece, is_wide, misses, stand_of}
use Rattle.sm_routes.proofs.Walked.{Walked, live, walk_on}
use Rattle.sm_routes.proofs.walk.walk_along.Goals as goal

pub segments-preserved : goal.segments-preserved
segments-preserved c =
    let segments = c.args.segments.now in
    let pieces = pieces_left c.args.path in
    let own = c.segments.own.now in
    let left = pieces_left c.segments.left in
    let next = option_copied c.first_of-next.result.first in
    let taken : misses (stand_of own (first_piece left)) ≡ false =
    live misses own next left c.stand_to-stand.result c.misses.result c.stand_to-stand.ensures c.first_of-next.ensures.first c.misses.ensures
    c.if-misses.false in
    let narrow : is_wide (stand_of own (first_piece left)) ≡ false =
    live is_wide own next left c.stand_to-stand.result c.is_wide.result c.stand_to-stand.ensures c.first_of-next.ensures.first c.is_wide.ensures
    c.if-is_wide.false in
    subst (λ ps. Walked segments pieces (c.segments.depth + 1) c.in-Some.more.now ps) (sym c.first_of-next.ensures.behind)
    (walk_on segments pieces c.segments.depth own left c.segments.invariant c.in-Some.field-0-0.now c.in-Some.more.now c.in-Some.ensures.cases.0
    taken narrow)
