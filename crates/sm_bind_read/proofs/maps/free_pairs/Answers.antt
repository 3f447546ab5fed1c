use Rattle.std.proofs.Common.{◌+◌, ◌∷◌, [], ◌++◌, ap, drop, filter, sym, ◌∙◌}
use Rattle.sm_bind_read.specs.steps.Sources.{is_free}
use Rattle.sm_bind_read.specs.steps.Taken.{has_text}
use Rattle.sm_bind_read.proofs.MembersJoined.{next_is}
use Rattle.sm_bind_read.proofs.PartsPut.{filter_on, put_on}
use Rattle.sm_bind_read.proofs.maps.free_pairs.Goals as goal

pub loop-pair-preserved : goal.loop-pair-preserved
loop-pair-preserved c =
    let pairs = c.args.pairs.now in
    let free = is_free (has_text c.args.taken.now) in
    let one = c.pair-item.result in
    let rest = drop (c.loop-pair.pair-index + 1) pairs in
    let parts = next_is pairs c.loop-pair.pair-index one c.loop-pair-test.true c.pair-item.is in
    put_on c.loop-pair.rows.items c.put_free.new.rows.items (filter free (one ∷ [])) (filter free rest) (filter free (one ∷ rest))
    (filter free pairs) c.in_ok-put_free.ensures (filter_on free one rest)
    (ap (λ ps. c.loop-pair.rows.items ++ filter free ps) (sym parts) ∙ c.loop-pair.invariant)
