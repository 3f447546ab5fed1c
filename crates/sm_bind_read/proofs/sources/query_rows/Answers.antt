use Rattle.std.proofs.Common.{◌+◌, ◌∷◌, [], ◌++◌, ap, drop, sym, ◌∙◌}
use Rattle.std.specs.Str.{is_utf8}
use Rattle.sm_bind_read.specs.steps.Sources.{text_rows}
use Rattle.sm_bind_read.proofs.MembersJoined.{next_is}
use Rattle.sm_bind_read.proofs.PartsPut.{filter_on, put_on}
use Rattle.sm_bind_read.proofs.sources.query_rows.Goals as goal

pub loop-pair-preserved : goal.loop-pair-preserved
loop-pair-preserved c =
    let pairs = c.args.pairs.now in
    let one = c.pair-item.result in
    let rest = drop (c.loop-pair.pair-index + 1) pairs in
    let parts = next_is pairs c.loop-pair.pair-index one c.loop-pair-test.true c.pair-item.is in
    put_on c.loop-pair.rows.items c.put_pair.new.rows.items (text_rows (one ∷ [])) (text_rows rest) (text_rows (one ∷ rest)) (text_rows pairs)
    c.in_ok-put_pair.ensures (filter_on (λ p. is_utf8 p.0) one rest)
    (ap (λ ps. c.loop-pair.rows.items ++ text_rows ps) (sym parts) ∙ c.loop-pair.invariant)
