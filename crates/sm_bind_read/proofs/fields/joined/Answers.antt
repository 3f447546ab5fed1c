use Rattle.std.proofs.Common.{◌+◌, ◌∷◌, ◌++◌, ap, drop, sym, ◌∙◌}
use Rattle.std.specs.List.{join_with_byte}
use Rattle.sm_bytes.specs.Ascii.{comma}
use Rattle.sm_bind_read.specs.steps.Sources.{joined_on, with_comma}
use Rattle.sm_bind_read.proofs.MembersJoined.{next_is}
use Rattle.sm_bind_read.proofs.PartsPut.{joined_next, put_on}
use Rattle.sm_bind_read.proofs.fields.joined.Goals as goal

pub loop-index-preserved : goal.loop-index-preserved
loop-index-preserved c =
    let texts = c.args.texts.now in
    let i = c.loop-index.index in
    let one = c.index-texts-index.result in
    let rest = drop (i + 1) texts in
    let parts = next_is texts i one c.loop-index-test.true c.index-texts-index.is in
    put_on c.loop-index.bytes.items c.put_joined.new.bytes.items (with_comma i one) (joined_on (i + 1) rest) (joined_on i (one ∷ rest))
    (join_with_byte comma texts)
    (c.in_ok-put_joined.ensures ∙ ap (λ w. c.loop-index.bytes.items ++ with_comma i w) c.as_slice.ensures) (joined_next i one rest)
    (ap (λ us. c.loop-index.bytes.items ++ joined_on i us) (sym parts) ∙ c.loop-index.invariant)
