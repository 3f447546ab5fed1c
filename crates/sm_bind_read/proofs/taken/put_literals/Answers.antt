use Rattle.std.proofs.Common.{◌+◌, ap, drop, map, sym, ◌∙◌}
use Rattle.std.specs.Prelude.{◌||◌}
use Rattle.std.specs.Str.{bytes_eq}
use Rattle.sm_bind.specs.Roles.{is_among}
use Rattle.sm_bind_read.specs.steps.Taken.{has_text}
use Rattle.sm_bind_read.proofs.KeysTaken.{held}
use Rattle.sm_bind_read.proofs.MembersJoined.{next_is}
use Rattle.sm_bind_read.proofs.taken.put_literals.Goals as goal

pub loop-literal-preserved : goal.loop-literal-preserved
loop-literal-preserved c = λ key.
    let literals = c.args.literals.now in
    let one = c.literal-item.result in
    let rest = drop (c.loop-literal.literal-index + 1) literals in
    let parts = next_is literals c.loop-literal.literal-index one c.loop-literal-test.true c.literal-item.is in
    held (has_text c.loop-literal.keys key) (has_text c.put_key.new.keys key) (bytes_eq key one.0) (is_among (map (λ p. p.0) rest) key)
    (has_text c.args.keys.now key || is_among (map (λ p. p.0) literals) key)
    (c.in_ok-put_key.ensures key ∙ ap (λ w. has_text c.loop-literal.keys key || bytes_eq key w) c.as_str.ensures.bytes)
    (ap (λ ls. has_text c.loop-literal.keys key || is_among (map (λ p. p.0) ls) key) (sym parts) ∙ c.loop-literal.invariant key)
