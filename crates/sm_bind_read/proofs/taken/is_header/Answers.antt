use Rattle.std.proofs.Common.{◌+◌, ap, drop, get_or, sym, ◌∙◌}
use Rattle.std.specs.Prelude.{◌||◌}
use Rattle.std.specs.Str.{str_to_ascii_lowercase}
use Rattle.sm_bind.specs.BoundView.{bound_of}
use Rattle.sm_bind.specs.Roles.{is_among}
use Rattle.sm_bind_read.specs.steps.Taken.{headers_of}
use Rattle.sm_bind_read.proofs.KeysTaken.{headers_split}
use Rattle.sm_bind_read.proofs.MembersJoined.{number_is}
use Rattle.sm_bind_read.proofs.taken.is_header.Goals as goal

pub loop-member-preserved : goal.loop-member-preserved
loop-member-preserved c =
    let b = bound_of c.args.place.now in
    let w = str_to_ascii_lowercase c.args.name.now in
    let members = c.args.members.now in
    let one = get_or members c.loop-member.member-index 0 in
    let rest = drop (c.loop-member.member-index + 1) members in
    let parts = number_is members c.loop-member.member-index c.loop-member-test.true in
    ap (λ z. z || is_among (headers_of b rest) w) (sym c.if-is_header_at.false ∙ c.is_header_at.ensures) ∙ sym (headers_split b one rest w)
    ∙ ap (λ ks. is_among (headers_of b ks) w) (sym parts) ∙ c.loop-member.invariant

pub returns-then-is_header_at : goal.returns-then-is_header_at
returns-then-is_header_at c =
    let b = bound_of c.args.place.now in
    let w = str_to_ascii_lowercase c.args.name.now in
    let members = c.args.members.now in
    let one = get_or members c.loop-member.member-index 0 in
    let rest = drop (c.loop-member.member-index + 1) members in
    let parts = number_is members c.loop-member.member-index c.loop-member-test.true in
    ap (λ z. z || is_among (headers_of b rest) w) (sym c.if-is_header_at.true ∙ c.is_header_at.ensures) ∙ sym (headers_split b one rest w)
    ∙ ap (λ ks. is_among (headers_of b ks) w) (sym parts) ∙ c.loop-member.invariant
