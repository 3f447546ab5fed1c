use Rattle.std.proofs.Common.{◌+◌, ◌∷◌, [], ap, drop, get_or, sym, ◌∙◌}
use Rattle.std.specs.Prelude.{◌||◌}
use Rattle.sm_bind.specs.BoundView.{bound_of}
use Rattle.sm_bind.specs.Roles.{is_among}
use Rattle.sm_bind_read.specs.steps.Taken.{has_text, queries_of}
use Rattle.sm_bind_read.proofs.KeysTaken.{held, queries_split}
use Rattle.sm_bind_read.proofs.MembersJoined.{number_is}
use Rattle.sm_bind_read.proofs.taken.put_queries.Goals as goal

pub loop-member-preserved : goal.loop-member-preserved
loop-member-preserved c = λ key.
    let b = bound_of c.args.place.now in
    let members = c.args.members.now in
    let one = get_or members c.loop-member.member-index 0 in
    let rest = drop (c.loop-member.member-index + 1) members in
    let parts = number_is members c.loop-member.member-index c.loop-member-test.true in
    held (has_text c.loop-member.keys key) (has_text c.put_query.new.keys key) (is_among (queries_of b (one ∷ [])) key)
    (is_among (queries_of b rest) key) (has_text c.args.keys.now key || is_among (queries_of b members) key) (c.in_ok-put_query.ensures key)
    (ap (λ z. has_text c.loop-member.keys key || z) (sym (queries_split b one rest key))
    ∙ ap (λ ks. has_text c.loop-member.keys key || is_among (queries_of b ks) key) (sym parts) ∙ c.loop-member.invariant key)
