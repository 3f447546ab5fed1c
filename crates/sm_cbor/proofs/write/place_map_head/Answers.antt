use Rattle.std.proofs.Common.{◌+◌, ◌≤◌, ◌++◌, length, take, sym, ap, subst, ◌∙◌}
use Rattle.sm_cbor.specs.Heads.{map_type}
use Rattle.sm_cbor.specs.Written.{written_head}
use Rattle.sm_cbor.proofs.Counts.{members_counted}
use Rattle.sm_cbor.proofs.write.place_map_head.Goals as goal

pub place_head-requires-clause-room : goal.place_head-requires-clause-room
place_head-requires-clause-room c = subst (λ n. c.args.at + length (written_head map_type n) ≤ length c.args.buf.now)
    (members_counted c.args.pairs.now) c.requires.room

pub returns-clause-bytes : goal.returns-clause-bytes
returns-clause-bytes c = c.place_head.ensures.bytes
    ∙ ap (λ n. take c.args.at c.args.buf.now ++ written_head map_type n) (sym (members_counted c.args.pairs.now))

pub returns-clause-next : goal.returns-clause-next
returns-clause-next c = c.place_head.ensures.next
    ∙ ap (λ n. c.args.at + length (written_head map_type n)) (sym (members_counted c.args.pairs.now))
