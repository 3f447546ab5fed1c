use Rattle.std.proofs.Common.{◌+◌, ◌≤◌, ◌++◌, length, take, sym, ap, subst, ◌∙◌}
use Rattle.sm_cbor.specs.Heads.{array_type}
use Rattle.sm_cbor.specs.Written.{written_head}
use Rattle.sm_cbor.proofs.Counts.{nodes_counted}
use Rattle.sm_cbor.proofs.write.place_list_head.Goals as goal

pub place_head-requires-clause-room : goal.place_head-requires-clause-room
place_head-requires-clause-room c = subst (λ n. c.args.at + length (written_head array_type n) ≤ length c.args.buf.now)
    (nodes_counted c.args.items.now) c.requires.room

pub returns-clause-bytes : goal.returns-clause-bytes
returns-clause-bytes c = c.place_head.ensures.bytes
    ∙ ap (λ n. take c.args.at c.args.buf.now ++ written_head array_type n) (sym (nodes_counted c.args.items.now))

pub returns-clause-next : goal.returns-clause-next
returns-clause-next c = c.place_head.ensures.next
    ∙ ap (λ n. c.args.at + length (written_head array_type n)) (sym (nodes_counted c.args.items.now))
