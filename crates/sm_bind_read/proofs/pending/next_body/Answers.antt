use Rattle.std.specs.Option.{option_map}
use Rattle.sm_shapes.specs.ValueView.{val_of}
use Rattle.sm_bind.specs.BoundView.{bound_of}
use Rattle.sm_bind_read.proofs.PendingTakes.{takes_next, takes_none}
use Rattle.sm_bind_read.proofs.pending.next_body.Goals as goal

pub returns-then-pending : goal.returns-then-pending
returns-then-pending c = λ came ks h.
    takes_next (bound_of c.args.place.now) came c.args.member ks c.args.pending.now c.next_field.new.pending
    (option_map val_of c.next_field.result) c.requires.body c.if-pending.true c.next_field.ensures.there c.next_field.ensures.next h

pub returns-else-pending : goal.returns-else-pending
returns-else-pending c = λ came ks h.
    takes_none (bound_of c.args.place.now) came c.args.member ks c.args.pending.now c.absent_value.result c.requires.body c.if-pending.false
    c.absent_value.ensures h
