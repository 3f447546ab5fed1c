use Rattle.sm_bind_read.proofs.TakenLast.{is_taken, none_left, not_taken}
use Rattle.std.proofs.Common.{◌-◌, length, sym, ap, ◌∙◌}
use Rattle.std.specs.Prelude.{slice_get}
use Rattle.sm_bind_read.specs.steps.Coming.{is_number}
use Rattle.sm_bind_read.proofs.pending.take_last.Goals as goal

pub returns-then-not-is_last : goal.returns-then-not-is_last
returns-then-not-is_last c = λ o left is last.
    not_taken c.args.number c.args.fields.now.items o left is
    (ap (λ gs. is_number c.args.number (slice_get gs (length gs - 1))) (sym c.as_slice.ensures.value) ∙ sym c.is_last.ensures
    ∙ c.if-not-is_last.true)

pub returns-in-Some : goal.returns-in-Some
returns-in-Some c = λ o left is last.
    is_taken c.args.number c.args.fields.now.items o left is last
    (ap (λ gs. is_number c.args.number (slice_get gs (length gs - 1))) (sym c.as_slice.ensures.value) ∙ sym c.is_last.ensures
    ∙ c.if-not-is_last.false)
    c.popped.new.fields.items c.in-Some.field c.in-Some.ensures

pub returns-in-None : goal.returns-in-None
returns-in-None c = λ o left is last.
    absurd (none_left c.args.number c.args.fields.now.items o left is
    (ap (λ gs. is_number c.args.number (slice_get gs (length gs - 1))) (sym c.as_slice.ensures.value) ∙ sym c.is_last.ensures
    ∙ c.if-not-is_last.false)
    c.in-None.ensures)
