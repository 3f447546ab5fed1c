use Rattle.std.proofs.Common.{◌≡◌, inl, inr, true, false, refl, arith}
use Rattle.std.proofs.lemmas.Bool.{cases_lt}
use Rattle.sm_cbor.proofs.ByteSteps.{argument_more, argument_more_reached, argument_takes, simple_bad, sum_fits}
use Rattle.sm_cbor.proofs.read.Reader.argument.Goals as goal

pub begin_argument-requires-clause-sound : goal.begin_argument-requires-clause-sound
begin_argument-requires-clause-sound g c =
    argument_more c.args.self.now c.args.subject c.args.left c.args.value c.args.byte c.requires.sound c.requires.some c.ranges.byte.fits
    (λ e. elim (cases_lt c.args.byte 32) [
      | inl small ↦ let told : false ≡ true = c.if-is_no_simple.ensures.1 (e, small) in absurd cc
      | inr large ↦ large
    ])

pub returns-then-is_no_simple-clause-goes : goal.returns-then-is_no_simple-clause-goes
returns-then-is_no_simple-clause-goes g c =
    let (is, small) = c.if-is_no_simple.ensures.0 refl in (
      refl,
      simple_bad c.args.self.now c.args.subject c.args.left c.args.value c.args.byte c.requires.sound
          c.requires.some is small,
      λ es h. h,
    )

pub overflow_mul-value : goal.overflow_mul-value
overflow_mul-value g c =
    let fits = sum_fits c.args.self.now c.args.subject c.args.left c.args.value c.args.byte c.requires.sound c.requires.some
    c.ranges.byte.fits in omega (arith, fits)

pub overflow_add-value : goal.overflow_add-value
overflow_add-value g c =
    let fits = sum_fits c.args.self.now c.args.subject c.args.left c.args.value c.args.byte c.requires.sound c.requires.some
    c.ranges.byte.fits in omega (arith, fits)

pub begin_argument-requires-clause-reached : goal.begin_argument-requires-clause-reached
begin_argument-requires-clause-reached g c =
    argument_more_reached (g.E.EventSink.stands_for c.args.to.now) c.args.self.now c.args.subject c.args.left c.args.value c.args.byte
    c.requires.some c.ranges.byte.fits c.requires.reached

pub returns-clause-goes : goal.returns-clause-goes
returns-clause-goes g c =
    argument_takes (g.E.EventSink.stands_for c.args.to.now) (g.E.EventSink.stands_for c.begin_argument.new.to) c.args.self.now
    c.begin_argument.new.self c.args.subject c.args.left c.args.value c.args.byte c.requires.some c.ranges.byte.fits
    c.in_ok-begin_argument.ensures.goes
