use Rattle.std.proofs.Common.{arith, rules}
use Rattle.std.proofs.lemmas.Int.{ints}
use Rattle.sm_time.specs.TimeText.{ahead, behind}
use Rattle.sm_time.proofs.ZoneFacts.{six_bytes}
use Rattle.sm_time.proofs.zone.zone_offset.Goals as goal

pub returns-in-Some-clause-value : goal.returns-in-Some-clause-value
returns-in-Some-clause-value c =
    let h = c.in-Some.ensures.value in (
      ahead h.0 h.1,
      (h.2, h.3),
      six_bytes c.args.text.now 43 h.0 h.1 (omega arith) (search rules) (search rules) h.4 h.5,
      omega
          (arith, ints, h.6, h.2, h.3),
    )

pub returns-in-Some-clock_offset-clause-value : goal.returns-in-Some-clock_offset-clause-value
returns-in-Some-clock_offset-clause-value c =
    let h = c.in-Some-clock_offset.ensures.value in (
      behind h.0 h.1,
      (h.2, h.3),
      six_bytes c.args.text.now 45 h.0 h.1 (omega arith) (search rules) (search rules) h.4 h.5,
      omega
          (arith, ints, h.6, h.2, h.3),
    )
