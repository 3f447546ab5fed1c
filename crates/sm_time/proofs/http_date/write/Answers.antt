use Rattle.std.proofs.Common.{◌≡◌, arith, ap, ◌∙◌, length, pos, ◌≤ℤ◌, FitsSigned, w64, to_z, of_z, to_z-of_z, rules}
use Rattle.std.proofs.lemmas.Int.{ints}
use Rattle.sm_time.proofs.HttpForms.{date_written}
use Rattle.sm_time.proofs.http_date.write.Goals as goal

pub returns : goal.returns
returns c =
    let fits : FitsSigned w64 c.milliseconds-milliseconds.result = search rules in
    let back : to_z w64 (of_z w64 c.milliseconds-milliseconds.result) ≡ c.args.stamp = to_z-of_z fits
    ∙ c.milliseconds-milliseconds.ensures.value in
    let sign = rw back at c.if-milliseconds-lt0.false in
    let low : pos 0 ≤ℤ c.args.stamp = omega (arith, ints, sign) in
    let whole = rw back at c.if-elapsed-ne0.false in
    let seconds = rw back at c.in-Ok.ensures.value in
    let text = c.to_bytes.ensures ∙ date_written c.in-Ok.date c.args.stamp low whole seconds in
    let short : length c.to_bytes.result ≡ 29 = search rules in (
      (low, whole),
      c.place_slice.ensures.next ∙ omega (arith, ap length text),
      omega (arith, c.place_slice.ensures.next, short),
      c.place_slice.ensures.bytes
          ∙ text,
      c.place_slice.ensures.after,
    )
