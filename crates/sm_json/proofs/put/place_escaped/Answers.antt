use Rattle.std.proofs.Common.{sym, ap, ◌∙◌, ◌++◌, length, take, arith}
use Rattle.sm_json.proofs.Placed.{placed_before}
use Rattle.sm_json.proofs.PlainRuns.{unescaped_run, run_fits, run_to_end, run_to_byte, length_to_byte}
use Rattle.sm_json.proofs.put.place_escaped.Goals as goal

pub place_slice-at-requires : goal.place_slice-at-requires
place_slice-at-requires c =
    let fits = run_fits c.run_len.result c.loop-byte.rest.now (unescaped_run c.loop-byte.rest.now c.run_len.result c.run_len.ensures.run) in
    record { room = omega (arith, fits, ap length c.split_at.ensures.front) }

pub place_escape-at-requires : goal.place_escape-at-requires
place_escape-at-requires c =
    let parts = length_to_byte c.run_len.result c.loop-byte.rest.now c.in-Some.after.now c.in-Some.byte.now
    (unescaped_run c.loop-byte.rest.now c.run_len.result c.run_len.ensures.run)
    (sym c.split_at.ensures.back ∙ c.in-Some.ensures.cases.0) in
    record { room = omega (arith, parts, ap length c.split_at.ensures.front) }

pub loop-byte-preserved : goal.loop-byte-preserved
loop-byte-preserved c =
    let parts = length_to_byte c.run_len.result c.loop-byte.rest.now c.in-Some.after.now c.in-Some.byte.now
    (unescaped_run c.loop-byte.rest.now c.run_len.result c.run_len.ensures.run)
    (sym c.split_at.ensures.back ∙ c.in-Some.ensures.cases.0) in
    let text = run_to_byte c.run_len.result c.loop-byte.rest.now c.in-Some.after.now c.in-Some.byte.now
    (unescaped_run c.loop-byte.rest.now c.run_len.result c.run_len.ensures.run)
    (sym c.split_at.ensures.back ∙ c.in-Some.ensures.cases.0) in
    let before = take c.loop-byte.at c.loop-byte.buf in
    let placed = placed_before before _ _ _ _ _ (c.place_slice-at.ensures.bytes ∙ ap (λ l. before ++ l) c.split_at.ensures.front)
    c.place_escape-at.ensures.bytes in
    record {
      bytes = placed ∙ ap (λ l. before ++ l) (sym text) ∙ c.loop-byte.invariant.bytes;
      next = omega (arith, parts, ap length c.split_at.ensures.front);
    }

pub returns-in_default-clause-bytes : goal.returns-in_default-clause-bytes
returns-in_default-clause-bytes c =
    let run = unescaped_run c.loop-byte.rest.now c.run_len.result c.run_len.ensures.run in
    let text = run_to_end c.run_len.result c.loop-byte.rest.now c.split_at.result.1.now run c.split_at.ensures.back
    c.in_default.ensures.cases in
    c.place_slice-at.ensures.bytes ∙ ap (λ l. take c.loop-byte.at c.loop-byte.buf ++ l) (c.split_at.ensures.front ∙ sym text)
    ∙ c.loop-byte.invariant.bytes

pub returns-in_default-clause-next : goal.returns-in_default-clause-next
returns-in_default-clause-next c =
    let run = unescaped_run c.loop-byte.rest.now c.run_len.result c.run_len.ensures.run in
    let text = run_to_end c.run_len.result c.loop-byte.rest.now c.split_at.result.1.now run c.split_at.ensures.back
    c.in_default.ensures.cases in
    omega (arith, c.place_slice-at.ensures.next, ap length (c.split_at.ensures.front ∙ sym text), c.loop-byte.invariant.next)
