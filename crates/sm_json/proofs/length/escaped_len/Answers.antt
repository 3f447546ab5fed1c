use Rattle.std.proofs.Common.{sym, ap, ◌∙◌, length, arith}
use Rattle.sm_json.proofs.PlainRuns.{unescaped_run, run_to_end, length_to_byte}
use Rattle.sm_json.proofs.length.escaped_len.Goals as goal

pub loop-byte-preserved : goal.loop-byte-preserved
loop-byte-preserved c =
    let parts = length_to_byte c.run_len.result c.loop-byte.rest.now c.in-Some.after.now c.in-Some.byte.now
    (unescaped_run c.loop-byte.rest.now c.run_len.result c.run_len.ensures.run)
    (sym c.split_at.ensures.back ∙ c.in-Some.ensures.cases.0) in
    omega (arith, parts, ap length c.split_at.ensures.front)

pub returns-in_default : goal.returns-in_default
returns-in_default c =
    let run = unescaped_run c.loop-byte.rest.now c.run_len.result c.run_len.ensures.run in
    let text = run_to_end c.run_len.result c.loop-byte.rest.now c.split_at.result.1.now run c.split_at.ensures.back
    c.in_default.ensures.cases in
    omega (arith, ap length (c.split_at.ensures.front ∙ sym text))
