use Rattle.std.proofs.Common.{◌≡◌, ◌+◌, ◌<◌, length, take, false, get_or, sym, ap, ◌∙◌, arith}
use Rattle.sm_select.specs.steps.Taking.{run_after, run_open}
use Rattle.sm_select.proofs.LongestNumbers.{leads_more, longest_all, longest_next, longest_stopped, open_next}
use Rattle.sm_select.proofs.parser_number.number_len.Goals as goal

pub loop-at-preserved : goal.loop-at-preserved
loop-at-preserved c =
    let s = c.args.bytes.now in
    let at = c.loop-at.at in
    let less : at < length s = c.loop-at-test.true in
    let leads = leads_more s at c.loop-at.phase c.in-Some.next less c.loop-at.invariant.leads c.in-Some.ensures.0 in
    let run : c.run_behind-in_run.result ≡ run_open false (take (at + 1) s) =
    c.run_behind-in_run.ensures ∙ ap (λ b. run_after b (get_or s at 0)) c.loop-at.invariant.run ∙ sym (open_next s at less) in
    record {
      within = omega (arith, less);
      leads = leads;
      run = run;
      longest = longest_next s at c.loop-at.len c.longer-len.result c.in-Some.next c.run_behind-in_run.result less leads run
          c.loop-at.invariant.longest c.longer-len.ensures;
    }

pub returns-in-None : goal.returns-in-None
returns-in-None c =
    longest_stopped c.args.bytes.now c.loop-at.at c.loop-at.len c.loop-at.phase c.loop-at.invariant.leads c.loop-at.invariant.longest
    c.loop-at.invariant.within c.in-None.ensures

pub returns : goal.returns
returns c =
    let stop = c.loop-at-test.false in
    longest_all c.args.bytes.now c.loop-at.at c.loop-at.len c.loop-at.invariant.longest c.loop-at.invariant.within (omega (arith, stop))
