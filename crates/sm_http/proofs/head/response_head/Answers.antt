use Rattle.std.proofs.Common.{sym, ◌∙◌}
use Rattle.httparse.specs.Grammar.{print_response}
use Rattle.sm_http.proofs.Found.{found_response, part_fits}
use Rattle.sm_http.proofs.head.response_head.Goals as goal

pub returns-in_ok-fields-in-Ok-Complete : goal.returns-in_ok-fields-in-Ok-Complete
returns-in_ok-fields-in-Ok-Complete c =
    let held = rw c.in-Ok-Complete.field-0-is at c.in-Ok-Complete.ensures.complete in
    let h = held.0 in
    let facts = held.1 in (
      (
        h,
        facts.reads,
        found_response h _ _ _ _ (sym c.unwrap-status.ensures ∙ facts.code)
            (sym c.unwrap-minor.ensures ∙ facts.version) c.in_ok-fields-in-Ok-Complete.ensures facts.fields,
      ),
      part_fits _ (print_response h) _ facts.reads.1 facts.len_is,
    )
