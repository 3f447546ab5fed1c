use Rattle.std.proofs.Common.{sym, ap, ◌∙◌, Some}
use Rattle.std.specs.Option.{option_copied}
use Rattle.httparse.specs.Grammar.{print_request}
use Rattle.sm_http.proofs.Found.{found_request, part_fits}
use Rattle.sm_http.proofs.head.request_head.Goals as goal

pub returns-in_ok-fields-in-Ok-Complete : goal.returns-in_ok-fields-in-Ok-Complete
returns-in_ok-fields-in-Ok-Complete c =
    let held = rw c.in-Ok-Complete.field-0-is at c.in-Ok-Complete.ensures.complete in
    let h = held.0 in
    let facts = held.1 in (
      (
        h,
        facts.reads,
        found_request h _ _ _ _ _
            (ap Some c.in_ok-method-in-Ok-Complete.ensures.bytes ∙ sym (ap option_copied c.unwrap.ensures) ∙ facts.method)
            (ap Some c.in_ok-target-in-Ok-Complete.ensures.bytes ∙ sym (ap option_copied c.unwrap-in-Ok-Complete.ensures) ∙ facts.path)
            (sym c.unwrap-minor.ensures ∙ facts.version) c.in_ok-fields-in-Ok-Complete.ensures facts.fields,
      ),
      part_fits _ (print_request h) _ facts.reads.1 facts.len_is,
    )
