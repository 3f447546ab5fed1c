use Rattle.std.proofs.Common.{◌≡◌, true, take, sym, ap, subst, ◌∙◌}
use Rattle.std.specs.List.{prefix_len}
use Rattle.std.specs.Str.{IsCharBoundary}
use Rattle.std.specs.Prelude.{IsUtf8}
use Rattle.sm_select.specs.Tokens.{is_run_byte}
use Rattle.sm_select.specs.steps.Reader.{IsRunAt, begins_a_run}
use Rattle.sm_select.proofs.Boundaries.{run_boundary, run_found}
use Rattle.sm_select.proofs.parser_text.run_at.Goals as goal

pub split_at-requires : goal.split_at-requires
split_at-requires c =
    let e : c.run_len.result ≡ prefix_len is_run_byte c.args.rest.now =
    c.run_len.ensures.run ∙ ap (prefix_len is_run_byte) c.as_bytes-bytes.ensures.value in
    subst (IsCharBoundary c.args.rest.now) (sym e) (run_boundary c.args.rest.now
    (subst IsUtf8 c.as_bytes-bytes.ensures.value c.as_bytes-bytes.ensures.utf8))

pub returns-then-begins_a_run : goal.returns-then-begins_a_run
returns-then-begins_a_run c =
    let e : c.run_len.result ≡ prefix_len is_run_byte c.args.rest.now =
    c.run_len.ensures.run ∙ ap (prefix_len is_run_byte) c.as_bytes-bytes.ensures.value in
    let first : begins_a_run c.args.rest.now ≡ true =
    ap begins_a_run (sym c.as_bytes-bytes.ensures.value) ∙ sym c.begins_a_run.ensures ∙ c.if-begins_a_run.true in
    subst (IsRunAt c.args.rest.now) (sym (c.split_at.ensures.front ∙ ap (λ n. take n c.args.rest.now) e))
    (run_found c.args.rest.now first)
