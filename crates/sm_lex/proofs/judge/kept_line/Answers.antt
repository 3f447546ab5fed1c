use Rattle.std.proofs.Common.{◌≡◌, ◌≤◌, ◌<◌, ap, subst, arith, ◌∙◌, length, get_or}
use Rattle.std.specs.Prelude.{IsUtf8}
use Rattle.sm_lex.specs.Lines.{leading_spaces}
use Rattle.sm_lex.proofs.LineCuts.{boundary_in_spaces}
use Rattle.sm_lex.proofs.judge.kept_line.Goals as goal

pub split_at-requires : goal.split_at-requires
split_at-requires c =
    let spaces : c.run_len.result ≡ leading_spaces c.args.line.text.now = c.run_len.ensures.run
    ∙ ap leading_spaces c.as_bytes.ensures.value in
    boundary_in_spaces c.args.line.text.now c.min-taken.result (subst IsUtf8 c.as_bytes.ensures.value c.as_bytes.ensures.utf8) (omega arith)

pub split_at-requires-2 : goal.split_at-requires-2
split_at-requires-2 c =
    let same = c.as_bytes-2.ensures.value in
    let within : c.kept_len.result ≤ length c.as_bytes-2.result.now = omega (arith, c.kept_len.ensures.value) in (
      omega (arith, ap length same),
      λ lt high.
          let low : get_or c.split_at.result.1.now c.kept_len.result 0 < 128 = subst (λ t. get_or t c.kept_len.result 0 < 128) same
          (c.kept_len.ensures.edge (omega (arith, ap length same))) in absurd (omega arith),
    )
