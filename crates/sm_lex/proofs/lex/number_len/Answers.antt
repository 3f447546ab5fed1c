use Rattle.std.proofs.Common.{◌≡◌, true, rules}
use Rattle.sm_tree.proofs.Numbers.{number_from_whole, whole_from_number}
use Rattle.sm_lex.proofs.NumberRuns.{longest_number}
use Rattle.sm_lex.proofs.lex.number_len.Goals as goal

pub returns-then-is_whole : goal.returns-then-is_whole
returns-then-is_whole c =
    let run = c.number_run-run.ensures in (
      longest_number _ _ _ run.within run.taken run.longest,
      number_from_whole _ _ run.taken (c.is_whole.ensures.0 (search rules)),
    )

pub returns-else-is_whole : goal.returns-else-is_whole
returns-else-is_whole c =
    let run = c.number_run-run.ensures in (
      longest_number _ _ _ run.within run.taken run.longest,
      λ number. let whole : c.is_whole.result ≡ true = c.is_whole.ensures.1 (whole_from_number _ _ run.taken number) in absurd cc,
    )
