use Rattle.sm_select.proofs.Boundaries.{word_boundary}
use Rattle.sm_select.proofs.parser_taken.behind_run.Goals as goal

pub split_at-requires : goal.split_at-requires
split_at-requires c = word_boundary c.args.rest.now c.args.run.now c.requires c.utf8.rest
