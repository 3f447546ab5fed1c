use Rattle.sm_select.proofs.Boundaries.{dark_now}
use Rattle.sm_select.proofs.ReadPaths.{path_refused}
use Rattle.sm_select.proofs.parser_attribute.id_path.Goals as goal

pub returns-in_default-clause-read : goal.returns-in_default-clause-read
returns-in_default-clause-read c ss fs =
    path_refused c.args.reading.now.len ss fs c.args.reading.now.rest.now c.word-word.result.now c.refused.result c.requires
    c.word-word.ensures
    c.in_default.not-id (dark_now c.args.reading.now.rest.now c.args.reading.now.dark) c.refused.ensures
