use Rattle.std.proofs.Common.{[], ◌∷◌, ◌++◌}
use Rattle.sm_select.specs.View.{path_view, step_view}
use Rattle.sm_select.specs.steps.Places.{behind_path, path_wanted, stepping}
use Rattle.sm_select.proofs.Stopped.{read_behind}
use Rattle.sm_select.proofs.parser_attribute.attribute.Goals as goal

pub returns-in-Ok-clause-read : goal.returns-in-Ok-clause-read
returns-in-Ok-clause-read c ss fs =
    read_behind c.args.reading.now.len c.path.new.reading.len (path_wanted ss fs) (behind_path ss fs (path_view c.in-Ok.path))
    c.args.reading.now.rest.now c.path.new.reading.rest.now c.behind_path.new.reading.rest.now (λ s. stepping (ss ++ step_view s ∷ []) fs)
    c.behind_path.result c.in-Ok.ensures.len (c.in-Ok.ensures.read ss fs) (c.behind_path.ensures.read ss fs)
