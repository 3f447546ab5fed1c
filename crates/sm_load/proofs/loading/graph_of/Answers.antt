use Rattle.sm_merge.specs.Files.{files_view}
use Rattle.sm_load.specs.ModelFiles.{given_files}
use Rattle.sm_load.proofs.GraphsMade.{graph_made, no_statements}
use Rattle.sm_load.proofs.loading.graph_of.Goals as goal

pub returns-in-Ok : goal.returns-in-Ok
returns-in-Ok c =
    graph_made (given_files c.args.files.items) (files_view c.in-Ok.said.items) c.merged.result c.in-Ok.ensures.0 c.in-Ok.ensures.1
    c.merged.ensures

pub returns-in-Err : goal.returns-in-Err
returns-in-Err c = no_statements (given_files c.args.files.items) c.in-Err.refusal c.in-Err.ensures
