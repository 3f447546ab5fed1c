use Rattle.sm_load.specs.ModelFiles.{given_files}
use Rattle.sm_asked.proofs.loading.model_of.Goals as goal

pub returns-in-Err : goal.returns-in-Err
returns-in-Err c =
    let read = given_files c.args.read.items in
    c.not_loaded.ensures read (c.name_of-name.ensures read c.requires c.in-Err.ensures) c.in-Err.ensures
