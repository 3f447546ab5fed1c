use Rattle.sm_merge.specs.Files.{files_view}
use Rattle.sm_merge.specs.Stated.{stated_by}
use Rattle.sm_merge.proofs.MergeTold.{built_told}
use Rattle.sm_merge.proofs.StatedSound.{statements_sound}
use Rattle.sm_merge.proofs.merging.merge.Goals as goal

pub parts_of-requires : goal.parts_of-requires
parts_of-requires c =
    let files = files_view c.args.files.now in
    (stated_by files, record { sound = statements_sound files c.requires; tables = c.in-Ok.ensures })

pub built-requires : goal.built-requires
built-requires c =
    let files = files_view c.args.files.now in
    (c.in-Ok-parts_of.ensures (stated_by files) (record { sound = statements_sound files c.requires; tables = c.in-Ok.ensures })).0

pub returns-in-Err-parts_of : goal.returns-in-Err-parts_of
returns-in-Err-parts_of c =
    let files = files_view c.args.files.now in
    c.in-Err-parts_of.ensures (stated_by files) (record { sound = statements_sound files c.requires; tables = c.in-Ok.ensures })

pub returns-in-Ok-parts_of : goal.returns-in-Ok-parts_of
returns-in-Ok-parts_of c =
    let files = files_view c.args.files.now in
    built_told (stated_by files) c.in-Ok.tables c.in-Ok-parts_of.parts c.built.result c.built.ensures
    (c.in-Ok-parts_of.ensures (stated_by files) (record { sound = statements_sound files c.requires; tables = c.in-Ok.ensures }))
