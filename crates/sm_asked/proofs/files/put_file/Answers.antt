use Rattle.std.proofs.Common.{◌++◌, ◌∙◌, ◌∷◌, [], ap}
use Rattle.std.proofs.lemmas.List.{map-append}
use Rattle.sm_load.specs.ModelFiles.{file_given, file_view, given_files}
use Rattle.sm_asked.proofs.files.put_file.Goals as goal

pub returns : goal.returns
returns c =
    ap given_files c.in_ok-push.ensures.items ∙ map-append file_view c.args.files.now.items _
    ∙ ap (λ name. given_files c.args.files.now.items ++ file_given name c.args.bytes.items ∷ []) c.in_ok-name.ensures.bytes
