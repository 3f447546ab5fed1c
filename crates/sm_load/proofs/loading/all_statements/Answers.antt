use Rattle.std.proofs.Common.{◌≡◌, ◌++◌, ◌∷◌, [], ap, arith, length, rules, subst, sym, ◌∙◌}
use Rattle.std.proofs.lemmas.Grind.{common_steps}
use Rattle.std.proofs.lemmas.List.{length-map, map-append, nil_from_length}
use Rattle.std.specs.Vec.Iter.{into_iter_items}
use Rattle.sm_model.specs.SaidView.{statements_view}
use Rattle.sm_merge.specs.Files.{files_view}
use Rattle.sm_load.specs.ModelFiles.{HaveStatements, file_view, given_files}
use Rattle.sm_load.specs.steps.Stages.{AreBehind, StopsFiles}
use Rattle.sm_load.proofs.FilesSaid.{all_behind, file_stops, none_behind, one_behind}
use Rattle.sm_load.proofs.loading.all_statements.Goals as goal

pub loop-file-init : goal.loop-file-init
loop-file-init c =
    let all = given_files (into_iter_items c.into_iter-file-iterator.result) in
    record { behind = subst (λ said. AreBehind all all (files_view said)) (sym c.new-said.ensures.items) (none_behind all) }

pub loop-file-preserved : goal.loop-file-preserved
loop-file-preserved c =
    let all = given_files (into_iter_items c.into_iter-file-iterator.result) in
    let here = given_files (into_iter_items c.loop-file.file-iterator) in
    let rest = given_files (into_iter_items c.next.new.self) in
    let s = statements_view c.in-Ok.statements.items in
    let before = files_view c.loop-file.said.items in
    let after = files_view c.push.new.self.items in
    let parts : here ≡ file_view c.in-Some.file ∷ rest = ap given_files c.in-Some.ensures.steps.0 in
    let put : after ≡ before ++ s ∷ [] = ap files_view c.in-Ok-push.ensures.items
    ∙ map-append (λ file. statements_view file.items) c.loop-file.said.items (c.in-Ok.statements ∷ []) in
    record {
      behind = one_behind all here rest (file_view c.in-Some.file) before after s parts put c.loop-file.invariant.behind
          c.in-Ok.ensures.0 c.in-Ok.ensures.1;
    }

pub returns-in-Err : goal.returns-in-Err
returns-in-Err c =
    let files : into_iter_items c.into_iter-file-iterator.result ≡ c.args.files.items = search rules in
    let counted : c.len.result ≡ length (files_view c.loop-file.said.items) = search (rules, length-map) in
    subst (λ fs. StopsFiles (given_files fs) c.in-Err.refusal) files
    (file_stops (given_files (into_iter_items c.into_iter-file-iterator.result)) (given_files (into_iter_items c.loop-file.file-iterator))
    (given_files (into_iter_items c.next.new.self)) (file_view c.in-Some.file) (files_view c.loop-file.said.items) c.len.result
    c.in-Err.refusal (ap given_files c.in-Some.ensures.steps.0) counted c.loop-file.invariant.behind c.in-Err.ensures)

pub returns : goal.returns
returns c =
    let files : into_iter_items c.into_iter-file-iterator.result ≡ c.args.files.items = search rules in
    let ended : into_iter_items c.loop-file.file-iterator ≡ [] =
    first_of (grind (arith, common_steps), search (rules, nil_from_length)) in (
      subst (λ fs. HaveStatements (given_files fs) (files_view c.loop-file.said.items)) files
          (all_behind (given_files (into_iter_items c.into_iter-file-iterator.result))
          (given_files (into_iter_items c.loop-file.file-iterator)) (files_view c.loop-file.said.items) (ap given_files ended)
          c.loop-file.invariant.behind),
      c.loop-file.invariant.behind.formed,
    )
