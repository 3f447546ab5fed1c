use Rattle.std.proofs.Common.{◌≡◌, rules, subst, true≢false, sym, ◌∙◌}
use Rattle.sm_load.specs.ModelFiles.{EndsInJson, file_given}
use Rattle.sm_load.specs.steps.Stages.{ReadsFile}
use Rattle.sm_load.proofs.texts.statements_in.Goals as goal

pub returns-then-ends_in_json : goal.returns-then-ends_in_json
returns-then-ends_in_json c =
    let name : c.as_str.result.now ≡ c.args.file.name = search rules in
    c.tree_statements.ensures c.args.file.name (subst EndsInJson name (c.ends_in_json.ensures.0 c.if-ends_in_json.true))

pub returns : goal.returns
returns c =
    let name : c.as_str.result.now ≡ c.args.file.name = search rules in
    subst (λ bytes. ReadsFile (file_given c.args.file.name bytes) c.args.number c.text_statements.result) c.deref.ensures.value
    (c.text_statements.ensures c.args.file.name
    (λ named. true≢false (sym (c.ends_in_json.ensures.1 (subst EndsInJson (sym name) named)) ∙ c.if-ends_in_json.false)))
