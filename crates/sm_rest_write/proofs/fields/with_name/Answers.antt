use Rattle.std.proofs.Common.{◌++◌, ◌∷◌, [], ap, sym, ◌∙◌}
use Rattle.std.specs.Option.{option_map}
use Rattle.sm_rest.specs.messages.Names.{error_field_name}
use Rattle.sm_rest.specs.messages.WrittenHeads.{field_of}
use Rattle.sm_rest_write.specs.steps.ToldFields.{fields_telling}
use Rattle.sm_rest_write.proofs.fields.with_name.Goals as goal

pub returns-in_ok-push-in-Some : goal.returns-in_ok-push-in-Some
returns-in_ok-push-in-Some c =
    let before = c.args.fields.items in
    c.in_ok-push-in-Some.ensures.items
    ∙ ap (λ f. before ++ f ∷ []) (c.in_ok-written_field-in-Some.ensures ∙ ap (field_of error_field_name) c.as_bytes.ensures.value)
    ∙ ap (λ o. before ++ fields_telling (option_map (λ name. name.now) o)) (sym c.in-Some.is)
