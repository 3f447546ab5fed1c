use Rattle.std.proofs.Common.{◌++◌, sym, ap, ◌∙◌, append_assoc, string_bytes}
use Rattle.std.proofs.lemmas.List.{append-nil}
use Rattle.std.specs.Prelude.{codes}
use Rattle.sm_model.specs.Used.{shape_part}
use Rattle.sm_merge.specs.Meaning.{member_part, relative_meaning}
use Rattle.sm_merge.specs.steps.Known.{known}
use Rattle.sm_merge.proofs.Cuts.{dollar_behind, nothing_behind}
use Rattle.sm_merge.proofs.meaning.relative.Goals as goal

pub returns-in-None : goal.returns-in-None
returns-in-None c =
    let r = c.args.reference.now in
    let meant = relative_meaning (known c.args.names.now) r c.args.namespace.now in
    let text = c.as_str-text.result.now in
    c.in_ok-id.ensures ∙ ap meant (c.without_member-name.ensures ∙ ap shape_part c.as_str-text.ensures.bytes)
    ∙ sym (append-nil (meant (shape_part r.text)))
    ∙ ap (λ m. meant (shape_part r.text) ++ m) (sym (nothing_behind text c.in-None.ensures) ∙ ap member_part c.as_str-text.ensures.bytes)

pub returns-in_ok-push_str-in-Some-2 : goal.returns-in_ok-push_str-in-Some-2
returns-in_ok-push_str-in-Some-2 c =
    let r = c.args.reference.now in
    let meant = relative_meaning (known c.args.names.now) r c.args.namespace.now in
    let text = c.as_str-text.result.now in
    let member = c.in-Some.member.now in
    c.in_ok-push_str-in-Some-2.ensures.bytes ∙ ap (λ bs. bs ++ member) c.in_ok-push_str-in-Some.ensures.bytes
    ∙ append_assoc (string_bytes c.in_ok-id.id) (codes "$") member
    ∙ ap (λ bs. bs ++ (codes "$" ++ member))
    (c.in_ok-id.ensures ∙ ap meant (c.without_member-name.ensures ∙ ap shape_part c.as_str-text.ensures.bytes))
    ∙ ap (λ m. meant (shape_part r.text) ++ (codes "$" ++ m)) c.in-Some.ensures.1
    ∙ ap (λ m. meant (shape_part r.text) ++ m) (sym (dollar_behind text c.in-Some.ensures.0) ∙ ap member_part c.as_str-text.ensures.bytes)
