use Rattle.std.proofs.Common.{◌≡◌, sym, subst, ap, ◌∙◌}
use Rattle.std.specs.Prelude.{IfOk}
use Rattle.sm_ids.specs.IdText.{IsIdText}
use Rattle.sm_merge.specs.Meaning.{meaning_in}
use Rattle.sm_merge.specs.steps.Known.{known}
use Rattle.sm_merge.proofs.MeantIds.{meaning_is_id}
use Rattle.sm_merge.proofs.stated.meant_id.Goals as goal

pub id_of_text-requires : goal.id_of_text-requires
id_of_text-requires c =
    let defined = known c.args.names.now in
    let r = c.args.reference.now in
    subst IsIdText (ap (meaning_in defined r) c.in-None.is ∙ sym c.as_str.ensures.bytes) (meaning_is_id defined r c.requires)

pub id_of_text-requires-in-Some : goal.id_of_text-requires-in-Some
id_of_text-requires-in-Some c =
    subst IsIdText (sym (c.as_str-in-Some.ensures.bytes ∙ c.in_ok-text-in-Some.ensures))
    (meaning_is_id (known c.args.names.now) c.args.reference.now c.requires)

pub returns-in-None : goal.returns-in-None
returns-in-None c =
    let meant = meaning_in (known c.args.names.now) c.args.reference.now in
    subst (λ text. IfOk c.id_of_text.result (λ id. id ≡ text)) (c.as_str.ensures.bytes ∙ ap meant (sym c.in-None.is)) c.id_of_text.ensures
