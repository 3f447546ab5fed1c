use Rattle.std.proofs.Common.{◌∙◌, ap, bytes_eq, sym}
use Rattle.sm_examples.proofs.ErrorsById.{id_there, none_past}
use Rattle.sm_examples.proofs.error_ids.has_id.Goals as goal

pub returns : goal.returns
returns c =
    c.eq.ensures
    ∙ ap (λ i. bytes_eq i c.args.id.now)
    (c.as_str.ensures ∙ sym (id_there c.args.errors.now c.args.place c.in-Some.error.now (sym c.in-Some.ensures)))

pub unreachable-requires : goal.unreachable-requires
unreachable-requires c = none_past c.args.errors.now c.args.place c.requires c.in-None.ensures
